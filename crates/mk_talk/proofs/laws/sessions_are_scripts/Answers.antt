use Rattle.mk_talk.proofs.LawLemmas.{sessions_are_scripts}
use Rattle.mk_talk.proofs.laws.sessions_are_scripts.Goals as goal

pub returns : goal.returns
returns c = sessions_are_scripts
