use Rattle.mk_laws.proofs.JoinLemmas.{two_scripts}
use Rattle.mk_laws.proofs.laws.two_scripts.Goals as goal

pub returns : goal.returns
returns c = two_scripts
