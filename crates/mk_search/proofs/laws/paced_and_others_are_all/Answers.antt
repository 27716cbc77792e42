use Rattle.mk_search.proofs.PacedLemmas.{paced_and_others}
use Rattle.mk_search.proofs.laws.paced_and_others_are_all.Goals as goal

pub returns : goal.returns
returns c = paced_and_others
