use Rattle.mk_search.proofs.SomePacedLemmas.{paced_pages_there}
use Rattle.mk_search.proofs.laws.paced_pages_are_there.Goals as goal

pub returns : goal.returns
returns c = paced_pages_there
