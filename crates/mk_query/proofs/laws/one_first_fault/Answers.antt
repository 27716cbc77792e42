use Rattle.mk_query.proofs.OneFaultLemmas.{one_first_fault}
use Rattle.mk_query.proofs.laws.one_first_fault.Goals as goal

pub returns : goal.returns
returns c = one_first_fault c.one_query.ensures
