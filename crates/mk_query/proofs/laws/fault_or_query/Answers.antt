use Rattle.mk_query.proofs.FaultOrQueryLemmas.{fault_or_query}
use Rattle.mk_query.proofs.OneFaultLemmas.{no_fault}
use Rattle.mk_query.proofs.laws.fault_or_query.Goals as goal

pub returns-clause-either : goal.returns-clause-either
returns-clause-either c = fault_or_query

pub returns-clause-not_both : goal.returns-clause-not_both
returns-clause-not_both c = no_fault c.one_query.ensures
