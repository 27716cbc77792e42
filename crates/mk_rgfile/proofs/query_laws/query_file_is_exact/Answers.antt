use Rattle.mk_rgfile.proofs.QueryLawLemmas.{one_query, bad_where_none, one_bad}
use Rattle.mk_rgfile.proofs.query_laws.query_file_is_exact.Goals as goal

pub returns-clause-one : goal.returns-clause-one
returns-clause-one c = one_query

pub returns-clause-bad : goal.returns-clause-bad
returns-clause-bad c = bad_where_none

pub returns-clause-one_bad : goal.returns-clause-one_bad
returns-clause-one_bad c = one_bad
