use Rattle.mk_tables.proofs.TableLawLemmas.{one, bad_where_none, one_bad}
use Rattle.mk_tables.proofs.TableLemmas.{exact-table}
use Rattle.mk_tables.proofs.laws.table_is_exact.Goals as goal

pub returns-clause-one : goal.returns-clause-one
returns-clause-one c = one

pub returns-clause-bad : goal.returns-clause-bad
returns-clause-bad c = bad_where_none

pub returns-clause-one_bad : goal.returns-clause-one_bad
returns-clause-one_bad c = one_bad

pub returns-clause-exact : goal.returns-clause-exact
returns-clause-exact c = exact-table
