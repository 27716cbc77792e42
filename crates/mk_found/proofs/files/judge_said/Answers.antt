use Rattle.std.proofs.Common.{◌∙◌}
use Rattle.mk_query.specs.declared.compile_fault.FaultAt.{FaultAt}
use Rattle.mk_found.specs.QueryFiles.{BadQueryLine, QueryFailsCheck, V3000QueryLine}
use Rattle.mk_found.proofs.files.judge_said.Goals as goal

pub returns-in_ok-bad_query_line-in-Bad : goal.returns-in_ok-bad_query_line-in-Bad
returns-in_ok-bad_query_line-in-Bad c = λ text is.
    BadQueryLine c.in-Bad.line (rw c.in-Bad.is at is) (c.of.ensures ∙ c.in_ok-bad_query_line-in-Bad.ensures)

pub returns-in_ok-v3000_query_line-in-V3000 : goal.returns-in_ok-v3000_query_line-in-V3000
returns-in_ok-v3000_query_line-in-V3000 c = λ text is.
    V3000QueryLine c.in-V3000.line (rw c.in-V3000.is at is) (c.of-in-V3000.ensures ∙ c.in_ok-v3000_query_line-in-V3000.ensures)

pub returns-in_ok-failed_query_check-in-Fails : goal.returns-in_ok-failed_query_check-in-Fails
returns-in_ok-failed_query_check-in-Fails c = λ text is.
    let fault : FaultAt = record { check = c.in-Fails.check; table = c.in-Fails.table; item = c.in-Fails.item } in
    QueryFailsCheck fault (rw c.in-Fails.is at is) (c.of-in-Fails.ensures ∙ c.in_ok-failed_query_check-in-Fails.ensures)
