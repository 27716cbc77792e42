use Rattle.std.proofs.lemmas.Result.{err_from_is_err_and}
use Rattle.std.proofs.Common.{drop}
use Rattle.mk_form.specs.Lines.{line_where}
use Rattle.mk_text.specs.Lines.{lines_of}
use Rattle.mk_tables.specs.TableLines.{is_v3000}
use Rattle.mk_tables.proofs.ForCallers.{block_fails}
use Rattle.mk_v3000.specs.Walk.{first_walk}
use Rattle.mk_v3000.specs.Walking.{walk_part, end_part, behind_counts}
use Rattle.mk_v3000.proofs.ReaderLemmas.{v3000_is, body_left, table_read, table_fails}
use Rattle.mk_v3000.proofs.v3000.v3000_from.Goals as goal

pub returns-in_err-next : goal.returns-in_err-next
returns-in_err-next c =
    let lines = lines_of c.args.text.now in
    let fault = err_from_is_err_and c.from_residual.result c.from_residual.ensures.1 in
    rw (fault.1, fault.2) (block_fails (line_where is_v3000) (λ _. behind_counts) lines c.args.at.line (v3000_is (drop c.args.at.line lines)) c.in_err-next.field-0.0 c.in_err-next.ensures)

pub returns-in_err-walk : goal.returns-in_err-walk
returns-in_err-walk c =
    let lines = lines_of c.args.text.now in
    let fault = err_from_is_err_and c.from_residual-in_err-walk.result c.from_residual-in_err-walk.ensures.1 in
    let left = body_left lines c.args.at.line c.in_ok-next.next.line c.in_ok-next.ensures.takes in
    rw (fault.1, fault.2) (block_fails (walk_part first_walk) end_part lines c.in_ok-next.next.line left c.in_err-walk.field-0.0 c.in_err-walk.ensures)

pub returns-in_err-next-2 : goal.returns-in_err-next-2
returns-in_err-next-2 c =
    let lines = lines_of c.args.text.now in
    let fault = err_from_is_err_and c.from_residual-in_err-next-2.result c.from_residual-in_err-next-2.ensures.1 in
    let walk = c.in_ok-walk in
    rw (fault.1, fault.2) (table_fails lines c.args.at.line c.in_ok-next.next.line c.in_ok-next.ensures.takes
    walk.next.line walk.walk walk.ensures.takes c.in_err-next-2.field-0.0 c.in_err-next-2.ensures)

pub returns : goal.returns
returns c =
    let lines = lines_of c.args.text.now in
    let walk = c.in_ok-walk in
    record {
      takes = table_read lines c.args.at.line c.in_ok-next.next.line c.in_ok-next.ensures.takes walk.next.line walk.walk walk.ensures.takes c.in_ok-next-2.next.line c.in_ok-next-2.ensures.takes;
      start = c.in_ok-next-2.ensures.start;
    }
