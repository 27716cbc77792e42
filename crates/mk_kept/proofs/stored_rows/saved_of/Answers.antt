use Rattle.std.proofs.Common.{◌∙◌}
use Rattle.mk_kept.proofs.RestoredLemmas.{cursor_fails, query_fails}
use Rattle.mk_kept.proofs.stored_rows.saved_of.Goals as goal

pub returns-in-Err : goal.returns-in-Err
returns-in-Err c = query_fails (Unit {0}) c.args.tables.now c.as_slice.result.now c.in-Err.fail c.as_slice.ensures c.in-Err.ensures.read

pub returns-in-Err-read_cursors : goal.returns-in-Err-read_cursors
returns-in-Err-read_cursors c =
    let queries = c.in_default.ensures.rows ∙ c.as_slice.ensures in
    let next = c.read_queries.ensures.next ∙ c.new-saved.ensures.next in
    let each = rw c.as_slice.ensures at c.in_default.ensures.read in
    cursor_fails (Unit {0}) c.args.tables.now _ _ c.as_slice-2.result.now c.in-Err-read_cursors.fail queries next c.as_slice-2.ensures each c.in-Err-read_cursors.ensures.read
