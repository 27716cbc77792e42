use Rattle.std.proofs.lemmas.Result.{err_from_is_err_and}
use Rattle.mk_form.specs.Lines.{line}
use Rattle.mk_form.proofs.RowLoops.{rows_left_item, rows_left_end}
use Rattle.mk_text.specs.Lines.{lines_of}
use Rattle.mk_tables.proofs.FaultLemmas.{rows_fail}
use Rattle.mk_tables.proofs.table_walk.rows_from.Goals as goal

pub returns-in_err-row : goal.returns-in_err-row
returns-in_err-row g c =
    let lines = lines_of c.args.text.now in
    let fault = err_from_is_err_and c.from_residual-in_err-row.result c.from_residual-in_err-row.ensures.1 in
    rw (fault.1, fault.2) (rows_fail (line g.R.Row.row_of) lines c.args.from.line c.args.count c.loop-i.rows.items
    c.loop-i.i c.loop-i.at.line c.in_err-row.field-0.0 c.loop-i-test.true c.loop-i.invariant.left
    c.in_err-row.ensures)

pub loop-i-preserved : goal.loop-i-preserved
loop-i-preserved g c =
    let lines = lines_of c.args.text.now in
    record {
      start = c.in_ok-row.ensures.start;
      left = rw c.in_ok-push.ensures.items (rows_left_item (line g.R.Row.row_of) lines c.args.from.line c.args.count
          c.loop-i.rows.items c.loop-i.i c.loop-i.at.line c.in_ok-row.next.line c.in_ok-row.row c.loop-i-test.true
          c.loop-i.invariant.left c.in_ok-row.ensures.takes);
    }

pub returns : goal.returns
returns g c =
    let lines = lines_of c.args.text.now in
    rw c.of.ensures (record {
      takes = rows_left_end (line g.R.Row.row_of) lines c.args.from.line c.args.count c.loop-i.rows.items c.loop-i.i c.loop-i.at.line c.loop-i-test.false c.loop-i.invariant.left;
      start = c.loop-i.invariant.start;
    })
