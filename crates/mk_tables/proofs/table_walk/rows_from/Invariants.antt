use Rattle.mk_form.specs.Lines.{line}
use Rattle.mk_form.proofs.RowLoops.{RowsLeft}
use Rattle.mk_text.specs.Lines.{lines_of}
use Rattle.mk_text.specs.LineStart.{IsLineStart}
use Rattle.mk_tables.proofs.table_walk.rows_from.Given as goal

abbrev pub invariant-loop-i : goal.invariant-loop-i
invariant-loop-i g l = record { start : IsLineStart l.text l.at; left : RowsLeft (line g.R.Row.row_of) (lines_of l.text) l.fn.from.line l.count l.rows.items l.i l.at.line }
