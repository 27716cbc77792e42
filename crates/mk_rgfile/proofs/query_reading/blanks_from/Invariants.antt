use Rattle.std.proofs.Common.{◌≡◌, drop}
use Rattle.mk_form.specs.ToEnd.{read_all}
use Rattle.mk_text.specs.Columns.{are_blank}
use Rattle.mk_text.specs.Lines.{lines_of}
use Rattle.mk_rgfile.proofs.query_reading.blanks_from.Given as goal

abbrev pub invariant-loop-i : goal.invariant-loop-i
invariant-loop-i l = read_all are_blank (drop l.i (lines_of l.text)) ≡ read_all are_blank (drop l.at (lines_of l.text))
