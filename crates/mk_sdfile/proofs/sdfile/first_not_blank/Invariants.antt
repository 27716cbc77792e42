use Rattle.std.proofs.Common.{◌≡◌, ◌-◌, drop, length}
use Rattle.mk_form.specs.ToEnd.{read_all}
use Rattle.mk_text.specs.Columns.{are_blank}
use Rattle.mk_text.specs.Lines.{lines_of}
use Rattle.mk_text.specs.LineStart.{IsLineStart}
use Rattle.mk_sdfile.proofs.sdfile.first_not_blank.Given as goal

abbrev pub invariant-loop-line : goal.invariant-loop-line
invariant-loop-line l = record { start : IsLineStart l.text l.at; same : read_all are_blank (drop l.fn.from.line (lines_of l.text)) ≡ read_all are_blank (drop l.at.line (lines_of l.text)) }

abbrev pub decreases-loop-line : goal.decreases-loop-line
decreases-loop-line l = length (lines_of l.text) - l.at.line
