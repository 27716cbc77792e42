use Rattle.std.proofs.Common.{◌≤◌, ◌-◌, false, length}
use Rattle.std.specs.Prelude.{slice_range}
use Rattle.mk_form.specs.ToEnd.{EachIs}
use Rattle.mk_text.specs.Lines.{lines_of}
use Rattle.mk_text.specs.LineStart.{IsLineStart}
use Rattle.mk_sdfile.specs.Sdfile.{is_separator}
use Rattle.mk_sdfile.proofs.sdfile.data_from.Given as goal

abbrev pub invariant-loop-line : goal.invariant-loop-line
invariant-loop-line l = record { start : IsLineStart l.text l.at; order : l.fn.from.line ≤ l.at.line; none : EachIs is_separator false (slice_range (lines_of l.text) l.fn.from.line l.at.line) }

abbrev pub decreases-loop-line : goal.decreases-loop-line
decreases-loop-line l = length (lines_of l.text) - l.at.line
