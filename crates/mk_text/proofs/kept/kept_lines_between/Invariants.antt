use Rattle.std.proofs.Common.{◌≡◌}
use Rattle.std.specs.Prelude.{slice_range}
use Rattle.mk_text.specs.KeptLines.{kept_lines}
use Rattle.mk_text.specs.Lines.{lines_of}
use Rattle.mk_text.specs.LineStart.{IsLineStart}
use Rattle.mk_text.proofs.kept.kept_lines_between.Given as goal

abbrev pub invariant-loop-i : goal.invariant-loop-i
invariant-loop-i l = record { start : IsLineStart l.text l.at; counted : l.at.line ≡ l.i; so_far : l.kept.items ≡ kept_lines (slice_range (lines_of l.text) l.fn.from.line l.i) }
