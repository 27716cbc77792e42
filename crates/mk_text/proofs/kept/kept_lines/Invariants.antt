use Rattle.std.proofs.Common.{◌≡◌, take}
use Rattle.mk_text.specs.KeptLines.{kept_lines}
use Rattle.mk_text.specs.Spans.{parts}
use Rattle.mk_text.proofs.kept.kept_lines.Given as goal

abbrev pub invariant-loop-line : goal.invariant-loop-line
invariant-loop-line l = l.kept.items ≡ kept_lines (parts l.text (take l.line-index l.lines))
