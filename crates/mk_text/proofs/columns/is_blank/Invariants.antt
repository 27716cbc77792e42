use Rattle.std.proofs.Common.{◌≡◌, drop}
use Rattle.mk_text.specs.Columns.{are_blank}
use Rattle.mk_text.proofs.columns.is_blank.Given as goal

abbrev pub invariant-loop-byte : goal.invariant-loop-byte
invariant-loop-byte l = are_blank l.line ≡ are_blank (drop l.byte-index l.line)
