use Rattle.std.proofs.Common.{◌≡◌, ◌+◌, ◌≤◌, eqb, length, take}
use Rattle.std.specs.List.{suffix_len}
use Rattle.mk_text.proofs.columns.length_without_last.Given as goal

abbrev pub invariant-loop-size : goal.invariant-loop-size
invariant-loop-size l =
    (l.size ≤ length l.cells) × (l.size + suffix_len (λ cell. eqb cell l.byte) l.cells ≡ length l.cells + suffix_len (λ cell. eqb cell l.byte) (take l.size l.cells))

abbrev pub decreases-loop-size : goal.decreases-loop-size
decreases-loop-size l = l.size
