use Rattle.std.proofs.Common.{◌≡◌, ◌+◌, ◌≤◌, length, take}
use Rattle.std.specs.List.{suffix_len}
use Rattle.mk_v3000.specs.LogicalLines.{is_blank_or_cr}
use Rattle.mk_v3000.proofs.logical_lines.length_without_last.Given as goal

abbrev pub invariant-loop-size : goal.invariant-loop-size
invariant-loop-size l =
    (l.size ≤ length l.cells) × (l.size + suffix_len is_blank_or_cr l.cells ≡ length l.cells + suffix_len is_blank_or_cr (take l.size l.cells))

abbrev pub decreases-loop-size : goal.decreases-loop-size
decreases-loop-size l = l.size
