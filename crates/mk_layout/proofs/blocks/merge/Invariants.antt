use Rattle.std.proofs.Common.{◌≡◌, ◌+◌, ◌<◌, ℕ, length, get_or}
use Rattle.mk_layout.specs.Blocks.{merged}
use Rattle.mk_layout.proofs.blocks.merge.Given as goal

abbrev pub invariant-loop-i : goal.invariant-loop-i
invariant-loop-i l =
    (length l.labels.items ≡ length l.initial.labels.items)
    × ((j : ℕ) → j < l.i → get_or l.labels.items j 0 ≡ merged l.old l.new (get_or l.initial.labels.items j 0))
    × ((j : ℕ) → l.i < j + 1 → get_or l.labels.items j 0 ≡ get_or l.initial.labels.items j 0)
