use Rattle.std.proofs.Common.{◌≡◌, ◌+◌, ◌<◌, ℕ, length, get_or}
use Rattle.mk_layout.specs.Blocks.{taken_by, takes}
use Rattle.mk_layout.proofs.blocks.put_taker.Given as goal

abbrev pub invariant-loop-i : goal.invariant-loop-i
invariant-loop-i l =
    (length l.takers.items ≡ length l.initial.takers.items)
    × ((j : ℕ) → j < l.i → get_or l.takers.items j 0 ≡ taken_by l.number (get_or l.initial.takers.items j 0) (takes l.labels l.slot (j + 1)))
    × ((j : ℕ) → l.i < j + 1 → get_or l.takers.items j 0 ≡ get_or l.initial.takers.items j 0)
