use Rattle.std.proofs.Common.{◌≡◌, ◌<◌, ◌≤◌, ℕ, length, get_or, drop}
use Rattle.std.specs.Prelude.{filter}
use Rattle.mk_layout.specs.Blocks.{AreLabels, stay}
use Rattle.mk_layout.proofs.blocks.labels_of.Given as goal

abbrev pub invariant-loop-i : goal.invariant-loop-i
invariant-loop-i l = (length l.labels.items ≡ l.i) × ((j : ℕ) → j < l.i → get_or l.labels.items j 0 ≡ j)

abbrev pub invariant-loop-k : goal.invariant-loop-k
invariant-loop-k l = (l.k ≤ length l.bonds) × (length l.labels.items ≡ l.count) × AreLabels (filter (stay l.slots) (drop l.k l.bonds)) l.labels.items

abbrev pub decreases-loop-k : goal.decreases-loop-k
decreases-loop-k l = l.k
