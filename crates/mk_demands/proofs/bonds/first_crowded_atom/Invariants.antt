use Rattle.std.proofs.Common.{ℕ, ◌<◌, ◌≤◌, ◌+◌, List, length}
use Rattle.mk_text.specs.Items.{OfItem}
use Rattle.mk_demands.proofs.bonds.first_crowded_atom.Given as goal

abbrev pub invariant-loop-i : goal.invariant-loop-i
invariant-loop-i l = (j : ℕ) → j < l.i + 1 → OfItem (λ (numbers : List ℕ). length numbers ≤ 20) l.near j
