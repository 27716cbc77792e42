use Rattle.std.proofs.Common.{ℕ, ◌≤◌}
use Rattle.std.specs.Prelude.{IsTrue, pos}
use Rattle.mk_query.specs.Marks.{has_group, is_served}
use Rattle.mk_query.proofs.sites.are_served.Given as goal

abbrev pub invariant-loop-i : goal.invariant-loop-i
invariant-loop-i l = (g : ℕ) → 1 ≤ g → g ≤ l.i → IsTrue (has_group l.groups g) → IsTrue (is_served l.served (pos g))
