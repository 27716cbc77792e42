use Rattle.std.proofs.Common.{◌≤◌, ℕ}
use Rattle.mk_query.specs.CompileFaults.{groups_of_number}
use Rattle.mk_query.proofs.whole_checks.first_of_whole.Given as goal

abbrev pub invariant-loop-i : goal.invariant-loop-i
invariant-loop-i l = (g : ℕ) → 1 ≤ g → g ≤ l.i → groups_of_number g l.raw.groups ≤ 1
