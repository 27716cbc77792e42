use Rattle.std.proofs.Common.{◌≡◌, ℕ, ◌<◌, ◌+◌, ◌≤◌, All, length, take}
use Rattle.mk_query.specs.Checks.{LeavesFewBonds}
use Rattle.mk_query.specs.Searches.{AreCounts}
use Rattle.mk_query.proofs.bond_checks.first_crowding_bond.Given as goal

abbrev pub invariant-loop-i : goal.invariant-loop-i
invariant-loop-i l =
    record {
      size : length l.counts.items ≡ l.atoms;
      counts : AreCounts (take l.i l.bonds) l.counts.items;
      few : All (λ (count : ℕ). count ≤ 20) l.counts.items;
      before : (j : ℕ) → j < l.i + 1 → LeavesFewBonds l.atoms l.bonds j;
    }
