use Rattle.std.proofs.Common.{◌≡◌, ◌≤◌, ◌<◌, ◌-◌, ℕ, eqb, false, get_or, length}
use Rattle.mk_text.proofs.cutting.first_from.Given as goal

abbrev pub invariant-loop-at : goal.invariant-loop-at
invariant-loop-at l = record {
  behind : l.from ≤ l.at;
  inside : l.at ≤ length l.text;
  none : (k : ℕ) → l.from ≤ k → k < l.at → eqb (get_or l.text k 0) l.byte ≡ false;
}

abbrev pub decreases-loop-at : goal.decreases-loop-at
decreases-loop-at l = length l.text - l.at
