use Rattle.std.proofs.Common.{◌≡◌, ◌≤◌, ℕ, false}
use Rattle.mk_query.specs.AtomMarks.{bears}
use Rattle.mk_query.proofs.points.first_bearer.Given as goal

abbrev pub invariant-loop-i : goal.invariant-loop-i
invariant-loop-i l = (y : ℕ) → 1 ≤ y → y ≤ l.i → bears l.standing l.p y ≡ false
