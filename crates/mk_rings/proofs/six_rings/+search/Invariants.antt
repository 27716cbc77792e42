use Rattle.std.proofs.Common.{◌<◌, ◌+◌, ◌-◌, ◌*◌, ℕ, drop, get_or}
use Rattle.mk_marks.specs.SixRings.{ClosesBy, set_of}
use Rattle.mk_rings.specs.Reach.{MaySkip}
use Rattle.mk_rings.proofs.six_rings.+search.Given as goal

abbrev pub decreases-can_close : goal.decreases-can_close
decreases-can_close l = 2 * l.left + 1

abbrev pub decreases-closes_over : goal.decreases-closes_over
decreases-closes_over l = 2 * l.left

abbrev pub invariant-can_close-loop-i : goal.invariant-can_close-loop-i
invariant-can_close-loop-i l =
    MaySkip l.bonds (set_of l.marks) l.start l.two l.three l.stamp l.label l.left → (i : ℕ) → i < l.i
    → ClosesBy l.bonds (set_of l.marks) l.start (drop l.left l.path) l.at l.label l.left (get_or l.numbers i 0 - 1)
    → ⊥
