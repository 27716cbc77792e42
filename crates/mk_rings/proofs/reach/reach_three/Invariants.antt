use Rattle.std.proofs.Common.{◌≡◌, ◌+◌, get_or}
use Rattle.mk_marks.specs.SixRings.{set_of}
use Rattle.mk_rings.specs.Reach.{KeepsStamps}
use Rattle.mk_rings.specs.Rounds.{AllBelow}
use Rattle.mk_rings.proofs.ReachLemmas.{EachTo}
use Rattle.mk_rings.proofs.reach.reach_three.Given as goal

abbrev pub invariant-loop-i : goal.invariant-loop-i
invariant-loop-i l = record {
  led : EachTo l.bonds (set_of l.marks) l.z l.label l.numbers l.i (λ w. get_or l.three w 0 ≡ l.stamp);
  kept : KeepsStamps l.stamp l.fn.three l.three;
  below : AllBelow (l.stamp + 1) l.fn.three → AllBelow (l.stamp + 1) l.three;
}
