use Rattle.std.proofs.Common.{◌≡◌, ◌+◌, ◌-◌, get_or}
use Rattle.mk_marks.specs.SixRings.{set_of}
use Rattle.mk_rings.specs.Reach.{Further, KeepsStamps}
use Rattle.mk_rings.specs.Rounds.{AllBelow}
use Rattle.mk_rings.proofs.ReachLemmas.{EachTo}
use Rattle.mk_rings.proofs.reach.reach_two.Given as goal

abbrev pub invariant-loop-i : goal.invariant-loop-i
invariant-loop-i l = record {
  led : EachTo l.bonds (set_of l.marks) l.y l.label l.numbers l.i (λ z. get_or l.two z 0 ≡ l.stamp);
  kept : KeepsStamps l.stamp l.fn.two l.two;
  further : Further l.bonds (set_of l.marks) (3 - l.label) l.two l.three l.stamp;
  below_two : AllBelow (l.stamp + 1) l.fn.two → AllBelow (l.stamp + 1) l.two;
  below_three : AllBelow (l.stamp + 1) l.fn.three → AllBelow (l.stamp + 1) l.three;
}
