use Rattle.std.proofs.Common.{◌+◌, ◌-◌}
use Rattle.mk_marks.specs.SixRings.{set_of}
use Rattle.mk_rings.specs.Reach.{Further, LeadsToStamped}
use Rattle.mk_rings.specs.Rounds.{AllBelow}
use Rattle.mk_rings.proofs.ReachLemmas.{EachTo}
use Rattle.mk_rings.proofs.reach.reach.Given as goal

abbrev pub invariant-loop-i : goal.invariant-loop-i
invariant-loop-i l = record {
  ends : EachTo l.bonds (set_of l.marks) l.start l.label l.numbers l.i (LeadsToStamped l.bonds (set_of l.marks) (3 - l.label) l.two l.stamp);
  further : Further l.bonds (set_of l.marks) l.label l.two l.three l.stamp;
  below_two : AllBelow (l.stamp + 1) l.two;
  below_three : AllBelow (l.stamp + 1) l.fn.three → AllBelow (l.stamp + 1) l.three;
}
