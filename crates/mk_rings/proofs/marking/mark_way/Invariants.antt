use Rattle.std.proofs.Common.{◌+◌}
use Rattle.mk_rings.specs.Forests.{node}
use Rattle.mk_rings.proofs.WalkLemmas.{IsWalked}
use Rattle.mk_rings.proofs.marking.mark_way.Given as goal

abbrev pub invariant-loop-a : goal.invariant-loop-a
invariant-loop-a l = IsWalked l.nodes l.initial.a l.initial.c l.a l.c l.fn.marks l.marks

abbrev pub decreases-loop-a : goal.decreases-loop-a
decreases-loop-a l = (node l.nodes l.a).depth + (node l.nodes l.c).depth
