use Rattle.mk_rings.proofs.RingLemmas.{IsMarkedUpTo}
use Rattle.mk_rings.proofs.marking.mark_rings.Given as goal

abbrev pub invariant-loop-b : goal.invariant-loop-b
invariant-loop-b l = IsMarkedUpTo l.bonds l.nodes l.b l.marks
