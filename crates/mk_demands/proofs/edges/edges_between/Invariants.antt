use Rattle.mk_demands.proofs.EdgeLemmas.{AreEdges}
use Rattle.mk_demands.proofs.edges.edges_between.Given as goal

abbrev pub invariant-loop-bond : goal.invariant-loop-bond
invariant-loop-bond l = AreEdges l.atoms l.bonds l.bond-index l.edges.items
