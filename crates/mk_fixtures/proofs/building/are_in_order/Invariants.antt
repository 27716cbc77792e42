use Rattle.std.proofs.Common.{◌<◌, ℕ, get_or}
use Rattle.mk_model.specs.declared.edge.Edge.{Edge}
use Rattle.mk_model.specs.Edges.{IsEdgeBefore}
use Rattle.mk_fixtures.proofs.building.are_in_order.Given as goal

abbrev pub invariant-loop-b : goal.invariant-loop-b
invariant-loop-b l = (p q : ℕ) (d : Edge) → p < l.b → q < p → IsEdgeBefore (get_or l.edges q d) (get_or l.edges p d)

abbrev pub invariant-loop-c : goal.invariant-loop-c
invariant-loop-c l = (q : ℕ) (d : Edge) → q < l.c → IsEdgeBefore (get_or l.edges q d) (get_or l.edges l.b d)
