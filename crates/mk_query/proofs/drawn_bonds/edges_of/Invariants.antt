use Rattle.std.proofs.Common.{◌≡◌, take}
use Rattle.mk_model.specs.Templates.{query_edges}
use Rattle.mk_query.proofs.drawn_bonds.edges_of.Given as goal

abbrev pub invariant-loop-bond : goal.invariant-loop-bond
invariant-loop-bond l = l.edges.items ≡ query_edges (take l.bond-index l.bonds)
