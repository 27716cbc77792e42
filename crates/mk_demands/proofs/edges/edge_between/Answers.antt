use Rattle.mk_demands.proofs.EdgeLemmas.{IsEdge-edge_of}
use Rattle.mk_demands.proofs.edges.edge_between.Goals as goal

pub returns : goal.returns
returns c = IsEdge-edge_of c.args.atoms c.args.bond _ c.raw_edge.ensures (c.has_two_ends.ensures.0 c.if-not-has_two_ends.false)
