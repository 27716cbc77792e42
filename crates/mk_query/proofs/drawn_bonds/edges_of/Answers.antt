use Rattle.std.proofs.Common.{◌∙◌}
use Rattle.mk_model.specs.Templates.{query_edge}
use Rattle.mk_query.proofs.MapLemmas.{mapped_all, mapped_more}
use Rattle.mk_query.proofs.drawn_bonds.edges_of.Goals as goal

pub loop-bond-preserved : goal.loop-bond-preserved
loop-bond-preserved c =
    c.in_ok-push.ensures.items
    ∙ mapped_more query_edge c.args.bonds.now c.loop-bond.bond-index _ c.loop-bond.edges.items c.query_edge.result c.loop-bond-test.true c.query_edge.ensures c.loop-bond.invariant

pub returns : goal.returns
returns c = mapped_all query_edge c.args.bonds.now c.loop-bond.bond-index c.loop-bond.edges.items c.loop-bond-test.false c.loop-bond.invariant
