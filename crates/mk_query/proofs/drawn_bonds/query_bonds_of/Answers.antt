use Rattle.std.proofs.Common.{◌∙◌}
use Rattle.mk_query.specs.Drawn.{query_bond}
use Rattle.mk_query.proofs.MapLemmas.{mapped_all, mapped_more}
use Rattle.mk_query.proofs.drawn_bonds.query_bonds_of.Goals as goal

pub loop-bond-preserved : goal.loop-bond-preserved
loop-bond-preserved c =
    c.in_ok-push.ensures.items
    ∙ mapped_more query_bond c.args.bonds.now c.loop-bond.bond-index _ c.loop-bond.list.items c.query_bond.result c.loop-bond-test.true c.query_bond.ensures c.loop-bond.invariant

pub returns : goal.returns
returns c = mapped_all query_bond c.args.bonds.now c.loop-bond.bond-index c.loop-bond.list.items c.loop-bond-test.false c.loop-bond.invariant
