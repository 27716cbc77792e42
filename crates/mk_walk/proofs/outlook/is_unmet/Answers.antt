use Rattle.mk_walk.proofs.OutlookLemmas.{never_back, never_straight}
use Rattle.mk_walk.proofs.outlook.is_unmet.Goals as goal

pub returns-then-bond-x : goal.returns-then-bond-x
returns-then-bond-x c = λ is.
    never_straight c.args.graph.now c.args.mol.now c.args.first.now c.args.order.now c.args.chosen.now c.args.number
    c.args.x c.other_end.result c.args.a c.in-Some.b c.bond-bond.result c.bond_fits.result
    c.bond-bond.ensures.bond c.if-bond-x.true (rw c.edge.ensures at c.other_end.ensures.end) c.in-Some.ensures.put (c.bond_fits.ensures c.bond-bond.result c.bond-bond.ensures.bond).1 is

pub returns : goal.returns
returns c = λ is.
    never_back c.args.graph.now c.args.mol.now c.args.first.now c.args.order.now c.args.chosen.now c.args.number
    c.args.x c.other_end.result c.args.a c.in-Some.b c.bond-bond.result c.bond_fits-2.result
    c.bond-bond.ensures.bond c.requires.ends c.if-bond-x.false (rw c.edge.ensures at c.other_end.ensures.end)
    c.in-Some.ensures.put (c.bond_fits-2.ensures c.bond-bond.result c.bond-bond.ensures.bond).1 is
