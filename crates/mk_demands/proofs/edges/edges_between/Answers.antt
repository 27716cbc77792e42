use Rattle.mk_demands.proofs.EdgeLemmas.{edges-none, edges-more, front-stops, front-all}
use Rattle.mk_demands.proofs.edges.edges_between.Goals as goal

pub loop-bond-init : goal.loop-bond-init
loop-bond-init c = edges-none c.args.atoms c.args.bonds.now _ c.in_ok-edges.ensures.items

pub loop-bond-preserved : goal.loop-bond-preserved
loop-bond-preserved c =
    rw c.in_ok-push-in-Some.ensures.items
    (edges-more c.args.atoms c.args.bonds.now c.loop-bond.bond-index _ _ _ c.loop-bond-test.true c.in-Some.ensures c.loop-bond.invariant)

pub returns-in-None : goal.returns-in-None
returns-in-None c = front-stops c.args.atoms c.args.bonds.now c.loop-bond.bond-index _ _ c.loop-bond-test.true c.in-None.ensures c.loop-bond.invariant

pub returns : goal.returns
returns c = front-all c.args.atoms c.args.bonds.now c.loop-bond.bond-index _ c.loop-bond.auto.bond-index-end c.loop-bond-test.false c.loop-bond.invariant
