use Rattle.std.proofs.Common.{refl}
use Rattle.mk_query.specs.Marks.{IsNear}
use Rattle.mk_query.proofs.MarkLemmas.{more-none, pass-more_at, pass-all, noted}
use Rattle.mk_query.proofs.NearLemmas.{neighbours_by, neighbours_told}
use Rattle.mk_query.proofs.drawn.neighbours_of.Goals as goal

pub loop-bond-init : goal.loop-bond-init
loop-bond-init c = more-none IsNear c.in_ok-near.near.items

pub loop-bond-preserved : goal.loop-bond-preserved
loop-bond-preserved c =
    pass-more_at IsNear neighbours_by neighbours_told c.args.bonds.now c.loop-bond.bond-index _ _ _ _ c.loop-bond-test.true c.loop-bond.invariant c.add_bond.ensures

pub returns-clause-near : goal.returns-clause-near
returns-clause-near c =
    noted IsNear (neighbours_by c.args.bonds.now) c.args.atoms _ _ c.loop-bond.near.items refl (c.in_ok-near.ensures.items_if_clones_equal (λ y e. e))
    (pass-all IsNear neighbours_by c.args.bonds.now c.loop-bond.bond-index _ _ c.loop-bond-test.false c.loop-bond.invariant)
