use Rattle.std.proofs.Common.{◌<◌, length}
use Rattle.mk_expand.proofs.LooseLemmas.{loose_all, loose_more, loose_none}
use Rattle.mk_expand.proofs.loose.loose_of.Goals as goal

pub loop-bond-init : goal.loop-bond-init
loop-bond-init c = loose_none _ _ _ _ (c.in_ok-loose.ensures.items_if_clones_equal (λ y e. e)) c.room.ensures

pub loop-bond-preserved : goal.loop-bond-preserved
loop-bond-preserved c =
    let below : c.loop-bond.bond-index < length c.args.layout.now.template.bonds = rw (c.bonds-bond-items.ensures, c.template.ensures) at c.loop-bond-test.true in
    loose_more _ _ c.loop-bond.bond-index c.loop-bond.loose.items _ _ below c.in_ok-add_loose.ensures.size
    (rw (c.bonds-bond-items.ensures, c.template.ensures) at c.in_ok-add_loose.ensures.each) c.loop-bond.invariant

pub returns : goal.returns
returns c = loose_all _ _ c.loop-bond.bond-index _ (rw (c.bonds-bond-items.ensures, c.template.ensures) at c.loop-bond-test.false) c.loop-bond.invariant
