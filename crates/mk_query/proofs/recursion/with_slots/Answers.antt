use Rattle.mk_model.specs.Labels.{bears_label}
use Rattle.mk_query.proofs.RecursionLemmas.{also_all, also_more, also_none}
use Rattle.mk_query.proofs.recursion.with_slots.Goals as goal

pub loop-i-init : goal.loop-i-init
loop-i-init c = also_none (λ h slot. bears_label slot h) c.args.slots.now c.args.groups

pub loop-i-preserved : goal.loop-i-preserved
loop-i-preserved c =
    also_more (λ h slot. bears_label slot h) c.args.slots.now c.args.groups c.loop-i.i c.loop-i.all c.with_labels-all.result c.index-slots-i.result c.loop-i-test.true
    (rw (c.labels.ensures, c.index-slots-i.is) at c.with_labels-all.ensures) c.loop-i.invariant

pub returns : goal.returns
returns c = also_all (λ h slot. bears_label slot h) c.args.slots.now c.args.groups c.loop-i.i c.loop-i.all c.loop-i-test.false c.loop-i.invariant
