use Rattle.std.specs.Prelude.{◌==◌}
use Rattle.mk_query.proofs.RecursionLemmas.{also_all, also_more, also_none, label_more}
use Rattle.mk_query.proofs.recursion.with_labels.Goals as goal

pub loop-i-init : goal.loop-i-init
loop-i-init c = also_none (λ h x. x == h) c.args.labels.now c.args.groups

pub loop-i-preserved : goal.loop-i-preserved
loop-i-preserved c =
    also_more (λ h x. x == h) c.args.labels.now c.args.groups c.loop-i.i c.loop-i.all c.with_group-all.result 0 c.loop-i-test.true
    (label_more c.loop-i.all c.with_group-all.result _ (c.requires c.loop-i.i 0 c.loop-i-test.true).0 c.with_group-all.ensures.set c.with_group-all.ensures.others) c.loop-i.invariant

pub returns : goal.returns
returns c = also_all (λ h x. x == h) c.args.labels.now c.args.groups c.loop-i.i c.loop-i.all c.loop-i-test.false c.loop-i.invariant
