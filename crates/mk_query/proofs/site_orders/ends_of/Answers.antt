use Rattle.std.proofs.Common.{◌∙◌}
use Rattle.mk_query.specs.SlotMarks.{ends_near}
use Rattle.mk_query.proofs.MapLemmas.{mapped_all, mapped_more}
use Rattle.mk_query.proofs.site_orders.ends_of.Goals as goal

pub loop-one-preserved : goal.loop-one-preserved
loop-one-preserved c =
    c.in_ok-push.ensures.items
    ∙ mapped_more ends_near c.args.near.now c.loop-one.one-index _ c.loop-one.ends.items c.ends_near.result c.loop-one-test.true c.ends_near.ensures c.loop-one.invariant

pub returns : goal.returns
returns c = mapped_all ends_near c.args.near.now c.loop-one.one-index c.loop-one.ends.items c.loop-one-test.false c.loop-one.invariant
