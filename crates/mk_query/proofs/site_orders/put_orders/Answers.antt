use Rattle.std.proofs.Common.{arith}
use Rattle.mk_query.proofs.SlotMarkLemmas.{ordered_all, ordered_back, ordered_none}
use Rattle.mk_query.proofs.site_orders.put_orders.Goals as goal

pub loop-i-init : goal.loop-i-init
loop-i-init c = ordered_none c.args.props.now _ c.args.ends.now.items (omega arith)

pub loop-i-preserved : goal.loop-i-preserved
loop-i-preserved c = ordered_back c.args.props.now c.loop-i.i _ c.args.ends.now.items c.loop-i.ends.items
    c.put_property.new.ends.items c.loop-i-test.true c.loop-i.auto.i c.index-props-i.is c.loop-i.invariant
    c.put_property.ensures

pub returns : goal.returns
returns c = ordered_all c.args.props.now c.loop-i.i _ _ c.loop-i-test.false c.loop-i.invariant
