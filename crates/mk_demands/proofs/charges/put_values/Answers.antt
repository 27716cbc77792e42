use Rattle.mk_demands.proofs.ChargePuttingLemmas.{property-more}
use Rattle.mk_demands.proofs.charges.put_values.Goals as goal

pub loop-property-preserved : goal.loop-property-preserved
loop-property-preserved c = (
  property-more c.args.props.now c.loop-property.property-index c.property-item.result _ _ _ c.loop-property-test.true c.property-item.is c.loop-property.invariant.0 c.put_property.ensures.put,
  c.put_property.ensures.small,
)
