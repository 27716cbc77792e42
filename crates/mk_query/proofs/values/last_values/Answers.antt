use Rattle.mk_query.specs.LastValues.{pairs_of}
use Rattle.mk_query.proofs.ValueLemmas.{last_values, properties-more}
use Rattle.mk_query.proofs.values.last_values.Goals as goal

pub loop-property-preserved : goal.loop-property-preserved
loop-property-preserved c =
    properties-more (pairs_of c.args.kind) c.args.props.now c.loop-property.property-index c.property-item.result _ _ _ c.loop-property-test.true c.property-item.is c.loop-property.invariant
    (rw c.pairs_of.ensures at c.put_values.ensures)

pub returns-clause-last : goal.returns-clause-last
returns-clause-last c =
    last_values (pairs_of c.args.kind) c.args.props.now c.loop-property.property-index c.args.atoms c.in_ok-values.values.items c.loop-property.values.items c.loop-property-test.false
    (c.in_ok-values.ensures.items_if_clones_equal (λ y e. e)) c.loop-property.invariant
