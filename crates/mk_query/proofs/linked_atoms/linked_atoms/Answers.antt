use Rattle.mk_query.proofs.LinkMarkLemmas.{properties-more, properties-all}
use Rattle.mk_query.proofs.linked_atoms.linked_atoms.Goals as goal

pub loop-property-preserved : goal.loop-property-preserved
loop-property-preserved c = properties-more c.args.props.now c.loop-property.property-index c.property-item.result _ _ _
    c.loop-property-test.true c.property-item.is c.loop-property.invariant c.add_property.ensures

pub returns-clause-linked : goal.returns-clause-linked
returns-clause-linked c =
    properties-all c.args.props.now c.loop-property.property-index c.args.atoms c.in_ok-list.list.items c.loop-property.list.items c.loop-property-test.false
    (c.in_ok-list.ensures.items_if_clones_equal (λ y e. e)) c.loop-property.invariant
