use Rattle.std.proofs.Common.{refl}
use Rattle.mk_query.specs.Marks.{IsLabels}
use Rattle.mk_query.proofs.MarkLemmas.{more-none, pass-more, pass-all, noted}
use Rattle.mk_query.proofs.LabelLemmas.{labels_in, properties_told, one_property}
use Rattle.mk_query.proofs.LabelMarkLemmas.{no_labels}
use Rattle.mk_query.proofs.drawn.labels_of.Goals as goal

pub loop-property-init : goal.loop-property-init
loop-property-init c = more-none IsLabels c.in_ok-labels.labels.items

pub loop-property-preserved : goal.loop-property-preserved
loop-property-preserved c =
    pass-more IsLabels labels_in properties_told c.args.props.now c.loop-property.property-index c.property-item.result _ _ _ c.loop-property-test.true c.property-item.is c.loop-property.invariant
    (one_property c.property-item.result _ _ (rw c.label_pairs.ensures at c.add_labels.ensures))

pub returns-clause-labels : goal.returns-clause-labels
returns-clause-labels c =
    noted IsLabels (labels_in c.args.props.now) c.args.atoms _ _ c.loop-property.labels.items (no_labels _ refl refl refl) (c.in_ok-labels.ensures.items_if_clones_equal (λ y e. e))
    (pass-all IsLabels labels_in c.args.props.now c.loop-property.property-index _ _ c.loop-property-test.false c.loop-property.invariant)
