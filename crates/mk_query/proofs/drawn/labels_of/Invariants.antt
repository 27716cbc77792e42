use Rattle.std.proofs.Common.{take}
use Rattle.mk_query.specs.Marks.{AreMore, IsLabels}
use Rattle.mk_query.proofs.LabelLemmas.{labels_in}
use Rattle.mk_query.proofs.drawn.labels_of.Given as goal

abbrev pub invariant-loop-property : goal.invariant-loop-property
invariant-loop-property l = AreMore IsLabels (labels_in (take l.property-index l.props)) l.initial.labels.items l.labels.items
