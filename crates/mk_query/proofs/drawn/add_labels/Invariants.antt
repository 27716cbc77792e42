use Rattle.std.proofs.Common.{take}
use Rattle.mk_query.specs.Marks.{AreMore, IsLabels}
use Rattle.mk_query.proofs.LabelLemmas.{labels_by}
use Rattle.mk_query.proofs.drawn.add_labels.Given as goal

abbrev pub invariant-loop-pair : goal.invariant-loop-pair
invariant-loop-pair l = AreMore IsLabels (labels_by (take l.pair-index l.pairs)) l.fn.labels.items l.labels.items
