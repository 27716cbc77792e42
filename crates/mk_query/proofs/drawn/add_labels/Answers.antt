use Rattle.mk_query.specs.Marks.{IsLabels}
use Rattle.mk_query.proofs.MarkLemmas.{more-none, pass-more_at, pass-all}
use Rattle.mk_query.proofs.LabelLemmas.{labels_by, pairs_told}
use Rattle.mk_query.proofs.drawn.add_labels.Goals as goal

pub loop-pair-init : goal.loop-pair-init
loop-pair-init c = more-none IsLabels c.args.labels.now.items

pub loop-pair-preserved : goal.loop-pair-preserved
loop-pair-preserved c =
    pass-more_at IsLabels labels_by pairs_told c.args.pairs.now c.loop-pair.pair-index _ _ _ _ c.loop-pair-test.true c.loop-pair.invariant c.add_label.ensures

pub returns : goal.returns
returns c = pass-all IsLabels labels_by c.args.pairs.now c.loop-pair.pair-index _ _ c.loop-pair-test.false c.loop-pair.invariant
