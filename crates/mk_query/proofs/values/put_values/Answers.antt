use Rattle.mk_query.proofs.ValueLemmas.{pairs-more}
use Rattle.mk_query.proofs.values.put_values.Goals as goal

pub loop-pair-preserved : goal.loop-pair-preserved
loop-pair-preserved c = pairs-more c.args.pairs.now c.loop-pair.pair-index _ _ _ _ c.loop-pair-test.true c.loop-pair.invariant c.put_value.ensures
