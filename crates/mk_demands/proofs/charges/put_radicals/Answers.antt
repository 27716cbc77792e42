use Rattle.mk_demands.proofs.ChargePuttingLemmas.{radicals-more}
use Rattle.mk_demands.proofs.charges.put_radicals.Goals as goal

pub loop-pair-preserved : goal.loop-pair-preserved
loop-pair-preserved c = (radicals-more c.args.pairs.now c.loop-pair.pair-index _ _ _ _ c.loop-pair-test.true c.loop-pair.invariant.0 c.put_radical.ensures.put, c.put_radical.ensures.small)
