use Rattle.mk_demands.proofs.ChargePuttingLemmas.{charges-more}
use Rattle.mk_demands.proofs.charges.put_charges.Goals as goal

pub loop-pair-preserved : goal.loop-pair-preserved
loop-pair-preserved c = (charges-more c.args.pairs.now c.loop-pair.pair-index _ _ _ _ c.loop-pair-test.true c.loop-pair.invariant.0 c.put_charge.ensures.put, c.put_charge.ensures.small)
