use Rattle.std.proofs.Common.{refl}
use Rattle.mk_walk.proofs.HydrogensLemmas.{due_next}
use Rattle.mk_walk.proofs.hydrogens.due_at.Goals as goal

pub loop-x-preserved : goal.loop-x-preserved
loop-x-preserved c = due_next c.args.graph.now c.args.host c.args.atom c.loop-x.x c.loop-x.due c.loop-x.invariant (c.if-not-is_taker.ensures.0 refl)
