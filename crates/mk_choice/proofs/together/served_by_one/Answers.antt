use Rattle.std.proofs.Common.{arith}
use Rattle.mk_choice.specs.Together.{free_in}
use Rattle.mk_choice.proofs.LabelLemmas.{greatest_next}
use Rattle.mk_choice.proofs.together.served_by_one.Goals as goal

pub loop-h-preserved : goal.loop-h-preserved
loop-h-preserved c = omega (arith, c.max-greatest.ensures, c.loop-h.invariant, greatest_next (free_in c.args.free) c.args.labels.now c.loop-h.h-index 0 c.loop-h-test.true)
