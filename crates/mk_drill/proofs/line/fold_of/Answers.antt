use Rattle.mk_drill.proofs.LineLemmas.{fold_step}
use Rattle.mk_drill.proofs.line.fold_of.Goals as goal

pub loop-i-preserved : goal.loop-i-preserved
loop-i-preserved c = fold_step c.args.hits.now c.loop-i.i c.loop-i.folded c.index-hits-i.result c.sum_of.result
    c.loop-i-test.true c.index-hits-i.is (rw c.as_slice.ensures at c.sum_of.ensures) c.loop-i.invariant
