use Rattle.std.proofs.Common.{arith}
use Rattle.mk_v3000.proofs.WordLemmas.{run_step}
use Rattle.mk_v3000.proofs.next_word.end_of_word.Goals as goal

pub loop-end-preserved : goal.loop-end-preserved
loop-end-preserved c =
    let before = c.loop-end.invariant in
    record {
      order = omega (arith, before.order);
      within = omega (arith, c.loop-end-test.true);
      none = run_step c.args.text.now c.args.start c.loop-end.end before.order c.loop-end-test.true c.if-text-end-ne32.true before.none;
    }
