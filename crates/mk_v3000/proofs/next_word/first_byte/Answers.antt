use Rattle.std.proofs.Common.{arith}
use Rattle.mk_v3000.proofs.WordLemmas.{words_step}
use Rattle.mk_v3000.proofs.next_word.first_byte.Goals as goal

pub loop-start-preserved : goal.loop-start-preserved
loop-start-preserved c = record {
  within = omega (arith, c.loop-start-test.true);
  words = words_step c.args.text.now c.loop-start.start c.loop-start-test.true c.if-text-start-eq32.true
      c.loop-start.invariant.words;
}
