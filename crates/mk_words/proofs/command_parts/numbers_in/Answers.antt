use Rattle.mk_words.proofs.CommandPartsLemmas.{items_fail, items_more}
use Rattle.mk_words.proofs.command_parts.numbers_in.Goals as goal

pub returns-in-None : goal.returns-in-None
returns-in-None c = items_fail (λ word. word.now) c.args.words.now c.loop-word.word-index _ c.loop-word-test.true c.in-None.ensures

pub loop-word-preserved : goal.loop-word-preserved
loop-word-preserved c =
    items_more (λ word. word.now) c.args.words.now c.loop-word.word-index _ c.loop-word.numbers.items c.push.new.self.items c.in-Some.number c.loop-word-test.true
    c.loop-word.invariant c.in-Some.ensures c.in_ok-push-in-Some.ensures.items
