use Rattle.std.proofs.Common.{arith}
use Rattle.mk_counts.proofs.AskedLemmas.{few_held, none_held}
use Rattle.mk_counts.proofs.asked.cannot_hold.Goals as goal

pub returns-then-counts-asked : goal.returns-then-counts-asked
returns-then-counts-asked c = λ _ graph mol are has. none_held graph mol c.args.asked.now c.args.counts.now (omega (arith, c.if-counts-asked.true)) are has

pub returns-then-of_element-one : goal.returns-then-of_element-one
returns-then-of_element-one c = λ _ graph mol are has.
    let list = c.deref-one-items.ensures.value in
    let below = rw list at c.loop-one-test.true in
    let there = rw list at c.of_element.ensures in
    let few = rw (list, there) at c.if-of_element-one.true in
    few_held graph mol c.args.asked.now c.args.counts.now c.loop-one.one-index (record { element = 0; count = 0 }) below few are has
