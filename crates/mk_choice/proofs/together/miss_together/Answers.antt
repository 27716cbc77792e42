use Rattle.std.proofs.Common.{arith}
use Rattle.std.specs.Prelude.{drop}
use Rattle.std.proofs.lemmas.Bool.Decides.{nat_tests}
use Rattle.mk_choice.specs.Bounds.{bound_in}
use Rattle.mk_choice.proofs.LimitLemmas.{misses}
use Rattle.mk_choice.proofs.together.miss_together.Goals as goal

pub returns : goal.returns
returns c = λ yes.
    let all = c.saturating_add-all.ensures in
    let small = c.if-all-gt512.false in
    misses (bound_in c.args.most.now) c.args.wants c.args.caps c.served_each-served.result c.free_each.result (drop c.args.first c.args.waiting.now)
    c.served_to_ends-ends.result c.served_at.result c.sum_of.result c.served_each-served.ensures.each c.free_each.ensures.each c.served_to_ends-ends.ensures c.served_at.ensures
    (omega (arith, all, small)) c.sum_of.ensures (grind (arith, nat_tests, yes, all, small))
