use Rattle.std.proofs.Common.{refl}
use Rattle.mk_choice.proofs.LimitLemmas.{keeps_some}
use Rattle.mk_choice.proofs.together.miss_among.Goals as goal

pub returns-then-miss_together : goal.returns-then-miss_together
returns-then-miss_together c = λ _. record {
  some_wants = c.some_wants-wants.result;
  some_caps = c.some_ends.result;
  keeps = keeps_some c.args.limits.wants c.args.limits.caps c.some_wants-wants.result c.some_ends.result c.some_wants-wants.ensures.less c.some_ends.ensures.same;
  miss = c.if-miss_together.ensures refl;
}

pub returns : goal.returns
returns c = λ yes. record {
  some_wants = c.some_wants-wants.result;
  some_caps = c.some_ends-2.result;
  keeps = keeps_some c.args.limits.wants c.args.limits.caps c.some_wants-wants.result c.some_ends-2.result c.some_wants-wants.ensures.less c.some_ends-2.ensures.same;
  miss = c.miss_together-2.ensures yes;
}
