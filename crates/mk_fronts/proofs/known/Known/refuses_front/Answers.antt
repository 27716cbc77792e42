use Rattle.std.proofs.Common.{◌+◌}
use Rattle.mk_fronts.proofs.FrontsLemmas.{begins, not_true}
use Rattle.mk_fronts.proofs.known.Known.refuses_front.Goals as goal

pub may_hold_front-requires-clause-front : goal.may_hold_front-requires-clause-front
may_hold_front-requires-clause-front c = begins c.args.self.now.query c.args.code.now (c.args.n + 1) c.requires.code

pub returns-clause-none : goal.returns-clause-none
returns-clause-none c = λ refused. c.in_ok-may.ensures.none (not_true c.in_ok-may.may refused)
