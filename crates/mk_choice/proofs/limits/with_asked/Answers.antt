use Rattle.std.proofs.Common.{◌+◌, sym}
use Rattle.mk_choice.proofs.LimitLemmas.{asked_now}
use Rattle.mk_choice.proofs.limits.with_asked.Goals as goal

pub with_limit-requires-clause-asked : goal.with_limit-requires-clause-asked
with_limit-requires-clause-asked c =
    asked_now c.args.query.now c.args.counts.now c.args.ahead.now (c.args.i + 1) (rw c.groups-groups.ensures.list at (sym (c.if-not-is_asked.ensures)))
