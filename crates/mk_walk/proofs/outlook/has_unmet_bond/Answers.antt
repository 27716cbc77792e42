use Rattle.std.proofs.Common.{◌<◌, length, arith}
use Rattle.mk_walk.proofs.OutlookLemmas.{ends_at}
use Rattle.mk_walk.proofs.outlook.has_unmet_bond.Goals as goal

pub is_unmet-requires-clause-ends : goal.is_unmet-requires-clause-ends
is_unmet-requires-clause-ends c =
    let items = c.bonds_at-number-items.result.now in
    let i = c.loop-number.number-index in
    let below : i < length items = omega arith in
    let numbers = c.bonds_at-number-items.ensures.numbers in
    rw numbers (ends_at c.args.graph.now c.args.x i (rw numbers at below))
