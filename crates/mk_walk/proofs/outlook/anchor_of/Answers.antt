use Rattle.std.proofs.Common.{◌<◌, length, get_or, arith}
use Rattle.mk_walk.specs.Outlook.{EndsAt}
use Rattle.mk_walk.proofs.OutlookLemmas.{beside_put, ends_at}
use Rattle.mk_walk.proofs.outlook.anchor_of.Goals as goal

pub returns-in-Some-clause-beside : goal.returns-in-Some-clause-beside
returns-in-Some-clause-beside c =
    let items = c.bonds_at-number-items.result.now in
    let i = c.loop-number.number-index in
    let below : i < length items = omega arith in
    let numbers = c.bonds_at-number-items.ensures.numbers in
    let ends : EndsAt c.args.graph.now (get_or items i 0) c.args.x = rw numbers (ends_at c.args.graph.now c.args.x i (rw numbers at below)) in
    beside_put c.args.graph.now c.args.mol.now c.args.first.now c.args.order.now c.args.chosen.now (get_or items i 0) c.args.x c.other_end.result c.in-Some.a c.bond-bond.result
    c.bond-bond.ensures.bond ends (rw c.edge.ensures at c.other_end.ensures.end) c.in-Some.ensures.put
