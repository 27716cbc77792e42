use Rattle.std.proofs.Common.{◌<◌, ◌≤◌, length, arith}
use Rattle.std.proofs.lemmas.List.{take_all}
use Rattle.std.proofs.lemmas.List.Elements.{All-more}
use Rattle.mk_walk.proofs.outlook.are_later.Goals as goal

pub loop-x-preserved : goal.loop-x-preserved
loop-x-preserved c =
    All-more (λ x. (c.args.first < x) × (x ≤ length c.args.graph.now.atoms)) c.args.order.now c.loop-x.x-index 0 c.loop-x-test.true c.loop-x.invariant
    (c.if-x-first.false, omega (arith, c.if-x-atom_count.false, c.atom_count.ensures.count))

pub returns : goal.returns
returns c = λ _. rw (take_all c.loop-x.x-index c.args.order.now (omega arith)) at c.loop-x.invariant
