use Rattle.std.proofs.Common.{[], inl, arith}
use Rattle.mk_walk.proofs.HeldLemmas.{came_further, came_nowhere}
use Rattle.mk_walk.proofs.held.may_hold.Goals as goal

pub loop-init : goal.loop-init
loop-init c =
    let made = c.in_ok-search.ensures in
    let kept = c.in_ok-has_found.ensures in
    let came = came_nowhere c.args.graph.now c.args.mol.now c.has_found.new.self kept.kept (kept.left [] made.left) (kept.owed [] 1 made.owed) in
    (came, omega (arith, c.pay.ensures, c.pay-2.ensures))

pub loop-preserved : goal.loop-preserved
loop-preserved c =
    let turned = c.in-Moved.ensures in
    let came = came_further c.args.graph.now c.args.mol.now c.loop.counter c.loop.search c.turn-came.new.self c.loop.invariant.0 turned.kept turned.turns in
    (came, omega (arith, c.pay-in-loop.ensures, c.loop.invariant.1))

pub returns-in-Item-clause-some : goal.returns-in-Item-clause-some
returns-in-Item-clause-some c = λ _.
    let at = c.loop.invariant.0 in
    let out = c.in-Item.ensures.turns at.place at.debt at.left at.owed in
    inl (inl (c.turn-came.new.self.walk.images.items, out.least.has))

pub returns-in-Item-clause-paid : goal.returns-in-Item-clause-paid
returns-in-Item-clause-paid c = omega (arith, c.pay-in-loop.ensures, c.loop.invariant.1)

pub returns-in-End-clause-paid : goal.returns-in-End-clause-paid
returns-in-End-clause-paid c = omega (arith, c.pay-in-loop.ensures, c.loop.invariant.1)
