use Rattle.std.proofs.Common.{refl, arith}
use Rattle.mk_text.proofs.ForCallers.{below_through, not_below_itself}
use Rattle.mk_model.specs.Hits.{IsHit}
use Rattle.mk_model.proofs.ForCallers.{not_below_through}
use Rattle.mk_walk.specs.Turns.{node_of}
use Rattle.mk_walk.specs.Walk.{place_of}
use Rattle.mk_walk.proofs.PassedLemmas.{same_here, same_through}
use Rattle.mk_walk.proofs.walk.Walk.turn.Goals as goal

pub turn-init : goal.turn-init
turn-init c =
    let w = c.args.self.now in
    let place = place_of w.images.items w.depth w.above in
    (c.requires.kept, same_here (IsHit c.args.graph.now c.args.mol.now) place, not_below_itself place, omega arith)

pub returns-in-Node-clause-node : goal.returns-in-Node-clause-node
returns-in-Node-clause-node c = λ _.
    let w = c.args.self.now in
    let old = c.turn.self in
    let new = c.step.new.self in
    let visit = c.in-Node.ensures.node refl in
    record {
      is = visit.is;
      not_below = not_below_through (node_of new.images.items new.depth new.above)
          (place_of old.images.items old.depth old.above) (place_of w.images.items w.depth w.above) visit.not_below
          c.turn.invariant.2;
    }

pub returns-in-Node-clause-fewer : goal.returns-in-Node-clause-fewer
returns-in-Node-clause-fewer c = λ _. omega (arith, c.in-Node.ensures.fewer tt, c.turn.invariant.3)

pub turn-preserved : goal.turn-preserved
turn-preserved c =
    let w = c.args.self.now in
    let old = c.turn.self in
    let new = c.step.new.self in
    let start = place_of w.images.items w.depth w.above in
    let here = place_of old.images.items old.depth old.above in
    let there = place_of new.images.items new.depth new.above in (
      c.in-Back.ensures.kept,
      same_through (IsHit c.args.graph.now c.args.mol.now) start here there c.turn.invariant.1 (c.in-Back.ensures.moved tt),
      λ below. c.turn.invariant.2 (below_through here there start (c.in-Back.ensures.up refl) below),
      omega (arith, c.in-Back.ensures.fewer tt, c.turn.invariant.3),
    )
