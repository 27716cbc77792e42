use Rattle.std.proofs.Common.{get_or, refl, arith}
use Rattle.mk_walk.proofs.WalkLemmas.{seek_ends, seek_ends_up, seek_last, seek_more, seek_past, seek_past_up, seek_whole, seek_whole_up}
use Rattle.mk_walk.proofs.walk.Walk.seek.Goals as goal

pub returns-then-i-front-clause-same : goal.returns-then-i-front-clause-same
returns-then-i-front-clause-same c =
    let w = c.loop-i.self in
    seek_ends c.args.graph.now c.args.mol.now c.requires.kept.drawing c.requires.kept.molecule c.args.front.now c.loop-i.i w.images.items w.levels.items w.depth w.above c.loop-i.invariant
    c.loop-i-test.true c.if-i-front.true c.saturating_sub-self.result c.saturating_sub-self.ensures

pub returns-then-i-front-clause-up : goal.returns-then-i-front-clause-up
returns-then-i-front-clause-up c =
    let w = c.loop-i.self in
    seek_ends_up c.args.graph.now c.args.mol.now c.requires.kept.drawing c.requires.kept.molecule c.args.front.now c.loop-i.i w.images.items w.levels.items w.depth w.above c.loop-i.invariant
    c.loop-i-test.true c.if-i-front.true c.saturating_sub-self.result c.saturating_sub-self.ensures

pub returns-then-i-len-clause-same : goal.returns-then-i-len-clause-same
returns-then-i-len-clause-same c =
    let w = c.loop-i.self in
    seek_last c.args.graph.now c.args.mol.now c.requires.kept.drawing c.requires.kept.molecule c.args.front.now c.loop-i.i w.images.items w.levels.items w.depth w.above c.loop-i.invariant
    c.loop-i-test.true c.if-i-front.false (omega (arith, c.loop-i.invariant.walk.room, c.if-i-len.true)) (get_or c.args.front.now c.loop-i.i 0) refl

pub returns-then-i-len-clause-up : goal.returns-then-i-len-clause-up
returns-then-i-len-clause-up c =
    let w = c.loop-i.self in
    seek_past_up c.args.graph.now c.args.mol.now c.requires.kept.drawing c.requires.kept.molecule c.args.front.now c.loop-i.i w.images.items w.levels.items w.depth w.above c.loop-i.invariant
    c.loop-i-test.true (get_or c.args.front.now c.loop-i.i 0) refl

pub returns-then-not-stands-clause-same : goal.returns-then-not-stands-clause-same
returns-then-not-stands-clause-same c =
    let w = c.loop-i.self in
    seek_past c.args.graph.now c.args.mol.now c.requires.kept.drawing c.requires.kept.molecule c.args.front.now c.loop-i.i w.images.items w.levels.items w.depth w.above c.loop-i.invariant
    c.loop-i-test.true (get_or c.args.front.now c.loop-i.i 0) refl (λ stands. (let never = c.if-not-stands.ensures.1 stands in absurd cc))

pub returns-then-not-stands-clause-up : goal.returns-then-not-stands-clause-up
returns-then-not-stands-clause-up c =
    let w = c.loop-i.self in
    seek_past_up c.args.graph.now c.args.mol.now c.requires.kept.drawing c.requires.kept.molecule c.args.front.now c.loop-i.i w.images.items w.levels.items w.depth w.above c.loop-i.invariant
    c.loop-i-test.true (get_or c.args.front.now c.loop-i.i 0) refl

pub loop-i-preserved : goal.loop-i-preserved
loop-i-preserved c =
    let w = c.loop-i.self in
    let is = c.if-not-stands.ensures.0 refl in
    rw (c.put.ensures.images, c.put.ensures.levels, c.put.ensures.depth, c.put.ensures.above)
    (seek_more c.args.graph.now c.args.mol.now c.requires.kept.drawing c.requires.kept.molecule c.args.front.now c.loop-i.i w.images.items w.levels.items w.depth w.above c.loop-i.invariant
    c.loop-i-test.true (get_or c.args.front.now c.loop-i.i 0) refl is.0 is.1 is.2 (λ whole. c.if-i-len.false (omega (arith, c.loop-i.invariant.walk.room))))

pub returns-clause-same : goal.returns-clause-same
returns-clause-same c =
    let w = c.loop-i.self in
    seek_whole c.args.graph.now c.args.mol.now c.requires.kept.drawing c.requires.kept.molecule c.args.front.now
    c.loop-i.i w.images.items w.levels.items w.depth w.above c.loop-i.invariant c.loop-i-test.false

pub returns-clause-up : goal.returns-clause-up
returns-clause-up c =
    let w = c.loop-i.self in
    seek_whole_up c.args.graph.now c.args.mol.now c.requires.kept.drawing c.requires.kept.molecule c.args.front.now
    c.loop-i.i w.images.items w.levels.items w.depth w.above c.loop-i.invariant c.loop-i-test.false
