use Rattle.std.proofs.Common.{◌<◌, ℕ, refl, length, arith}
use Rattle.mk_rings.specs.Forests.{HangsBy}
use Rattle.mk_marks.proofs.JoinLemmas.{joins_ends}
use Rattle.mk_rings.proofs.WalkLemmas.{IsWalked-none, IsWalked-more, IsWalked-all, MarksWay-ends, hangs_within, deep_hangs, end_reached}
use Rattle.mk_rings.proofs.marking.mark_way.Goals as goal

pub loop-a-init : goal.loop-a-init
loop-a-init c =
    let here = joins_ends c.args.bonds.now c.args.b (record { first = 0; second = 0; kind = 0 }) c.requires.bond in
    IsWalked-none _ _ _ _ (c.requires.forest.one_tree c.args.b _ _ here) (end_reached _ _ _ _ _ c.requires.ends c.requires.forest here)

pub bounds-marks-here : goal.bounds-marks-here
bounds-marks-here c =
    let fits : (x b : ℕ) → HangsBy c.args.nodes.now x b → b < length c.loop-a.marks =
    λ x b by. omega (arith, hangs_within c.args.bonds.now c.args.nodes.now x b c.requires.forest.grown by, c.loop-a.auto.marks, c.requires.size) in
    let high = deep_hangs c.args.bonds.now c.args.nodes.now _ _ c.loop-a.a c.loop-a.c _ _ c.args.marks.now
    c.loop-a.marks c.requires.forest.grown fits c.loop-a.invariant c.loop-a-test.true
    c.deeper_first-deep.ensures.order c.deeper_first-deep.ensures.same in
    fits c.deeper_first-deep.result.0 _ (high, refl)

pub loop-a-preserved : goal.loop-a-preserved
loop-a-preserved c =
    let fits : (x b : ℕ) → HangsBy c.args.nodes.now x b → b < length c.loop-a.marks =
    λ x b by. omega (arith, hangs_within c.args.bonds.now c.args.nodes.now x b c.requires.forest.grown by, c.loop-a.auto.marks, c.requires.size) in
    IsWalked-more c.args.bonds.now c.args.nodes.now _ _ c.loop-a.a c.loop-a.c _ _ c.args.marks.now c.loop-a.marks
    c.requires.forest.grown fits c.loop-a.invariant c.loop-a-test.true c.deeper_first-deep.ensures.order
    c.deeper_first-deep.ensures.same

pub returns : goal.returns
returns c = λ u v joined.
    let here = joins_ends c.args.bonds.now c.args.b (record { first = 0; second = 0; kind = 0 }) c.requires.bond in
    MarksWay-ends c.args.bonds.now c.args.nodes.now c.args.b _ _ u v c.args.marks.now c.loop-a.marks here joined
    (IsWalked-all c.args.nodes.now _ _ c.loop-a.a c.loop-a.c c.args.marks.now c.loop-a.marks c.loop-a-test.false c.loop-a.invariant)
