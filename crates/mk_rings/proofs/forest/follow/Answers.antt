use Rattle.std.proofs.Common.{◌<◌, ◌-◌, refl, length, get_or, arith}
use Rattle.mk_rings.specs.Forests.{node}
use Rattle.mk_rings.proofs.GrowLemmas.{IsFollowed-seen, IsFollowed-new, IsFollowed-all, number_at, joined_by, end_within}
use Rattle.mk_rings.proofs.forest.follow.Goals as goal

pub overflow_sub-b : goal.overflow_sub-b
overflow_sub-b c = (number_at c.args.bonds.now c.args.x c.args.numbers.now c.loop-number.number-index c.requires.numbers c.loop-number-test.true).least

pub bounds-bonds-b : goal.bounds-bonds-b
bounds-bonds-b c =
    let number = number_at c.args.bonds.now c.args.x c.args.numbers.now c.loop-number.number-index c.requires.numbers c.loop-number-test.true in
    omega (arith, number.least, number.most)

pub loop-number-preserved-then-nodes-y-ne0 : goal.loop-number-preserved-then-nodes-y-ne0
loop-number-preserved-then-nodes-y-ne0 c =
    let number = number_at c.args.bonds.now c.args.x c.args.numbers.now c.loop-number.number-index c.requires.numbers c.loop-number-test.true in
    let within : get_or c.args.numbers.now c.loop-number.number-index 0 - 1 < length c.args.bonds.now = omega (arith, number.least, number.most) in
    let joined = joined_by c.args.bonds.now (get_or c.args.numbers.now c.loop-number.number-index 0 - 1) c.args.x c.other_end-y.result _ within (c.other_end-y.ensures.ends (number.ends _)) in
    IsFollowed-seen c.args.bonds.now c.args.nodes.now (length c.args.stack.now.items) c.args.x
    (node c.args.nodes.now c.args.x).root c.args.numbers.now c.loop-number.number-index c.loop-number.nodes
    c.loop-number.stack.items c.other_end-y.result refl c.requires.reached joined c.loop-number.invariant
    c.if-nodes-y-ne0.true

pub bounds-nodes-y-in-loop-number : goal.bounds-nodes-y-in-loop-number
bounds-nodes-y-in-loop-number c =
    let number = number_at c.args.bonds.now c.args.x c.args.numbers.now c.loop-number.number-index c.requires.numbers c.loop-number-test.true in
    let within : get_or c.args.numbers.now c.loop-number.number-index 0 - 1 < length c.args.bonds.now = omega (arith, number.least, number.most) in
    let joined = joined_by c.args.bonds.now (get_or c.args.numbers.now c.loop-number.number-index 0 - 1) c.args.x c.other_end-y.result _ within (c.other_end-y.ensures.ends (number.ends _)) in
    let end = end_within (length c.args.nodes.now - 1) c.args.bonds.now _ c.args.x c.other_end-y.result c.requires.ends joined in
    omega (arith, end.0, end.1, c.loop-number.auto.nodes, c.requires.within.1)

pub loop-number-preserved : goal.loop-number-preserved
loop-number-preserved c =
    let number = number_at c.args.bonds.now c.args.x c.args.numbers.now c.loop-number.number-index c.requires.numbers c.loop-number-test.true in
    let within : get_or c.args.numbers.now c.loop-number.number-index 0 - 1 < length c.args.bonds.now = omega (arith, number.least, number.most) in
    let joined = joined_by c.args.bonds.now (get_or c.args.numbers.now c.loop-number.number-index 0 - 1) c.args.x c.other_end-y.result _ within (c.other_end-y.ensures.ends (number.ends _)) in
    let end = end_within (length c.args.nodes.now - 1) c.args.bonds.now _ c.args.x c.other_end-y.result c.requires.ends joined in
    let below : c.other_end-y.result < length c.loop-number.nodes = omega (arith, end.0, end.1, c.loop-number.auto.nodes, c.requires.within.1) in
    rw c.in_ok-push.ensures.items
    (IsFollowed-new c.args.bonds.now c.args.nodes.now (length c.args.stack.now.items) c.args.x
    (node c.args.nodes.now c.args.x).root c.args.numbers.now c.loop-number.number-index c.loop-number.nodes
    c.loop-number.stack.items c.other_end-y.result refl c.requires.reached joined c.loop-number.invariant _ end.0
    below c.if-nodes-y-ne0.false refl)

pub returns-clause-reaching : goal.returns-clause-reaching
returns-clause-reaching c =
    IsFollowed-all c.args.bonds.now c.args.nodes.now (length c.args.stack.now.items) c.args.x
    (node c.args.nodes.now c.args.x).root c.args.numbers.now c.loop-number.number-index c.loop-number.nodes
    c.loop-number.stack.items refl c.requires.numbers c.loop-number-test.false c.loop-number.invariant
