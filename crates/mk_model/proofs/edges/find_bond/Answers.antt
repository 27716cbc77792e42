use Rattle.std.proofs.Common.{arith}
use Rattle.mk_model.proofs.MoleculesLemmas.{found_among, none_among_more}
use Rattle.mk_model.proofs.edges.find_bond.Goals as goal

pub overflow_sub-bond : goal.overflow_sub-bond
overflow_sub-bond c = (c.requires c.loop-number.number-index 0 c.loop-number-test.true).0

pub bounds-bonds-number : goal.bounds-bonds-number
bounds-bonds-number c = omega (arith, c.requires c.loop-number.number-index 0 c.loop-number-test.true)

pub returns-then-has_ends : goal.returns-then-has_ends
returns-then-has_ends c =
    let here = c.requires c.loop-number.number-index 0 c.loop-number-test.true in
    found_among c.args.bonds.now _ _ c.edge.result c.args.a c.args.b (omega (arith, here)) c.edge.ensures (c.has_ends.ensures.0 c.if-has_ends.true)

pub loop-number-preserved : goal.loop-number-preserved
loop-number-preserved c =
    let here = c.requires c.loop-number.number-index 0 c.loop-number-test.true in
    none_among_more c.args.bonds.now c.args.numbers.now c.loop-number.number-index _ c.edge.result c.args.a c.args.b c.has_ends.result (omega (arith, here)) c.edge.ensures
    c.has_ends.ensures.1 c.if-has_ends.false c.loop-number.invariant

pub returns : goal.returns
returns c = λ i bond below. c.loop-number.invariant i bond (omega arith)
