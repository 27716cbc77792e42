use Rattle.mk_demands.proofs.BondLemmas.{numbers_are, numbers-within, new_at, new-more, new-fails, new-all, edge_between}
use Rattle.mk_demands.proofs.bonds.first_pair_twice.Goals as goal

pub has_earlier-requires-clause-numbers : goal.has_earlier-requires-clause-numbers
has_earlier-requires-clause-numbers c =
    let ends = edge_between _ _ c.loop-b.b _ c.loop-b-test.true c.requires.ends in
    numbers-within c.args.edges.now _ _ (numbers_are c.args.near.now c.args.edges.now _ _ c.requires.rows ends.first.0 ends.first.1 c.at.ensures)

pub loop-b-preserved : goal.loop-b-preserved
loop-b-preserved c = λ k below.
    let ends = edge_between _ _ c.loop-b.b _ c.loop-b-test.true c.requires.ends in
    let numbers = numbers_are c.args.near.now c.args.edges.now _ _ c.requires.rows ends.first.0 ends.first.1 c.at.ensures in
    new-more c.args.edges.now c.loop-b.b k (new_at c.args.edges.now c.loop-b.b _ c.at.result.now numbers (c.has_earlier.ensures.none c.if-has_earlier.false)) c.loop-b.invariant below

pub returns-then-has_earlier : goal.returns-then-has_earlier
returns-then-has_earlier c = new-fails c.args.edges.now c.loop-b.b c.loop-b-test.true (c.has_earlier.ensures.found c.if-has_earlier.true) c.loop-b.invariant

pub returns : goal.returns
returns c = new-all c.args.edges.now c.loop-b.b c.loop-b-test.false c.loop-b.invariant
