use Rattle.std.proofs.Common.{◌<◌, length, arith}
use Rattle.std.proofs.lemmas.Bool.Decides.{nat_tests}
use Rattle.mk_walk.proofs.WalkLemmas.{none_more}
use Rattle.mk_walk.proofs.search.Search.within.Goals as goal

pub returns-then-atom_count-eq0-clause-left : goal.returns-then-atom_count-eq0-clause-left
returns-then-atom_count-eq0-clause-left c =
    let some : 0 < length c.args.front.now = grind (arith, nat_tests, c.if-is_empty.ensures) in
    rw c.at_rest-then-atom_count-eq0.ensures.stage
    (none_more c.args.graph.now c.args.mol.now c.args.front.now (omega (arith, c.atom_count.ensures.count, c.if-atom_count-eq0.true)) some)
