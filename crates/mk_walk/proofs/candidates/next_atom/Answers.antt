use Rattle.mk_walk.proofs.CandidateLemmas.{ends_above, ends_between}
use Rattle.mk_walk.proofs.candidates.next_atom.Goals as goal

pub returns-in-Some-clause-between : goal.returns-in-Some-clause-between
returns-in-Some-clause-between c =
    rw c.in-Some.is (ends_between c.args.mol.now c.in-Some.atom c.args.above c.least_end_above.result c.least_end_above.ensures.ends)

pub returns-in-Some-clause-none : goal.returns-in-Some-clause-none
returns-in-Some-clause-none c =
    rw c.in-Some.is (ends_above c.args.mol.now c.in-Some.atom c.args.above c.least_end_above.result c.least_end_above.ensures.ends)

pub returns-in-Some-clause-candidate : goal.returns-in-Some-clause-candidate
returns-in-Some-clause-candidate c = rw c.in-Some.is c.least_end_above.ensures.bonded
