use Rattle.mk_demands.proofs.BondLemmas.{earlier}
use Rattle.mk_demands.proofs.bonds.has_earlier.Goals as goal

pub returns-then-join_same-clause-found : goal.returns-then-join_same-clause-found
returns-then-join_same-clause-found c = λ _. earlier c.args.edges.now c.args.b _ _ c.if-other-b.true c.requires.within (c.join_same.ensures.0 c.if-join_same.true)
