use Rattle.mk_model.proofs.MoleculesLemmas.{AreOthers}
use Rattle.mk_model.proofs.edges.find_bond.Given as goal

abbrev pub invariant-loop-number : goal.invariant-loop-number
invariant-loop-number l = AreOthers l.bonds l.numbers l.a l.b l.number-index
