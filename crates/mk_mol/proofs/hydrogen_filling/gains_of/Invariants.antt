use Rattle.mk_mol.proofs.GainLemmas.{AreGainsTo}
use Rattle.mk_mol.proofs.hydrogen_filling.gains_of.Given as goal

abbrev pub invariant-loop-i : goal.invariant-loop-i
invariant-loop-i l = AreGainsTo l.table l.atoms l.i l.gains.items
