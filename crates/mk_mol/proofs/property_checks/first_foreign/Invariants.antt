use Rattle.std.proofs.Common.{ℕ, ◌<◌, ◌+◌}
use Rattle.mk_text.specs.Items.{OfItem}
use Rattle.mk_mol.specs.Checks.{IsOfMolecules}
use Rattle.mk_mol.proofs.property_checks.first_foreign.Given as goal

abbrev pub invariant-loop-i : goal.invariant-loop-i
invariant-loop-i l = (j : ℕ) → j < l.i + 1 → OfItem IsOfMolecules l.props j
