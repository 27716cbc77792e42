use Rattle.std.proofs.Common.{ℕ, ◌<◌, ◌+◌}
use Rattle.mk_demands.specs.Values.{NamesAtoms}
use Rattle.mk_text.specs.Items.{OfItem}
use Rattle.mk_mol.proofs.property_checks.first_misnamed.Given as goal

abbrev pub invariant-loop-i : goal.invariant-loop-i
invariant-loop-i l = (j : ℕ) → j < l.i + 1 → OfItem (NamesAtoms l.atoms) l.props j
