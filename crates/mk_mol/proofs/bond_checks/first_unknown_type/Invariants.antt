use Rattle.std.proofs.Common.{ℕ, ◌<◌, ◌+◌}
use Rattle.mk_text.specs.Items.{OfItem}
use Rattle.mk_mol.specs.Checks.{HasKnownType}
use Rattle.mk_mol.proofs.bond_checks.first_unknown_type.Given as goal

abbrev pub invariant-loop-i : goal.invariant-loop-i
invariant-loop-i l = (j : ℕ) → j < l.i + 1 → OfItem HasKnownType l.bonds j
