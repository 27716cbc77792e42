use Rattle.std.proofs.Common.{ℕ, ◌<◌, ◌+◌}
use Rattle.mk_text.specs.Items.{OfItem}
use Rattle.mk_mol.specs.Checks.{IsKnownAtom}
use Rattle.mk_mol.proofs.atom_checks.first_unknown_atom.Given as goal

abbrev pub invariant-loop-i : goal.invariant-loop-i
invariant-loop-i l = (j : ℕ) → j < l.i + 1 → OfItem IsKnownAtom l.atoms j
