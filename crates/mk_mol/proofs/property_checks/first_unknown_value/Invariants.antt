use Rattle.std.proofs.Common.{ℕ, ◌<◌, ◌+◌}
use Rattle.mk_demands.specs.Values.{HasKnownValues}
use Rattle.mk_text.specs.Items.{OfItem}
use Rattle.mk_mol.proofs.property_checks.first_unknown_value.Given as goal

abbrev pub invariant-loop-i : goal.invariant-loop-i
invariant-loop-i l = (j : ℕ) → j < l.i + 1 → OfItem HasKnownValues l.props j
