use Rattle.std.proofs.Common.{ℕ, ◌<◌, ◌+◌}
use Rattle.mk_text.specs.Items.{OfItem}
use Rattle.mk_query.specs.Checks.{IsQueryProperty}
use Rattle.mk_query.proofs.property_checks.first_unknown_property.Given as goal

abbrev pub invariant-loop-i : goal.invariant-loop-i
invariant-loop-i l = (j : ℕ) → j < l.i + 1 → OfItem (IsQueryProperty l.atoms) l.props j
