use Rattle.std.proofs.Common.{ℕ, ◌<◌, ◌+◌}
use Rattle.mk_text.specs.Items.{OfItem}
use Rattle.mk_query.specs.Checks.{IsQueryAtom}
use Rattle.mk_query.proofs.atom_checks.first_unknown_atom.Given as goal

abbrev pub invariant-loop-i : goal.invariant-loop-i
invariant-loop-i l = (j : ℕ) → j < l.i + 1 → OfItem IsQueryAtom l.atoms j
