use Rattle.std.proofs.Common.{ℕ, ◌<◌, ◌+◌}
use Rattle.mk_query.proofs.NumberedLemmas.{Numbered}
use Rattle.mk_query.proofs.ListLemmas.{HasListsAt}
use Rattle.mk_query.proofs.lists.first_unlisted_atom.Given as goal

abbrev pub invariant-loop-i : goal.invariant-loop-i
invariant-loop-i l = (j : ℕ) → j < l.i + 1 → Numbered (HasListsAt l.table) l.table.atoms j
