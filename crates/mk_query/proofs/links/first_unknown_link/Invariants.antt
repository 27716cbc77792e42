use Rattle.std.proofs.Common.{ℕ, ◌<◌, ◌+◌}
use Rattle.mk_query.specs.LinkChecks.{HasLink}
use Rattle.mk_query.proofs.links.first_unknown_link.Given as goal

abbrev pub invariant-loop-i : goal.invariant-loop-i
invariant-loop-i l = (j : ℕ) → j < l.i + 1 → HasLink l.notes.table.now j
