use Rattle.std.proofs.Common.{ℕ, ◌<◌, ◌+◌}
use Rattle.mk_query.specs.LinkChecks.{HasPoint}
use Rattle.mk_query.proofs.points.first_misplaced_point.Given as goal

abbrev pub invariant-loop-i : goal.invariant-loop-i
invariant-loop-i l = (j : ℕ) → j < l.i + 1 → HasPoint l.is_root l.notes.table.now j
