use Rattle.std.proofs.Common.{◌≡◌, ◌≤◌}
use Rattle.mk_query.specs.OwnSizes.{marked}
use Rattle.mk_query.proofs.own_sizes.marked.Given as goal

abbrev pub invariant-loop-i : goal.invariant-loop-i
invariant-loop-i l = record { count : l.number ≡ marked l.marks l.i; few : l.number ≤ l.i }
