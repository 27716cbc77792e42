use Rattle.std.proofs.Common.{◌≡◌, ◌≤◌, take}
use Rattle.mk_query.specs.CompileFaults.{groups_of_number}
use Rattle.mk_query.proofs.whole_checks.groups_of_number.Given as goal

abbrev pub invariant-loop-i : goal.invariant-loop-i
invariant-loop-i l = record { is : l.count ≡ groups_of_number l.g (take l.i l.groups); few : l.count ≤ l.i }
