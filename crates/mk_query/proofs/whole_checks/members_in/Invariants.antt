use Rattle.std.proofs.Common.{◌≡◌, ◌≤◌, take}
use Rattle.mk_rgfile.specs.QueryFacts.{members_in}
use Rattle.mk_query.proofs.whole_checks.members_in.Given as goal

abbrev pub invariant-loop-i : goal.invariant-loop-i
invariant-loop-i l = record { is : l.count ≡ members_in (take l.i l.groups); few : l.count ≤ 4096 }
