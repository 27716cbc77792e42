use Rattle.std.proofs.Common.{◌≡◌, ◌+◌, ◌++◌}
use Rattle.std.specs.List.{range_with_len}
use Rattle.mk_query.proofs.query_groups.put_part.Given as goal

abbrev pub invariant-loop-k : goal.invariant-loop-k
invariant-loop-k l = l.members.items ≡ l.fn.members.items ++ range_with_len (l.before + 1) l.k
