use Rattle.std.proofs.Common.{◌≡◌, ◌+◌, ◌++◌, drop}
use Rattle.mk_rgfile.specs.QueryFacts.{members_in}
use Rattle.mk_query.specs.Compiled.{members_from}
use Rattle.mk_query.proofs.query_groups.members_of.Given as goal

abbrev pub invariant-loop-i : goal.invariant-loop-i
invariant-loop-i l =
    record {
      members : l.members.items ++ members_from (l.before + 1) l.g (drop l.i l.parts) ≡ members_from 1 l.g l.parts;
      sum : l.before + members_in (drop l.i l.parts) ≡ members_in l.parts;
    }
