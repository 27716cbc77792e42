use Rattle.std.proofs.Common.{◌≤◌}
use Rattle.mk_query.specs.Recursion.{Holds, leads}
use Rattle.mk_query.proofs.recursion.all_leads.Given as goal

abbrev pub invariant-loop-k : goal.invariant-loop-k
invariant-loop-k l =
    record {
      most : l.k ≤ 32;
      holds : Holds (leads l.draft l.k) l.list.items;
    }
