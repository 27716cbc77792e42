use Rattle.std.proofs.Common.{◌<◌, ◌≤◌, ◌+◌}
use Rattle.mk_query.specs.Recursion.{ComesBack}
use Rattle.mk_query.proofs.RecursionLemmas.{IsLow}
use Rattle.mk_query.proofs.recursion.least_in_group.Given as goal

abbrev pub invariant-loop-i : goal.invariant-loop-i
invariant-loop-i l =
    record {
      most : l.least ≤ l.bound;
      found : l.least < l.bound → ComesBack l.draft l.leads l.members (l.g + 1) l.least;
      lowest : IsLow l.draft l.leads l.members (l.g + 1) l.i l.i l.least;
    }
