use Rattle.std.proofs.Common.{◌<◌, ◌≤◌, length}
use Rattle.mk_query.proofs.RecursionLemmas.{AreLow, IsBack}
use Rattle.mk_query.proofs.recursion.first_recursive.Given as goal

abbrev pub invariant-loop-g : goal.invariant-loop-g
invariant-loop-g l =
    record {
      most : l.least ≤ length l.draft.templates;
      found : l.least < length l.draft.templates → IsBack l.draft 32 l.leads.items l.least;
      lowest : AreLow l.draft 32 l.leads.items l.g l.least;
    }
