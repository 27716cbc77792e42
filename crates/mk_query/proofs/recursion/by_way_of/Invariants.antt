use Rattle.std.proofs.Common.{◌≡◌, ◌+◌, ◌*◌, ◌&&◌, ◌||◌, length}
use Rattle.mk_query.specs.Recursion.{HoldSoFar, entry}
use Rattle.mk_query.proofs.RecursionLemmas.{HoldTo}
use Rattle.mk_query.proofs.recursion.by_way_of.Given as goal

abbrev pub invariant-loop-a : goal.invariant-loop-a
invariant-loop-a l =
    record {
      size : length l.new.items ≡ 32 * l.a;
      each : HoldSoFar (λ g h. entry l.list g h || (entry l.list g (l.k + 1) && entry l.list (l.k + 1) h)) l.new.items;
    }

abbrev pub invariant-loop-b : goal.invariant-loop-b
invariant-loop-b l = HoldTo (λ g h. entry l.list g h || (entry l.list g (l.k + 1) && entry l.list (l.k + 1) h)) l.new.items l.a l.b
