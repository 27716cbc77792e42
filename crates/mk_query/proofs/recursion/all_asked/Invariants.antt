use Rattle.std.proofs.Common.{◌≡◌, ◌*◌, length}
use Rattle.mk_query.specs.Recursion.{HoldSoFar, asks_for}
use Rattle.mk_query.proofs.RecursionLemmas.{HoldTo}
use Rattle.mk_query.proofs.recursion.all_asked.Given as goal

abbrev pub invariant-loop-a : goal.invariant-loop-a
invariant-loop-a l =
    record {
      size : length l.list.items ≡ 32 * l.a;
      each : HoldSoFar (asks_for l.draft) l.list.items;
    }

abbrev pub invariant-loop-b : goal.invariant-loop-b
invariant-loop-b l = HoldTo (asks_for l.draft) l.list.items l.a l.b
