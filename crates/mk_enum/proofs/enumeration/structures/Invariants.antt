use Rattle.std.proofs.Common.{◌≡◌, ◌≤◌, ◌-◌, length}
use Rattle.mk_enum.proofs.ListedLemmas.{HasListed}
use Rattle.mk_enum.proofs.enumeration.structures.Given as goal

abbrev pub invariant-loop-alloc : goal.invariant-loop-alloc
invariant-loop-alloc l = record {
  listed : HasListed l.query l.place l.left.place l.codes.items l.text.items;
  query : l.left.query ≡ l.query;
  few : length l.codes.items ≤ l.limit;
}

abbrev pub decreases-loop-alloc : goal.decreases-loop-alloc
decreases-loop-alloc l = l.limit - length l.codes.items
