use Rattle.std.proofs.Common.{◌≡◌, vec_capacity}
use Rattle.mk_index.specs.Columns.{SetTo}
use Rattle.mk_index.proofs.columns.set_bits.Given as goal

abbrev pub invariant-loop-more : goal.invariant-loop-more
invariant-loop-more l = record {
  set : SetTo l.base l.low l.bits l.more l.fn.columns.items l.columns.items;
  capacity : vec_capacity l.columns ≡ vec_capacity l.fn.columns;
}

abbrev pub decreases-loop-more : goal.decreases-loop-more
decreases-loop-more l = l.more
