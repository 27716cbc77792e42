use Rattle.std.proofs.Common.{◌≡◌, vec_capacity}
use Rattle.mk_index.proofs.ColumnsLemmas.{SetUpTo}
use Rattle.mk_index.proofs.columns.set_row.Given as goal

abbrev pub invariant-loop-w : goal.invariant-loop-w
invariant-loop-w l = record {
  set : SetUpTo l.at l.w l.bits l.fn.columns.items l.columns.items;
  capacity : vec_capacity l.columns ≡ vec_capacity l.fn.columns;
}
