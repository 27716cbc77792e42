use Rattle.std.proofs.Common.{◌≡◌, take}
use Rattle.mk_library.specs.StoredRows.{ReadBefore}
use Rattle.mk_library.proofs.library.Library.restore.Given as goal

abbrev pub invariant-loop-row : goal.invariant-loop-row
invariant-loop-row l = record {
  records : l.library.records ≡ take l.row-index l.rows;
  read : ReadBefore l.next l.rows l.row-index;
  next : l.library.next_record ≡ l.next;
}
