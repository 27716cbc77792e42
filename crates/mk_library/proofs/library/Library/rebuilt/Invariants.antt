use Rattle.std.proofs.Common.{◌≡◌, take}
use Rattle.mk_library.proofs.library.Library.rebuilt.Given as goal

abbrev pub invariant-loop-row : goal.invariant-loop-row
invariant-loop-row l = record {
  records : l.library.records ≡ take l.row-index l.self.records;
  next : l.library.next_record ≡ l.self.next_record;
}
