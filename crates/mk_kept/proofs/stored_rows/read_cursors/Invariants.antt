use Rattle.std.proofs.Common.{◌≡◌, take}
use Rattle.mk_kept.specs.StoredRows.{EachReads, ReadsCursor}
use Rattle.mk_kept.proofs.stored_rows.read_cursors.Given as goal

abbrev pub invariant-loop-row : goal.invariant-loop-row
invariant-loop-row l = record {
  cursors : l.saved.cursors ≡ take l.row-index l.rows;
  read : EachReads (ReadsCursor l.initial.saved.queries l.initial.saved.next_cursor) (take l.row-index l.rows);
  queries : l.saved.queries ≡ l.initial.saved.queries;
  next : l.saved.next_cursor ≡ l.initial.saved.next_cursor;
}
