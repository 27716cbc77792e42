use Rattle.std.proofs.Common.{◌≡◌, take}
use Rattle.mk_kept.specs.StoredRows.{EachReads, ReadsQuery}
use Rattle.mk_kept.proofs.stored_rows.read_queries.Given as goal

abbrev pub invariant-loop-row : goal.invariant-loop-row
invariant-loop-row l = record {
  queries : l.saved.queries ≡ take l.row-index l.rows;
  read : EachReads ReadsQuery (take l.row-index l.rows);
  cursors : l.saved.cursors ≡ l.initial.saved.cursors;
  next : l.saved.next_cursor ≡ l.initial.saved.next_cursor;
}
