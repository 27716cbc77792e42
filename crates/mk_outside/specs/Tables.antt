-- What a batch of changes makes of tables, whose rows may stand in any order.
--     no_tables                  tables without rows
--     after_change change t      the tables after one change
--     after_batch batch t        the tables after all changes, in order
--     CanKeep change             what a keeper can be asked to keep
--     AreRising t                the rows of each table stand by rising number
--     BatchesKeepRising          a law: rising tables stay rising
use Rattle.std.specs.Prelude.{ℕ, ◌+◌, ◌<◌, ◌≤◌, max, AllPairs, List, [], ◌∷◌, filter, not, bytes_eq, ⊤}
use Rattle.std.specs.Str.{IsAscii}
use Rattle.mk_outside.specs.declared.tables.RecordRow.{RecordRow}
use Rattle.mk_outside.specs.declared.tables.QueryRow.{QueryRow}
use Rattle.mk_outside.specs.declared.tables.CursorRow.{CursorRow}
use Rattle.mk_outside.specs.declared.tables.Tables.{Tables}
use Rattle.mk_outside.specs.declared.tables.Change.{Change}
use Rattle.mk_outside.specs.declared.tables.Change.TheVariants.{PutRecord, DropRecord, PutQuery, DropQuery, PutCursor, DropCursor}
use Rattle.mk_outside.specs.Rows.{put, without}

-- tables without rows, whose next numbers are the first
abbrev pub no_tables : Tables
no_tables = record { records = []; queries = []; cursors = []; next_record = 1; next_cursor = 1 }

-- the number of a record
abbrev pub record_number : RecordRow → ℕ
record_number row = row.number

-- the number of a query
abbrev pub query_number : QueryRow → ℕ
query_number row = row.number

-- the number of a cursor
abbrev pub cursor_number : CursorRow → ℕ
cursor_number row = row.number

-- the queries of another name
unfoldable pub without_name : List ℕ → List QueryRow → List QueryRow
without_name name rows = filter (λ (row : QueryRow). not (bytes_eq row.name name)) rows

-- A record or a cursor that is put raises the next number above its own. A row that isn't there can
-- be dropped.
abbrev pub after_change : Change → Tables → Tables
after_change (PutRecord number text) t = record t {
  records = put record_number (record { number = number; text = text }) t.records;
  next_record = max t.next_record (number + 1);
}
after_change (DropRecord number) t = record t { records = without record_number number t.records }
after_change (PutQuery number name text) t =
    record t { queries = put query_number (record { number = number; name = name; text = text }) t.queries }
after_change (DropQuery name) t = record t { queries = without_name name t.queries }
after_change (PutCursor number name place) t = record t {
  cursors = put cursor_number (record { number = number; name = name; place = place }) t.cursors;
  next_cursor = max t.next_cursor (number + 1);
}
after_change (DropCursor number) t = record t { cursors = without cursor_number number t.cursors }

-- the tables after all changes, in order
abbrev pub after_batch : List Change → Tables → Tables
after_batch [] t = t
after_batch (change ∷ batch) t = after_batch batch (after_change change t)

-- what a keeper can be asked to keep: names are ASCII, and behind a number there is room for the
-- next
abbrev pub CanKeep : Change → Type 0
CanKeep (PutRecord number text) = number ≤ 999999999
CanKeep (DropRecord number) = ⊤
CanKeep (PutQuery number name text) = IsAscii name
CanKeep (DropQuery name) = IsAscii name
CanKeep (PutCursor number name place) = (number ≤ 999999999) × IsAscii name
CanKeep (DropCursor number) = ⊤

-- the rows of each table stand by rising number
pub record AreRising (t : Tables) : Type 0 where
  pub records : AllPairs (λ (a b : RecordRow). a.number < b.number) t.records
  pub queries : AllPairs (λ (a b : QueryRow). a.number < b.number) t.queries
  pub cursors : AllPairs (λ (a b : CursorRow). a.number < b.number) t.cursors

-- a batch leaves rising tables rising
abbrev pub BatchesKeepRising : Type 0
BatchesKeepRising = (batch : List Change) (t : Tables) → AreRising t → AreRising (after_batch batch t)
