-- The tables that a database stands for.
--     spelt_place bytes                            the place that bytes of the file spell
--     record_in row, query_in row, cursor_in row   what a row of the file says, where it has a form
--     next_in which rows                           the next number of a kind
--     tables_of db                                 the tables, where the database stands for some
--     AreTablesOf db t                             each row has a form, and these are the tables
-- What follows serves code alone:
--     IsTold stage trees t                         the same of the trees of a known schema, part by
--                                                  part
use Rattle.std.specs.Prelude.{◌≡◌, ℕ, nat_lt, ℤ, pos, Bool, true, if◌then◌else◌, ◌&&◌, List, [], ◌∷◌, find, Option, Some, None, option_map, option_and_then}
use Rattle.std.specs.List.{AllZip}
use Rattle.std.specs.Int.{w32, from_be_bytes}
use Rattle.std.specs.Ordering.{is_lt}
use Rattle.sqlite_value.specs.declared.value.Value.{Value}
use Rattle.sqlite_value.specs.declared.value.Value.TheVariants.{Int, Text, Blob}
use Rattle.sqlite_value.specs.Order.{Row, column, value_cmp}
use Rattle.sqlite_trees.specs.declared.store.Shape.TheVariants.{Table}
use Rattle.sqlite_trees.specs.Tree.{Trees, rowid, has_rowid}
use Rattle.sqlite_trees.specs.View.{is_int, IsShaped}
use Rattle.sqlite.specs.Effect.{Database}
use Rattle.mk_outside.specs.declared.tables.RecordRow.{RecordRow}
use Rattle.mk_outside.specs.declared.tables.QueryRow.{QueryRow}
use Rattle.mk_outside.specs.declared.tables.CursorRow.{CursorRow}
use Rattle.mk_outside.specs.declared.tables.Tables.{Tables}
use Rattle.mk_sqlite.specs.Layout.{Stage, no_table, one_table, two_tables, three_tables, all_tables, stage_of}

-- ---- rows

-- a number is an integer of 32 bits without a sign
abbrev pub number_by : Value → Option ℕ
number_by (Int (pos n)) = if nat_lt n 4294967296 then Some n else None
number_by _ = None

-- the bytes of a blob
abbrev pub blob_by : Value → Option (List ℕ)
blob_by (Blob bytes) = Some bytes
blob_by _ = None

-- the bytes of a text
abbrev pub text_by : Value → Option (List ℕ)
text_by (Text bytes) = Some bytes
text_by _ = None

-- A place is four bytes a number, the highest of them first. Bytes that aren't four a number are
-- none.
abbrev pub spelt_place : List ℕ → Option (List ℕ)
spelt_place [] = Some []
spelt_place (a ∷ b ∷ c ∷ d ∷ more) = option_map (λ place. from_be_bytes w32 (a ∷ b ∷ c ∷ d ∷ []) ∷ place) (spelt_place more)
spelt_place _ = None

-- a record is its number, which is the rowid, and its text
abbrev pub record_in : Row → Option RecordRow
record_in row = option_and_then (λ n. option_map (λ text. record { number = n; text = text })
    (blob_by (column row 2))) (number_by (rowid row))

-- a query is its number, its name and its text
abbrev pub query_in : Row → Option QueryRow
query_in row = option_and_then (λ n. option_and_then (λ name. option_map (λ text. record { number = n; name = name; text = text })
    (blob_by (column row 3))) (text_by (column row 2))) (number_by (rowid row))

-- a cursor is its number, its name and its place
abbrev pub cursor_in : Row → Option CursorRow
cursor_in row = option_and_then (λ n. option_and_then (λ name. option_map (λ place. record { number = n; name = name; place = place })
    (option_and_then spelt_place (blob_by (column row 3)))) (text_by (column row 2))) (number_by (rowid row))

-- a next number is the value of its row, and 1 where there is none
abbrev pub next_by : Option Row → Option ℕ
next_by None = Some 1
next_by (Some row) = number_by (column row 2)

-- the next number of the kind that has this rowid
abbrev pub next_in : ℤ → List Row → Option ℕ
next_in which rows = next_by (find (has_rowid which) rows)

-- all rows as they are read, where each has a form
abbrev pub all_of : {X : Type 0} → (Row → Option X) → List Row → Option (List X)
all_of f [] = Some []
all_of f (row ∷ rows) = option_and_then (λ x. option_map (λ xs. x ∷ xs) (all_of f rows)) (f row)

-- ---- tables

-- the rows of the records, and none where there is no such table
abbrev pub records_at : Stage → Trees → List Row
records_at no_table db = []
records_at _ db = db 0

-- the rows of the queries, and none where there is no such table
abbrev pub queries_at : Stage → Trees → List Row
queries_at no_table db = []
queries_at one_table db = []
queries_at _ db = db 1

-- the rows of the cursors, and none where there is no such table
abbrev pub cursors_at : Stage → Trees → List Row
cursors_at all_tables db = db 3
cursors_at three_tables db = db 3
cursors_at _ db = []

-- the rows of the next numbers, and none where there is no such table
abbrev pub nexts_at : Stage → Trees → List Row
nexts_at all_tables db = db 4
nexts_at _ db = []

-- the row's rowid is below that of each of the others
abbrev pub all_above : Row → List Row → Bool
all_above row [] = true
all_above row (next ∷ rows) = is_lt (value_cmp (rowid row) (rowid next)) && all_above row rows

-- the rowids are integers and rise, as those of a tree do
abbrev pub is_ordered : List Row → Bool
is_ordered [] = true
is_ordered (row ∷ rows) = is_int (rowid row) && (all_above row rows && is_ordered rows)

-- the rows of each of the four tables are in order
abbrev pub are_ordered : Stage → Trees → Bool
are_ordered stage db = is_ordered (records_at stage db) && (is_ordered (queries_at stage db)
    && (is_ordered (cursors_at stage db) && is_ordered (nexts_at stage db)))

-- The tables that the trees stand for, where each row has a form. Row 1 of the next numbers is that
-- of records, and row 2 that of cursors.
abbrev pub tables_at : Stage → Trees → Option Tables
tables_at stage db =
    option_and_then (λ records. option_and_then (λ queries. option_and_then (λ cursors.
    option_and_then (λ next_record. option_and_then (λ next_cursor. Some (record {
      records = records;
      queries = queries;
      cursors = cursors;
      next_record = next_record;
      next_cursor = next_cursor;
    }))
    (next_in (pos 2) (nexts_at stage db))) (next_in (pos 1) (nexts_at stage db)))
    (all_of cursor_in (cursors_at stage db))) (all_of query_in (queries_at stage db))) (all_of record_in (records_at stage db))

-- The tables that a database stands for, where its schema is one that the makings leave and each
-- row has a form. A table that isn't there has no rows.
unfoldable pub tables_of : Database → Option Tables
tables_of db = option_and_then (λ stage. if are_ordered stage db.trees then tables_at stage db.trees else None) (stage_of db.schema)

-- The database stands for these tables where its schema is one that the makings leave and its rows
-- stand in order, as those of a tree always do. So each row has a form.
abbrev pub AreTablesOf : Database → Tables → Type 0
AreTablesOf db t = (stage : Stage) → stage_of db.schema ≡ Some stage → are_ordered stage db.trees ≡ true → tables_of db ≡ Some t

-- ---- the same, part by part

-- the rows are read as these, one for each
abbrev pub AreRead : {X : Type 0} → (Row → Option X) → List Row → List X → Type 0
AreRead f = AllZip (λ row x. f row ≡ Some x)

-- the rows are those of a tree, and are read as these
pub record IsKept {X : Type 0} (f : Row → Option X) (rows : List Row) (xs : List X) : Type 0 where
  pub shaped : IsShaped Table rows
  pub read : AreRead f rows xs

-- the rows are those of a tree, and say that these numbers come next
pub record AreNext (rows : List Row) (record_number cursor_number : ℕ) : Type 0 where
  pub shaped : IsShaped Table rows
  pub for_records : next_in (pos 1) rows ≡ Some record_number
  pub for_cursors : next_in (pos 2) rows ≡ Some cursor_number

-- the trees tell these tables
pub record IsTold (stage : Stage) (db : Trees) (t : Tables) : Type 0 where
  pub records : IsKept record_in (records_at stage db) t.records
  pub queries : IsKept query_in (queries_at stage db) t.queries
  pub cursors : IsKept cursor_in (cursors_at stage db) t.cursors
  pub nexts : AreNext (nexts_at stage db) t.next_record t.next_cursor
