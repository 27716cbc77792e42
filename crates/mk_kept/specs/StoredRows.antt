-- Stored rows that read, and the first that doesn't.
--     EachReads Reads rows          each row reads behind those before it
--     IsFirstBadRow Reads rows row  this row is the first that doesn't
--     AllRead t                     each row of the tables reads
--     IsFirstBad t kind number      the first row that doesn't: among the records, then the
--                                   queries, then the saved searches
--     RecordsRead t                 the record rows are those of a library, by mk_library
--     CanGoOn t                     each row reads, and so do rows that are put under the next
--                                   numbers
use Rattle.std.specs.Prelude.{◌≡◌, ℕ, ◌+◌, ◌<◌, ◌≤◌, true, false, List, ◌∷◌, ◌++◌, length}
use Rattle.std.specs.List.{AllByRecursion}
use Rattle.mk_outside.specs.declared.tables.QueryRow.{QueryRow}
use Rattle.mk_outside.specs.declared.tables.CursorRow.{CursorRow}
use Rattle.mk_outside.specs.declared.tables.Tables.{Tables}
use Rattle.mk_kept.specs.declared.stored_rows.RowKind.{RowKind}
use Rattle.mk_kept.specs.declared.stored_rows.RowKind.TheVariants.{Records, Queries, Cursors}
use Rattle.mk_library.specs.StoredRows as library
use Rattle.mk_kept.specs.Names.{IsHeldNumber, IsName}
use Rattle.mk_kept.specs.Saved.{HasMeaning, bytes_of_texts, is_named, longest_place, most_queries, most_query_bytes, most_searches, most_text_bytes}

-- ---- rows of any kind

module _ {R : Type 0} (Reads : List R → R → Type 0) where
  -- each row reads behind those before it
  abbrev pub EachReads : List R → Type 0
  EachReads rows = (front : List R) (row : R) (others : List R) → rows ≡ front ++ row ∷ others → Reads front row

  -- the rows before this one read, and it doesn't
  pub record IsFirstBadRow (rows : List R) (row : R) : Type 0 where
    pub front : List R
    pub others : List R
    pub whole : rows ≡ front ++ row ∷ others
    pub before : EachReads front
    pub bad : Reads front row → ⊥

-- ---- queries and saved searches

-- A query has a number above those before it, and a name that none of them has. It is among the
-- first 1,000, and few bytes of text stand before it and in it.
pub record HasQueryPlace (front : List QueryRow) (row : QueryRow) : Type 0 where
  pub number : 1 ≤ row.number
  pub above : AllByRecursion (λ (before : QueryRow). before.number < row.number) front
  pub name : IsName row.name
  pub new : is_named row.name front ≡ false
  pub few : length front < most_queries
  pub bytes : bytes_of_texts front + length row.text ≤ most_text_bytes
  pub short : length row.text ≤ most_query_bytes

-- the row of a query may stand behind those before it, and its text means a query
pub record ReadsQuery (front : List QueryRow) (row : QueryRow) : Type 0 where
  pub place : HasQueryPlace front row
  pub text : HasMeaning row.text

-- A saved search has a number above those before it and below the next, and the name of a query
-- that is held. It is among the first 1,000, and its place is no longer than a place can be.
pub record ReadsCursor (queries : List QueryRow) (next : ℕ) (front : List CursorRow) (row : CursorRow) : Type 0 where
  pub number : IsHeldNumber row.number
  pub above : AllByRecursion (λ (before : CursorRow). before.number < row.number) front
  pub below : row.number < next
  pub name : is_named row.name queries ≡ true
  pub few : length front < most_searches
  pub short : length row.place ≤ longest_place

-- ---- tables

-- the record rows are those of a library with this next number
abbrev pub RecordsRead : Tables → Type 0
RecordsRead t = library.AllRead t.next_record t.records

-- each row of the tables reads
pub record AllRead (t : Tables) : Type 0 where
  pub records : RecordsRead t
  pub queries : EachReads ReadsQuery t.queries
  pub cursors : EachReads (ReadsCursor t.queries t.next_cursor) t.cursors

-- the first row that doesn't read: records come first, then queries, then saved searches
pub data IsFirstBad (t : Tables) (kind : RowKind) (number : ℕ) : Type 0 where
  BadRecord : library.IsFirstBad t.next_record t.records number → kind ≡ Records → IsFirstBad t kind number
  BadQuery : RecordsRead t → (row : QueryRow) → IsFirstBadRow ReadsQuery t.queries row
      → kind ≡ Queries → number ≡ row.number → IsFirstBad t kind number
  BadCursor : RecordsRead t → EachReads ReadsQuery t.queries → (row : CursorRow) → IsFirstBadRow (ReadsCursor t.queries t.next_cursor) t.cursors row
      → kind ≡ Cursors → number ≡ row.number → IsFirstBad t kind number

-- each row of the tables reads, and both next numbers are at least 1, so that rows that are put
-- under them read too
pub record CanGoOn (t : Tables) : Type 0 where
  pub reads : AllRead t
  pub record_number : 1 ≤ t.next_record
  pub cursor_number : 1 ≤ t.next_cursor
