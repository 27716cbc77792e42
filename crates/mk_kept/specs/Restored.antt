-- What the parts that read stored rows answer. It serves the code alone, and `IsRestored` who calls
-- it.
--     ReadsRows ..              the rows of a kind read, or the first that doesn't is named
--     IsMeantBy text query      what a stored text means
--     IsRestored t result       the queries and saved searches of tables
use Rattle.std.specs.Prelude.{◌≡◌, ℕ, List, Option, Some, None, Result, Ok, Err, ⊤}
use Rattle.mk_outside.specs.declared.tables.Tables.{Tables}
use Rattle.mk_model.specs.Queries.{QueryView}
use Rattle.mk_kept.specs.Saved.{HasMeaning, IsMeant, SavedView}
use Rattle.mk_kept.specs.declared.stored_rows.BeginFail.{BeginFail}
use Rattle.mk_kept.specs.declared.stored_rows.BeginFail.TheVariants as begin
use Rattle.mk_kept.specs.declared.stored_rows.RowKind.{RowKind}
use Rattle.mk_kept.specs.StoredRows.{AllRead, EachReads, IsFirstBad, IsFirstBadRow, RecordsRead}

-- this is the number of the first row that doesn't read
pub record IsFirstBadOf {R : Type 0} (Reads : List R → R → Type 0) (number_of : R → ℕ) (rows : List R) (n : ℕ) : Type 0 where
  pub row : R
  pub bad : IsFirstBadRow Reads rows row
  pub is : n ≡ number_of row

-- the rows of a kind read, or the first that doesn't is named
abbrev pub ReadsRows : {R A : Type 0} → (List R → R → Type 0) → (R → ℕ) → RowKind → List R → Result A BeginFail → Type 0
ReadsRows Reads number_of kind rows (Ok done) = EachReads Reads rows
ReadsRows Reads number_of kind rows (Err begin.Store) = ⊥
ReadsRows Reads number_of kind rows (Err (begin.BadStore bad n)) = (bad ≡ kind) × IsFirstBadOf Reads number_of rows n
ReadsRows Reads number_of kind rows (Err begin.Memory) = ⊤

-- what a stored text means, or none where it isn't that of a query row
abbrev pub IsMeantBy : List ℕ → Option QueryView → Type 0
IsMeantBy text (Some query) = IsMeant text query
IsMeantBy text None = ¬ (HasMeaning text)

-- the queries and saved searches of the tables, or, where the record rows read, the first row of
-- theirs that doesn't
abbrev pub IsRestored : Tables → Result SavedView BeginFail → Type 0
IsRestored t (Ok saved) = (saved.queries ≡ t.queries) × (saved.cursors ≡ t.cursors) × (saved.next_cursor ≡ t.next_cursor) × (RecordsRead t → AllRead t)
IsRestored t (Err begin.Store) = ⊥
IsRestored t (Err (begin.BadStore kind number)) = RecordsRead t → IsFirstBad t kind number
IsRestored t (Err begin.Memory) = ⊤
