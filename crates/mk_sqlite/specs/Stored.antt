-- How the selections show rows, and how places stand in the file. It serves code alone.
--     stored_place place            the bytes that a place is stored as
--     IsRecordRow columns row       the columns are those of the record, and so for a query and a
--                                   cursor
--     IsNext rows next              the rows say that this is the next number
use Rattle.std.specs.Prelude.{◌≡◌, ◌<◌, ℕ, pos, List, [], ◌∷◌, ◌++◌, Some}
use Rattle.std.specs.Int.{bytes_high_first}
use Rattle.sqlite_value.specs.declared.value.Value.{Value}
use Rattle.sqlite_value.specs.declared.value.Value.TheVariants.{Int, Text, Blob}
use Rattle.sqlite_value.specs.Order.{column}
use Rattle.mk_outside.specs.declared.tables.RecordRow.{RecordRow}
use Rattle.mk_outside.specs.declared.tables.QueryRow.{QueryRow}
use Rattle.mk_outside.specs.declared.tables.CursorRow.{CursorRow}
use Rattle.mk_sqlite.specs.Told.{spelt_place}

-- four bytes a number, the highest of them first
unfoldable pub stored_place : List ℕ → List ℕ
stored_place [] = []
stored_place (n ∷ place) = bytes_high_first 4 n ++ stored_place place

-- a record is its number, which has 32 bits, and its text
pub record IsRecordRow (columns : List Value) (row : RecordRow) : Type 0 where
  pub number : column columns 0 ≡ Int (pos row.number)
  pub fits : row.number < 4294967296
  pub text : column columns 1 ≡ Blob row.text

-- a query is its number, its name and its text
pub record IsQueryRow (columns : List Value) (row : QueryRow) : Type 0 where
  pub number : column columns 0 ≡ Int (pos row.number)
  pub fits : row.number < 4294967296
  pub name : column columns 1 ≡ Text row.name
  pub text : column columns 2 ≡ Blob row.text

-- a cursor is its number, its name and its place, which its bytes spell and are read as
pub record IsCursorRow (columns : List Value) (row : CursorRow) : Type 0 where
  pub number : column columns 0 ≡ Int (pos row.number)
  pub fits : row.number < 4294967296
  pub name : column columns 1 ≡ Text row.name
  pub place : column columns 2 ≡ Blob (stored_place row.place)
  pub read : spelt_place (stored_place row.place) ≡ Some row.place

-- the next number of a kind is what its row says, and 1 where there is none
abbrev pub IsNext : List (List Value) → ℕ → Type 0
IsNext [] next = next ≡ 1
IsNext (columns ∷ rows) next = (column columns 0 ≡ Int (pos next)) × (next < 4294967296)
