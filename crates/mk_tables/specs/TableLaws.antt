-- What holds of the tables in a text: the statements that functions of `src/laws.rt` ensure.
--     IsTableFrom at lines next table     a table begins behind the first `at` lines
--     IsBadFrom at lines k                line k is the first that no table can have there
--     IsV3000From at lines k              line k is the counts line of that table, and says V3000
--     OneTable, BadWhereNoTable, OneBadLine     there is one table, or one bad line
--     table_form                          the form of tables, of which forms that hold tables are
--                                         made
--     TablesAreExact                      tables are read exactly, whatever follows them
--     BlankIsNoCountsLine                 a blank line is no counts line
use Rattle.std.specs.Prelude.{◌≡◌, ◌↔◌, ℕ, ◌≤◌, true, None, List, length}
use Rattle.mk_form.specs.Exact.{Part, Exact, Anything, AtOnce}
use Rattle.mk_form.specs.Fronts.{IsPartFrom, IsBadLineFrom, IsNamedFrom}
use Rattle.mk_form.specs.InWords.{form}
use Rattle.mk_text.specs.Columns.{are_blank}
use Rattle.mk_tables.specs.declared.raw.RawTable.{RawTable}
use Rattle.mk_tables.specs.Table.{IsTable}
use Rattle.mk_tables.specs.TableLines.{Line, is_v3000, counts_of}
use Rattle.mk_tables.specs.TableReading.{table_at}

-- ---- tables among the lines of a text

-- the lines behind the first `at` and up to the first `next` are this table
abbrev pub IsTableFrom : ℕ → List Line → ℕ → RawTable → Type 0
IsTableFrom at lines next table = IsPartFrom IsTable at lines next table

-- line k is the first that no table's front can have behind the first `at`, or one more than the
-- number of lines
abbrev pub IsBadFrom : ℕ → List Line → ℕ → Type 0
IsBadFrom at lines k = IsBadLineFrom IsTable at lines k

-- line k says V3000, and behind the first `at` lines a counts line is due there: it is the first of
-- them
abbrev pub IsV3000From : ℕ → List Line → ℕ → Type 0
IsV3000From at lines k = IsNamedFrom AtOnce is_v3000 at lines k

-- at most one table begins at a line, with one end
abbrev pub OneTable : Type 0
OneTable = (at : ℕ) (lines : List Line) (m n : ℕ) (a b : RawTable) → IsTableFrom at lines m a → IsTableFrom at lines n b → (m ≡ n) × (a ≡ b)

-- there is a bad line exactly where no table begins
abbrev pub BadWhereNoTable : Type 0
BadWhereNoTable = (at : ℕ) (lines : List Line) → at ≤ length lines → ((k : ℕ) × IsBadFrom at lines k) ↔ ((next : ℕ) (table : RawTable) → ¬ (IsTableFrom at lines next table))

-- behind the first `at` lines there is at most one bad line
abbrev pub OneBadLine : Type 0
OneBadLine = (at : ℕ) (lines : List Line) (j k : ℕ) → IsBadFrom at lines j → IsBadFrom at lines k → j ≡ k

-- ---- tables in other forms

-- The form of tables: a line may say V3000 where a counts line is due, and that is before any line.
-- A form that holds tables is made of this part.
abbrev pub table_form : Part Line RawTable
table_form = form IsTable AtOnce table_at

-- tables are read exactly, whatever follows them
abbrev pub TablesAreExact : Type 0
TablesAreExact = Exact is_v3000 Anything table_form

-- a blank line is no counts line, and doesn't say V3000
abbrev pub BlankIsNoCountsLine : Type 0
BlankIsNoCountsLine = (line : Line) → are_blank line ≡ true → (counts_of line ≡ None) × ¬ (is_v3000 line ≡ true)
