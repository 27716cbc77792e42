-- The form of V3000 tables, of which forms that hold them are made, and what holds of them in a text.
--     v3000_form                          the form, with its reader
--     IsV3000TableFrom at lines next table     a V3000 table begins behind the first `at` lines
--     IsBadV3000From at lines k           line k is the first that no V3000 table can have there
--     OneTable, BadWhereNoTable, OneBadLine    there is one table, or one bad line
--     V3000TablesAreExact                 V3000 tables are read exactly, whatever follows them
use Rattle.std.specs.Prelude.{◌≡◌, ◌↔◌, ℕ, ◌≤◌, List, length}
use Rattle.mk_form.specs.Exact.{Part, Exact, Anything, Never}
use Rattle.mk_form.specs.Fronts.{IsPartFrom, IsBadLineFromWhere}
use Rattle.mk_tables.specs.declared.raw.RawTable.{RawTable}
use Rattle.mk_tables.specs.TableLines.{Line, is_v3000}
use Rattle.mk_v3000.specs.V3000Table.{IsV3000Table, IsV3000Front}
use Rattle.mk_v3000.specs.Walking.{v3000_at}

-- The form of V3000 tables: what may go on is a front or ends inside a logical line, and no line is
-- named.
abbrev pub v3000_form : Part Line RawTable
v3000_form = record { is = IsV3000Table; live = IsV3000Front; due = Never; read = v3000_at }

-- the lines behind the first `at` and up to the first `next` are a V3000 table, and this its twin
abbrev pub IsV3000TableFrom : ℕ → List Line → ℕ → RawTable → Type 0
IsV3000TableFrom at lines next table = IsPartFrom IsV3000Table at lines next table

-- line k is the first with which the lines behind the first `at` are no front of a V3000 table and
-- don't end inside a logical line of one, or one more than the number of lines
abbrev pub IsBadV3000From : ℕ → List Line → ℕ → Type 0
IsBadV3000From at lines k = IsBadLineFromWhere IsV3000Front IsV3000Table at lines k

-- at most one V3000 table begins at a line, with one end
abbrev pub OneTable : Type 0
OneTable = (at : ℕ) (lines : List Line) (m n : ℕ) (a b : RawTable) → IsV3000TableFrom at lines m a → IsV3000TableFrom at lines n b → (m ≡ n) × (a ≡ b)

-- there is a bad line exactly where no V3000 table begins
abbrev pub BadWhereNoTable : Type 0
BadWhereNoTable = (at : ℕ) (lines : List Line) → at ≤ length lines → ((k : ℕ) × IsBadV3000From at lines k) ↔ ((next : ℕ) (table : RawTable) → ¬ (IsV3000TableFrom at lines next table))

-- behind the first `at` lines there is at most one bad line
abbrev pub OneBadLine : Type 0
OneBadLine = (at : ℕ) (lines : List Line) (j k : ℕ) → IsBadV3000From at lines j → IsBadV3000From at lines k → j ≡ k

-- V3000 tables are read exactly, whatever follows them
abbrev pub V3000TablesAreExact : Type 0
V3000TablesAreExact = Exact is_v3000 Anything v3000_form
