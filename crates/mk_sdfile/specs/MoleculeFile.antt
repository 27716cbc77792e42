-- Molfiles of either kind: three header lines, and then a table of the format V2000 or V3000. They
-- begin the records of SDfiles.
--     IsMoleculeFile lines table     the lines are, in order, three header lines and those of a table
--     IsMoleculeFront lines          they are a front of one, or end inside a logical line of one
--     molecule_file                  the form, with its reader
-- A table of the format V3000 is its twin, as mk_v3000 says.
use Rattle.std.specs.Prelude.{◌≡◌, Bool, false, List, ◌++◌, length, ◌⊎◌}
use Rattle.mk_form.specs.Choice.{choice}
use Rattle.mk_form.specs.Exact.{Part, Never}
use Rattle.mk_form.specs.Fronts.{IsFront}
use Rattle.mk_form.specs.Reading.{Reading, Took, Stop}
use Rattle.mk_form.specs.Rows.{any_lines}
use Rattle.mk_form.specs.Sequence.{sequence}
use Rattle.mk_tables.specs.declared.raw.RawTable.{RawTable}
use Rattle.mk_tables.specs.Table.{IsTable}
use Rattle.mk_tables.specs.TableLaws.{table_form}
use Rattle.mk_tables.specs.TableLines.{Line, is_v3000}
use Rattle.mk_v3000.specs.V3000Form.{v3000_form}
use Rattle.mk_v3000.specs.V3000Table.{IsV3000Table, EndInside}

-- ---- the form

-- the lines are a table of the format V2000, or one of the format V3000 whose twin this is
abbrev pub IsEitherTable : List Line → RawTable → Type 0
IsEitherTable lines table = IsV3000Table lines table ⊎ IsTable lines table

-- three header lines, whatever they are, and a table of either kind
pub record IsMoleculeFile (lines : List Line) (table : RawTable) : Type 0 where
  pub header_lines : List Line
  pub table_lines : List Line
  pub whole : lines ≡ header_lines ++ table_lines
  pub three : length header_lines ≡ 3
  pub is : IsEitherTable table_lines table

-- three header lines, and behind them lines that end inside a logical line of a V3000 table
pub record EndInTable (lines : List Line) : Type 0 where
  pub header_lines : List Line
  pub table_lines : List Line
  pub whole : lines ≡ header_lines ++ table_lines
  pub three : length header_lines ≡ 3
  pub inside : EndInside table_lines

-- some further lines, or none, make the lines a molfile of either kind; or they end inside a logical
-- line of a V3000 table
abbrev pub IsMoleculeFront : List Line → Type 0
IsMoleculeFront lines = IsFront IsMoleculeFile lines ⊎ EndInTable lines

-- ---- read from the left

-- a reading whose stop isn't named
abbrev pub unnamed : {V : Type 0} → Reading Line V → Reading Line V
unnamed (Took value rest) = Took value rest
unnamed (Stop named rest) = Stop false rest

-- the part p, of which no line is named
abbrev pub quiet : {V : Type 0} → Part Line V → Part Line V
quiet p = record { is = p.is; live = p.live; due = Never; read = λ lines. unnamed (p.read lines) }

-- a V3000 table where the first line says so, else a table of the format V2000
abbrev pub either_table : Part Line RawTable
either_table = choice is_v3000 v3000_form (quiet table_form)

-- three header lines, and behind them a V3000 table
abbrev pub v3000_molfile : Part Line RawTable
v3000_molfile = sequence (any_lines 3) (λ _. v3000_form)

-- three header lines, and behind them a table of either kind
abbrev pub molecule_part : Part Line RawTable
molecule_part = sequence (any_lines 3) (λ _. either_table)

-- what reading a molfile of either kind from the first of the lines on gives
unfoldable pub molecule_at : List Line → Reading Line RawTable
molecule_at = molecule_part.read

-- The form of molfiles of either kind. No line of one is named.
abbrev pub molecule_file : Part Line RawTable
molecule_file = record { is = IsMoleculeFile; live = IsMoleculeFront; due = Never; read = molecule_at }
