-- Molfiles: three header lines, and then a table. They begin the records of other files, and a
-- query may be one.
--     IsMolfile lines table      the lines are, in order, three header lines and those of the table
--     molfile                    the form, with its reader
use Rattle.std.specs.Prelude.{◌≡◌, List, ◌++◌, length}
use Rattle.mk_form.specs.Exact.{Part}
use Rattle.mk_form.specs.InWords.{form}
use Rattle.mk_form.specs.Reading.{Reading}
use Rattle.mk_form.specs.Rows.{any_lines}
use Rattle.mk_form.specs.Sequence.{sequence}
use Rattle.mk_tables.specs.declared.raw.RawTable.{RawTable}
use Rattle.mk_tables.specs.Table.{IsTable}
use Rattle.mk_tables.specs.TableLaws.{table_form}
use Rattle.mk_tables.specs.TableLines.{Line}

-- three header lines, whatever they are, and a table
pub record IsMolfile (lines : List Line) (table : RawTable) : Type 0 where
  pub header_lines : List Line
  pub table_lines : List Line
  pub whole : lines ≡ header_lines ++ table_lines
  pub three : length header_lines ≡ 3
  pub is : IsTable table_lines table

-- the lines are the three header lines, behind which a counts line is due
abbrev pub AreHeaders : List Line → Type 0
AreHeaders lines = length lines ≡ 3

-- three header lines, and behind them a table
abbrev pub molfile_part : Part Line RawTable
molfile_part = sequence (any_lines 3) (λ _. table_form)

-- what reading a molfile from the first of the lines on gives
unfoldable pub molfile_at : List Line → Reading Line RawTable
molfile_at = molfile_part.read

-- The form of molfiles: a counts line is due behind three header lines.
abbrev pub molfile : Part Line RawTable
molfile = form IsMolfile AreHeaders molfile_at
