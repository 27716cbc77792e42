-- SDfiles: a relation between a whole list of lines and records.
--     IsSdfile lines records                  the lines are the records of an SDfile, in order
--     IsSdfileFront lines                     they are a front of an SDfile, or end inside a
--                                             logical line of a V3000 table
--     IsBadSdfileLine lines k                 line k is the first with which they are no such front
--     IsNamedV3000 lines k                    line k is named V3000, which no line of an SDfile is
--     HasOneValue, HasBadLine, HasOneBadLine  three laws of it
--     TextIsItsRecord                         and one of the texts of records
-- What a molfile is, is said in MoleculeFile.antt, and what is kept of lines in mk_text.
use Rattle.std.specs.Prelude.{◌≡◌, ◌↔◌, ℕ, Bool, true, false, nat_eq, codes, List, [], ◌∷◌, ◌++◌, length, All, Option, MatchOption, option_to_list, ◌⊎◌}
use Rattle.std.specs.List.{starts_with}
use Rattle.mk_form.specs.Exact.{Never}
use Rattle.mk_form.specs.Fronts.{IsFront, IsBadLineWhere, IsNamed}
use Rattle.mk_form.specs.Rows.{Series}
use Rattle.mk_form.specs.ToEnd.{EachIs}
use Rattle.mk_text.specs.Columns.{are_blank}
use Rattle.mk_text.specs.KeptLines.{kept_lines}
use Rattle.mk_text.specs.Lines.{lines_of}
use Rattle.mk_tables.specs.KeptTables.{KeepsItsText}
use Rattle.mk_tables.specs.TableLines.{Line, is_v3000}
use Rattle.mk_v3000.specs.V3000Table.{EndInside}
use Rattle.mk_sdfile.specs.declared.raw_record.RawRecord.{RawRecord}
use Rattle.mk_sdfile.specs.MoleculeFile.{IsMoleculeFile}

-- ---- the form

-- the line ends a block: it begins with `$$$$`, whatever stands behind that
abbrev pub is_separator : Line → Bool
is_separator line = starts_with nat_eq line (codes "$$$$")

-- A molfile of either kind and data lines, which are any lines that are no separator. The record's text are these
-- lines as they are kept.
pub record IsRecord (lines : List Line) (of : RawRecord) : Type 0 where
  pub molfile_lines : List Line
  pub data_lines : List Line
  pub whole : lines ≡ molfile_lines ++ data_lines
  pub molfile : IsMoleculeFile molfile_lines of.table
  pub no_separator : EachIs is_separator false data_lines
  pub text : of.text ≡ kept_lines lines

-- a record and its separator
pub record IsRecordBlock (lines : List Line) (of : RawRecord) : Type 0 where
  pub record_lines : List Line
  pub separator : Line
  pub whole : lines ≡ record_lines ++ separator ∷ []
  pub is : IsRecord record_lines of
  pub separates : is_separator separator ≡ true

-- Blocks, and behind them blank lines alone, or none, or a last record without its separator.
pub record IsSdfile (lines : List Line) (records : List RawRecord) : Type 0 where
  pub blocks : List RawRecord
  pub block_lines : List Line
  pub last : Option RawRecord
  pub last_lines : List Line
  pub whole : lines ≡ block_lines ++ last_lines
  pub each : Series IsRecordBlock block_lines blocks
  pub ended : MatchOption last (EachIs are_blank true last_lines) (IsRecord last_lines)
  pub all : records ≡ blocks ++ option_to_list last

-- ---- the line that is named

-- The lines end inside a logical line of a V3000 table, behind some blocks and three header lines.
pub record EndsInsideLine (lines : List Line) : Type 0 where
  pub blocks : List RawRecord
  pub block_lines : List Line
  pub header_lines : List Line
  pub table_lines : List Line
  pub whole : lines ≡ block_lines ++ (header_lines ++ table_lines)
  pub each : Series IsRecordBlock block_lines blocks
  pub three : length header_lines ≡ 3
  pub inside : EndInside table_lines

-- some further lines, or none, make the lines an SDfile; or they end inside a logical line of a
-- V3000 table, whether or not that can still be mended
abbrev pub IsSdfileFront : List Line → Type 0
IsSdfileFront lines = IsFront IsSdfile lines ⊎ EndsInsideLine lines

-- line k is the first with which the lines are no front, or one more than the number of lines
abbrev pub IsBadSdfileLine : List Line → ℕ → Type 0
IsBadSdfileLine lines k = IsBadLineWhere IsSdfileFront IsSdfile lines k

-- No line of an SDfile is named V3000: where a counts line says so, the table is read. The word
-- stands for the statements above, which tell both kinds of files alike.
abbrev pub IsNamedV3000 : List Line → ℕ → Type 0
IsNamedV3000 lines k = IsNamed Never is_v3000 lines k

-- ---- laws

-- lines are one SDfile at most, with one list of records
abbrev pub HasOneValue : Type 0
HasOneValue = (lines : List Line) (a b : List RawRecord) → IsSdfile lines a → IsSdfile lines b → a ≡ b

-- lines have a bad line exactly where they are no SDfile
abbrev pub HasBadLine : Type 0
HasBadLine = (lines : List Line) → ((k : ℕ) × IsBadSdfileLine lines k) ↔ ((records : List RawRecord) → ¬ (IsSdfile lines records))

-- lines have at most one bad line
abbrev pub HasOneBadLine : Type 0
HasOneBadLine = (lines : List Line) (j k : ℕ) → IsBadSdfileLine lines j → IsBadSdfileLine lines k → j ≡ k

-- The text of a record is an SDfile of that one record, with its table and with the same text,
-- where no symbol and no range text of the table ends with CR: those alone are lost with the CR
-- bytes at the ends of lines.
abbrev pub TextIsItsRecord : Type 0
TextIsItsRecord = (text : List ℕ) (records : List RawRecord) → IsSdfile (lines_of text) records → All (λ r. KeepsItsText r.table → IsSdfile (lines_of r.text) (r ∷ [])) records
