-- SDfiles by their parts, read from the left. It serves the code and the proofs.
--     steps n                 an SDfile of no more than n blocks before its last one
--     sdfile_part             an SDfile of any number of blocks
--     sdfile_at lines         what reading the lines to the last gives
--     farther_fault           the fault of lines that are neither blank lines alone nor begin with
--                             a block
use Rattle.std.specs.Prelude.{ℕ, zero, suc, max, List, [], ◌∷◌, ◌++◌, Option, Some, None}
use Rattle.mk_form.specs.Either.{either}
use Rattle.mk_form.specs.Exact.{Part}
use Rattle.mk_form.specs.Limit.{limit}
use Rattle.mk_form.specs.Reading.{Reading}
use Rattle.mk_form.specs.Seen.{seen_as, with_lines}
use Rattle.mk_form.specs.Sequence.{sequence}
use Rattle.mk_form.specs.ToEnd.{lines_to_end, up_to}
use Rattle.mk_text.specs.Columns.{are_blank}
use Rattle.mk_text.specs.KeptLines.{kept_lines}
use Rattle.mk_tables.specs.declared.fault.TableFault.{TableFault}
use Rattle.mk_tables.specs.declared.fault.TableFault.TheVariants.{Bad, V3000, Memory}
use Rattle.mk_tables.specs.declared.raw.RawTable.{RawTable}
use Rattle.mk_tables.specs.TableLines.{Line}
use Rattle.mk_sdfile.specs.declared.raw_record.RawRecord.{RawRecord}
use Rattle.mk_sdfile.specs.MoleculeFile.{molecule_file}
use Rattle.mk_sdfile.specs.Sdfile.{is_separator}

-- ---- the parts

-- blank lines to the end, and no record
abbrev pub blanks_part : Part Line (List RawRecord)
blanks_part = seen_as (λ _. []) (lines_to_end are_blank)

-- the record of a table, with these lines
abbrev pub record_of : RawTable → List Line → RawRecord
record_of table lines = record { table = table; text = kept_lines lines }

-- the record of a molfile with its lines and of data lines, and the records behind its separator,
-- if it has one
abbrev pub records_of : RawTable × List Line → List Line × Option (List RawRecord) → List RawRecord
records_of m (data_lines, None) = record_of m.0 (m.1 ++ data_lines) ∷ []
records_of m (data_lines, Some records) = record_of m.0 (m.1 ++ data_lines) ∷ records

-- behind a molfile: data lines to the end, or up to a separator with what stands behind it
abbrev pub after_molfile : Part Line (List RawRecord) → RawTable × List Line → Part Line (List RawRecord)
after_molfile behind m = seen_as (records_of m) (up_to is_separator behind)

-- a block, and then what stands behind it
abbrev pub block_part : Part Line (List RawRecord) → Part Line (List RawRecord)
block_part behind = sequence (with_lines molecule_file) (after_molfile behind)

-- Blank lines, or a block and then the same again. The first lines of a text may be both, and then
-- the farther stop counts.
abbrev pub file_part : Part Line (List RawRecord) → Part Line (List RawRecord)
file_part behind = either blanks_part (block_part behind)

-- no more than n blocks, one within the other
abbrev pub steps : ℕ → Part Line (List RawRecord)
steps zero = blanks_part
steps (suc n) = file_part (steps n)

-- an SDfile of any number of blocks
abbrev pub sdfile_part : Part Line (List RawRecord)
sdfile_part = limit steps

-- what reading the lines to the last gives
unfoldable pub sdfile_at : List Line → Reading Line (List RawRecord)
sdfile_at = sdfile_part.read

-- ---- the faults of readers

-- Blank lines go on to the first line that isn't blank, and a block to the line that its fault
-- names. A line that says V3000 isn't blank, so it is no nearer.
abbrev pub farther_fault : ℕ → TableFault → TableFault
farther_fault first (Bad k) = Bad (max k first)
farther_fault first (V3000 k) = V3000 k
farther_fault first Memory = Memory
