-- For code alone: the library of the drill's molecules.
--     drilled_text table           the text that is loaded
--     record_text table            the text of its one record
--     IsLoadable table             its text is a file of one record that is a molecule, and is
--                                  short
--     IsCounted library            the records have the numbers from 1 on, and short texts
--     drilled_records start count  the records of the molecules, under the numbers from 1 on
--     left_below k rows            the rows without the first k multiples of 5
--     HoldsExactly rows Held       under a number stand exactly these molecules
use Rattle.std.specs.Prelude.{◌≡◌, ◌↔◌, ℕ, ◌+◌, ◌*◌, ◌%◌, ◌<◌, ◌≤◌, ◌==◌, ◌&&◌, nat_le, not, Bool, List, ◌++◌, length, map, codes}
use Rattle.std.specs.List.{AllByRecursion, filter, range_with_len}
use Rattle.mk_text.specs.KeptLines.{kept_lines}
use Rattle.mk_text.specs.Lines.{lines_of}
use Rattle.mk_model.specs.Molecules.{Molecule}
use Rattle.mk_outside.specs.declared.tables.RecordRow.{RecordRow}
use Rattle.mk_tables.specs.declared.raw.RawTable.{RawTable}
use Rattle.mk_spelling.specs.TableSpelling.{CanBeSpelt, table_spelling}
use Rattle.mk_mol.specs.FirstFault.{MeetsAllChecks}
use Rattle.mk_rows.specs.declared.by_number.Numbered.{Numbered}
use Rattle.mk_library.specs.Library.{LibraryView}
use Rattle.mk_library.specs.Records.{text_bytes}
use Rattle.mk_search.specs.Pages.{IsHeldIn}
use Rattle.mk_drill.specs.Draws.{drilled_table, state_for}

-- three empty header lines, and the spelling of the table
unfoldable pub drilled_text : RawTable → List ℕ
drilled_text table = codes "\n\n\n" ++ table_spelling table

-- the text of a table's record: what is kept of the table's lines
unfoldable pub record_text : RawTable → List ℕ
record_text table = kept_lines (lines_of (drilled_text table))

-- It can be written, its text is short, and it passes the checks of a molecule.
pub record IsLoadable (table : RawTable) : Type 0 where
  pub can : CanBeSpelt table
  pub passes : MeetsAllChecks table
  pub short : length (drilled_text table) ≤ 2523
  pub kept_short : length (record_text table) ≤ 2524

-- ---- libraries

-- The next number is one more than there are records, theirs are below it, and each has a short
-- text.
pub record IsCounted (library : LibraryView) : Type 0 where
  pub counted : library.next_record ≡ length library.records + 1
  pub below : AllByRecursion (λ (row : RecordRow). row.number < library.next_record) library.records
  pub short : text_bytes library.records ≤ 2524 * length library.records

-- the record under the next number with the text of this table
abbrev pub next_record : LibraryView → RawTable → RecordRow
next_record library table = record { number = library.next_record; text = record_text table }

-- the record of molecule n
unfoldable pub drilled_record : ℕ → ℕ → RecordRow
drilled_record start n = record { number = n; text = record_text (drilled_table (state_for start n)) }

-- the records of so many molecules, under the numbers from 1 on
abbrev pub drilled_records : ℕ → ℕ → List RecordRow
drilled_records start count = map (drilled_record start) (range_with_len 1 count)

-- the number is none of the first k multiples of 5
abbrev pub is_left : ℕ → ℕ → Bool
is_left k number = not ((number % 5 == 0) && nat_le number (5 * k))

-- the records without those under the first k multiples of 5
abbrev pub left_below : ℕ → List RecordRow → List RecordRow
left_below k records = filter (λ (row : RecordRow). is_left k row.number) records

-- under a number stand exactly these molecules
abbrev pub HoldsExactly : List (Numbered Molecule) → (ℕ → Molecule → Type 0) → Type 0
HoldsExactly rows Held = (n : ℕ) (mol : Molecule) → IsHeldIn rows n mol ↔ Held n mol
