-- Records: rows of numbers and texts, and the molecule of each.
--     IsRecordText text      the text is that of one record, which passes the checks of molecules
--     IsMoleculeOf text mol  the molecule is that record's, filled
--     is_held n records      some record has the number
--     text_under n records   the text under the number
--     IsMoleculeAt records n mol     the molecule is that of the record under the number
--     AreHeld records rows   beside each record stands its molecule, under its number
--     AreRising records      each number is below all later ones
use Rattle.std.specs.Prelude.{◌≡◌, ℕ, ◌+◌, ◌<◌, nat_eq, Bool, if◌then◌else◌, List, [], ◌∷◌, length, map, Option, Some, None, ⊤}
use Rattle.std.specs.List.{AllByRecursion, list_any}
use Rattle.mk_text.specs.Lines.{lines_of}
use Rattle.mk_outside.specs.declared.tables.RecordRow.{RecordRow}
use Rattle.mk_sdfile.specs.declared.raw_record.RawRecord.{RawRecord}
use Rattle.mk_sdfile.specs.Sdfile.{IsSdfile}
use Rattle.mk_model.specs.Molecules.{IsMolecule, Molecule}
use Rattle.mk_mol.specs.Filled.{IsFilled}
use Rattle.mk_mol.specs.FirstFault.{MeetsAllChecks}
use Rattle.mk_rows.specs.declared.by_number.Numbered.{Numbered}

-- the text is an SDfile of one record, is that record's own text, and its table passes the checks
-- of molecules
pub record IsRecordText (text : List ℕ) : Type 0 where
  pub raw : RawRecord
  pub read : IsSdfile (lines_of text) (raw ∷ [])
  pub own : raw.text ≡ text
  pub passes : MeetsAllChecks raw.table

-- the molecule is the filled molecule of the text's one record
pub record IsMoleculeOf (text : List ℕ) (mol : Molecule) : Type 0 where
  pub is : IsRecordText text
  pub filled : IsFilled is.raw.table mol
  pub kept : IsMolecule mol

-- some record has the number
abbrev pub is_held : ℕ → List RecordRow → Bool
is_held n records = list_any (λ row. nat_eq row.number n) records

-- the text under the number, if it is held
abbrev pub text_under : ℕ → List RecordRow → Option (List ℕ)
text_under n [] = None
text_under n (row ∷ records) = if nat_eq row.number n then Some row.text else text_under n records

-- the molecule is the filled molecule of the text of the record under the number
pub record IsMoleculeAt (records : List RecordRow) (n : ℕ) (mol : Molecule) : Type 0 where
  pub text : List ℕ
  pub held : text_under n records ≡ Some text
  pub is : IsMoleculeOf text mol

-- beside each record stands its molecule, under its number
abbrev pub AreHeld : List RecordRow → List (Numbered Molecule) → Type 0
AreHeld [] [] = ⊤
AreHeld (record_row ∷ records) (row ∷ rows) = (record_row.number ≡ row.number) × IsMoleculeOf record_row.text row.item × AreHeld records rows
AreHeld [] (row ∷ rows) = ⊥
AreHeld (record_row ∷ records) [] = ⊥

-- each number is below all later ones
abbrev pub AreRising : List RecordRow → Type 0
AreRising [] = ⊤
AreRising (row ∷ records) = AllByRecursion (λ (later : RecordRow). row.number < later.number) records × AreRising records

-- how many bytes the texts have together
abbrev pub text_bytes : List RecordRow → ℕ
text_bytes [] = 0
text_bytes (row ∷ records) = length row.text + text_bytes records

-- ---- for the code

-- a text under its number, as a record row
abbrev pub record_of : Numbered (List ℕ) → RecordRow
record_of row = record { number = row.number; text = row.item }

-- texts under their numbers, as record rows
abbrev pub records_of : List (Numbered (List ℕ)) → List RecordRow
records_of rows = map record_of rows
