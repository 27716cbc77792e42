-- What the steps of an edit answer. This file serves code alone.
--     IsFileAnswer text answer         the records of a molecules' file, or why it is refused
--     AreMolecules raws mols           the molecules are those of the records
--     ArePreparedOf raws answer        the texts and molecules of the records, or the first that is
--                                      no molecule
--     IsOnlyAnswer raws answer         the text and the molecule of the only record, or why there is
--                                      none
--     IsTextAnswer text answer         the molecule of a stored text, or none
--     GoesBehind next records row      the row may be put behind these, where this is the next
--                                      number
--     LoadKeeps records next texts     the limits are kept where these texts are added
use Rattle.std.specs.Prelude.{◌≡◌, ◌≢◌, ◌↔◌, ℕ, ◌+◌, ◌<◌, ◌≤◌, List, [], ◌∷◌, length, IsTrue, Option, Some, None, Result, Ok, Err, ⊤}
use Rattle.std.specs.List.{AllByRecursion}
use Rattle.mk_text.specs.Lines.{lines_of}
use Rattle.mk_model.specs.Molecules.{IsMolecule, Molecule}
use Rattle.mk_outside.specs.declared.tables.RecordRow.{RecordRow}
use Rattle.mk_sdfile.specs.declared.raw_record.RawRecord.{RawRecord}
use Rattle.mk_sdfile.specs.Sdfile.{IsBadSdfileLine, IsSdfile, IsNamedV3000}
use Rattle.mk_mol.specs.Filled.{IsFilled}
use Rattle.mk_mol.specs.FirstFault.{MeetsAllChecks}
use Rattle.mk_library.specs.declared.molecules.OneRecord.{OneRecord}
use Rattle.mk_library.specs.declared.molecules.Prepared.{Prepared}
use Rattle.mk_library.specs.declared.refusal.LoadRefusal.{LoadRefusal}
use Rattle.mk_library.specs.declared.refusal.LoadRefusal.TheVariants as refusal
use Rattle.mk_library.specs.Records.{IsMoleculeOf, IsRecordText, text_bytes}
use Rattle.mk_library.specs.Limits.{file_bytes, most_bytes, most_number, most_records}
use Rattle.mk_library.specs.Edits.{texts_of}
use Rattle.mk_library.specs.FirstRefusal.{IsFirstFailing}

-- why a molecules' file is refused before its records are looked at
abbrev pub IsFileRefused : List ℕ → LoadRefusal → Type 0
IsFileRefused text refusal.FileLarge = file_bytes < length text
IsFileRefused text (refusal.Layout line v3000) =
    (length text ≤ file_bytes) × IsBadSdfileLine (lines_of text) line × (IsTrue v3000 ↔ IsNamedV3000 (lines_of text) line)
IsFileRefused text refusal.Memory = ⊤
IsFileRefused text refusal.NoRecord = ⊥
IsFileRefused text (refusal.NotOne count) = ⊥
IsFileRefused text (refusal.Meaning number check item) = ⊥
IsFileRefused text refusal.Full = ⊥

-- the records of a molecules' file, or why it is refused
abbrev pub IsFileAnswer : List ℕ → Result (List RawRecord) LoadRefusal → Type 0
IsFileAnswer text (Ok raws) = (length text ≤ file_bytes) × IsSdfile (lines_of text) raws
IsFileAnswer text (Err said) = IsFileRefused text said

-- the molecules are the filled molecules of the records, in order
abbrev pub AreMolecules : List RawRecord → List Molecule → Type 0
AreMolecules [] [] = ⊤
AreMolecules [] (mol ∷ mols) = ⊥
AreMolecules (raw ∷ raws) [] = ⊥
AreMolecules (raw ∷ raws) (mol ∷ mols) = MeetsAllChecks raw.table × IsFilled raw.table mol × IsMolecule mol × AreMolecules raws mols

-- the texts and the molecules of the records, or the first that is no molecule
abbrev pub ArePreparedOf : List RawRecord → Result Prepared LoadRefusal → Type 0
ArePreparedOf raws (Ok prepared) = (prepared.texts.items ≡ texts_of raws) × AreMolecules raws prepared.mols.items
ArePreparedOf raws (Err (refusal.Meaning number check item)) = IsFirstFailing raws number check item
ArePreparedOf raws (Err refusal.Memory) = ⊤
ArePreparedOf raws (Err refusal.NoRecord) = ⊥
ArePreparedOf raws (Err refusal.FileLarge) = ⊥
ArePreparedOf raws (Err (refusal.Layout line v3000)) = ⊥
ArePreparedOf raws (Err (refusal.NotOne count)) = ⊥
ArePreparedOf raws (Err refusal.Full) = ⊥

-- the record is the only one, and these are its text and its molecule
pub record IsOnly (raws : List RawRecord) (one : OneRecord) : Type 0 where
  pub raw : RawRecord
  pub alone : raws ≡ raw ∷ []
  pub text : one.text ≡ raw.text
  pub passes : MeetsAllChecks raw.table
  pub filled : IsFilled raw.table one.mol
  pub kept : IsMolecule one.mol

-- the text and the molecule of the only record, or the check that it fails, or how many there are
abbrev pub IsOnlyAnswer : List RawRecord → Result OneRecord LoadRefusal → Type 0
IsOnlyAnswer raws (Ok one) = IsOnly raws one
IsOnlyAnswer raws (Err (refusal.NotOne count)) = (count ≡ length raws) × (length raws ≢ 1)
IsOnlyAnswer raws (Err (refusal.Meaning number check item)) = (length raws ≡ 1) × IsFirstFailing raws number check item
IsOnlyAnswer raws (Err refusal.Memory) = ⊤
IsOnlyAnswer raws (Err refusal.NoRecord) = ⊥
IsOnlyAnswer raws (Err refusal.FileLarge) = ⊥
IsOnlyAnswer raws (Err (refusal.Layout line v3000)) = ⊥
IsOnlyAnswer raws (Err refusal.Full) = ⊥

-- how many bytes texts have together
abbrev pub bytes_of : List (List ℕ) → ℕ
bytes_of [] = 0
bytes_of (text ∷ texts) = length text + bytes_of texts

-- the limits are kept where these texts are added under the numbers from the next one on
pub record LoadKeeps (records : List RecordRow) (next : ℕ) (texts : List (List ℕ)) : Type 0 where
  pub few : length records + length texts ≤ most_records
  pub short : text_bytes records + bytes_of texts ≤ most_bytes
  pub numbers : (i : ℕ) → i < length texts → next + i ≤ most_number

-- ---- stored texts

-- the molecule of a stored text, or none where the text isn't that of one record which is a
-- molecule
abbrev pub IsTextAnswer : List ℕ → Option Molecule → Type 0
IsTextAnswer text (Some mol) = IsMoleculeOf text mol
IsTextAnswer text None = ¬ (IsRecordText text)

-- The row may be put behind the records: its number is one that can be kept, above theirs and below
-- the next one, and with it they are few and have few bytes of text.
pub record GoesBehind (next : ℕ) (records : List RecordRow) (row : RecordRow) : Type 0 where
  pub most : row.number ≤ most_number
  pub above : AllByRecursion (λ (earlier : RecordRow). earlier.number < row.number) records
  pub below_next : row.number < next
  pub few : length records < most_records
  pub bytes : text_bytes records + length row.text ≤ most_bytes
