-- Stored record rows, and the first that doesn't read.
--     Reads next before row        the row reads behind these rows, where this is the next number
--     HasPlace next before row    its number and size are right there
--     AllRead next rows            each row reads behind those before it
--     IsFirstBad next rows n       the first row that doesn't read has this number
use Rattle.std.specs.Prelude.{◌≡◌, ℕ, ◌+◌, ◌<◌, ◌≤◌, List, length, take, Some, slice_get, Result, Ok, Err, ⊤}
use Rattle.std.specs.List.{AllByRecursion}
use Rattle.mk_outside.specs.declared.tables.RecordRow.{RecordRow}
use Rattle.mk_library.specs.declared.refusal.RestoreFault.{RestoreFault}
use Rattle.mk_library.specs.declared.refusal.RestoreFault.TheVariants.{Bad, Memory}
use Rattle.mk_library.specs.Records.{IsRecordText, text_bytes}
use Rattle.mk_library.specs.Limits.{file_bytes, most_bytes, most_number, most_records}

-- The number is one that a record may have, above those before it and below the next one; there are
-- few rows before it and few bytes of text up to it, and its text is short. A file's last line may
-- gain an LF, so a text may have one byte more than a file.
pub record HasPlace (next : ℕ) (before : List RecordRow) (row : RecordRow) : Type 0 where
  pub least : 1 ≤ row.number
  pub most : row.number ≤ most_number
  pub above : AllByRecursion (λ (earlier : RecordRow). earlier.number < row.number) before
  pub below_next : row.number < next
  pub few : length before < most_records
  pub bytes : text_bytes before + length row.text ≤ most_bytes
  pub short : length row.text ≤ file_bytes + 1

-- the row may stand behind those before it, and its text is that of one record which is a molecule
pub record Reads (next : ℕ) (before : List RecordRow) (row : RecordRow) : Type 0 where
  pub place : HasPlace next before row
  pub text : IsRecordText row.text

-- each row reads behind those before it
abbrev pub AllRead : ℕ → List RecordRow → Type 0
AllRead next rows = (place : ℕ) (row : RecordRow) → slice_get rows place ≡ Some row → Reads next (take place rows) row

-- each of the first so many rows reads behind those before it
abbrev pub ReadBefore : ℕ → List RecordRow → ℕ → Type 0
ReadBefore next rows count = (place : ℕ) (row : RecordRow) → place < count → slice_get rows place ≡ Some row → Reads next (take place rows) row

-- the rows before one read, that one doesn't, and this is its number
pub record IsFirstBad (next : ℕ) (rows : List RecordRow) (number : ℕ) : Type 0 where
  pub place : ℕ
  pub row : RecordRow
  pub there : slice_get rows place ≡ Some row
  pub numbered : row.number ≡ number
  pub before : ReadBefore next rows place
  pub fails : ¬ (Reads next (take place rows) row)

-- where a row is named, P holds of its number; want of memory is free
abbrev pub IfBad : {T : Type 0} → Result T RestoreFault → (ℕ → Type 0) → Type 0
IfBad (Ok value) P = ⊤
IfBad (Err (Bad number)) P = P number
IfBad (Err Memory) P = ⊤
