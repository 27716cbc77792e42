-- Edits of a library, and what each changes.
--     Edit                         a load of a file, a replacement of a record, or a removal
--     AreChanges next edit changes     the changes that the edit makes, where this is the next
--                                      number
use Rattle.std.specs.Prelude.{◌≡◌, ℕ, ◌+◌, List, [], ◌∷◌, map}
use Rattle.mk_text.specs.Lines.{lines_of}
use Rattle.mk_outside.specs.declared.tables.Change.{Change}
use Rattle.mk_outside.specs.declared.tables.Change.TheVariants.{PutRecord, DropRecord}
use Rattle.mk_sdfile.specs.declared.raw_record.RawRecord.{RawRecord}
use Rattle.mk_sdfile.specs.Sdfile.{IsSdfile}

-- The records of a file are added; the one record of a file takes the place of the one of the
-- number; that one is taken out.
pub data Edit : Type 0 where
  Load : (text : List ℕ) → Edit
  Replace : (number : ℕ) (text : List ℕ) → Edit
  Remove : (number : ℕ) → Edit

-- the texts of records
abbrev pub texts_of : List RawRecord → List (List ℕ)
texts_of raws = map (λ (raw : RawRecord). raw.text) raws

-- the texts are put under the numbers from n on
abbrev pub puts_from : ℕ → List (List ℕ) → List Change
puts_from n [] = []
puts_from n (text ∷ texts) = PutRecord n text ∷ puts_from (n + 1) texts

-- the changes that the edit makes, where this is the next number
abbrev pub AreChanges : ℕ → Edit → List Change → Type 0
AreChanges next (Load text) changes =
    (raws : List RawRecord) × IsSdfile (lines_of text) raws × (changes ≡ puts_from next (texts_of raws))
AreChanges next (Replace number text) changes =
    (raw : RawRecord) × IsSdfile (lines_of text) (raw ∷ []) × (changes ≡ PutRecord number raw.text ∷ [])
AreChanges next (Remove number) changes = changes ≡ DropRecord number ∷ []
