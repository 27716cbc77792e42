-- The commands `load FILE` and `replace N FILE`.
--     IsEdited files records next name edit answer effect     what the file of an edit comes to,
--                                                             once its turn has come
--     IsLoad files records next name effect                   what `load` comes to
--     IsReplace files records next n name effect              what `replace n` comes to
--     IsTurnOfReplace records n file name                     the turn of the file comes
-- Each is said of the records and their next number.
use Rattle.std.specs.Prelude.{◌≡◌, ℕ, true, false, List, [], ◌∷◌, ◌++◌, length, Option, codes, decimal}
use Rattle.mk_outside.specs.declared.tables.Change.{Change}
use Rattle.mk_outside.specs.declared.tables.RecordRow.{RecordRow}
use Rattle.mk_library.specs.Records.{is_held}
use Rattle.mk_library.specs.Edits.{Edit, Load, Replace}
use Rattle.mk_library.specs.FirstRefusal.{IsAllowedEdit, IsFirstRefusal}
use Rattle.mk_found.specs.Effects.{Answers, Effect, Refuses}
use Rattle.mk_found.specs.Files.{Look}
use Rattle.mk_found.specs.MoleculeFiles.{ComesByFile}
use Rattle.mk_edits.specs.Records.{no_record_text}
use Rattle.mk_found.specs.Lines.{numbered_line}

-- ---- the file of an edit

-- the edit is made, and the answer is one of its changes
pub record IsEditMade (records : List RecordRow) (next : ℕ) (edit : Edit) (answer : List Change → List ℕ)
    (effect : Effect) : Type 0 where
  pub changes : List Change
  pub allowed : IsAllowedEdit records next edit changes
  pub answered : effect ≡ Answers changes (answer changes)

-- the file is refused at the first demand that the edit by it doesn't meet, or that edit is made
abbrev pub IsEdited : Option Look → List RecordRow → ℕ → List ℕ → (List ℕ → Edit) → (List Change → List ℕ) → Effect → Type 0
IsEdited files records next name edit answer effect =
    ComesByFile files name (λ bytes. IsFirstRefusal records next (edit bytes))
    (λ bytes. IsEditMade records next (edit bytes) answer) effect

-- ---- load FILE

-- how many records are added, and the number of the first of them
abbrev pub loaded_text : ℕ → List Change → List ℕ
loaded_text next [] = codes "loaded 0\n"
loaded_text next (change ∷ changes) = codes "loaded " ++ (decimal (length (change ∷ changes)) ++ (codes " first " ++ (decimal next ++ codes "\n")))

-- the records of the file are put under the numbers from the next one on
abbrev pub IsLoad : Option Look → List RecordRow → ℕ → List ℕ → Effect → Type 0
IsLoad files records next name effect = IsEdited files records next name Load (loaded_text next) effect

-- ---- replace N FILE

-- the answer of `replace`
abbrev pub replaced_text : ℕ → List ℕ
replaced_text n = numbered_line (codes "replaced ") n

-- The one record of the file takes the place of the record n. The file plays no part where there is
-- none.
pub data IsReplace (files : Option Look) (records : List RecordRow) (next n : ℕ) (name : List ℕ) (effect : Effect) : Type 0 where
  NoRecordReplaced : is_held n records ≡ false → effect ≡ Refuses (no_record_text n)
      → IsReplace files records next n name effect
  ReplacesHeld : is_held n records ≡ true → IsEdited files records next name (Replace n) (λ changes. replaced_text n) effect
      → IsReplace files records next n name effect

-- the turn of the file comes where the record is held
pub record IsTurnOfReplace (records : List RecordRow) (n : ℕ) (file name : List ℕ) : Type 0 where
  pub held : is_held n records ≡ true
  pub is : name ≡ file
