-- What is made of a molecules' file.
--     IsFileLine said line                     the line with which it is refused
--     ComesByFile files name First Comes effect     what a command comes to by such a file, where
--                                                   First says what is said of a file that is
--                                                   refused, and Comes what becomes of the others
use Rattle.std.specs.Prelude.{◌≡◌, ℕ, List, Option, if◌then◌else◌}
use Rattle.mk_library.specs.declared.refusal.LoadRefusal.{LoadRefusal}
use Rattle.mk_library.specs.declared.refusal.LoadRefusal.TheVariants as refusal
use Rattle.mk_library.specs.Limits.{file_bytes}
use Rattle.mk_found.specs.Answers.{bad_line_text, check_text, full_text, long_molecules_text, records_text, v3000_text}
use Rattle.mk_found.specs.Effects.{Effect, Refuses}
use Rattle.mk_found.specs.Files.{IsLong, IsShort, Look}

-- The line with which the file is refused. A number that isn't held and want of memory say nothing
-- of a file.
abbrev pub IsFileLine : LoadRefusal → List ℕ → Type 0
IsFileLine refusal.NoRecord line = ⊥
IsFileLine refusal.FileLarge line = line ≡ long_molecules_text
IsFileLine (refusal.Layout k v3000) line = line ≡ (if v3000 then v3000_text k else bad_line_text k)
IsFileLine (refusal.NotOne count) line = line ≡ records_text count
IsFileLine (refusal.Meaning number check item) line = line ≡ check_text number check item
IsFileLine refusal.Full line = line ≡ full_text
IsFileLine refusal.Memory line = ⊥

-- The file is over its limit, or it is refused with the line of what is said of it, or the command
-- goes by its bytes.
pub data ComesByFile (files : Option Look) (name : List ℕ) (First : List ℕ → LoadRefusal → Type 0) (Comes : List ℕ → Effect → Type 0)
    (effect : Effect) : Type 0 where
  MoleculesTooLong : IsLong files file_bytes name → effect ≡ Refuses long_molecules_text
      → ComesByFile files name First Comes effect
  MoleculesRefused : (bytes : List ℕ) → IsShort files file_bytes name bytes → (said : LoadRefusal) → First bytes said
      → (line : List ℕ) → IsFileLine said line → effect ≡ Refuses line → ComesByFile files name First Comes effect
  GoesByMolecules : (bytes : List ℕ) → IsShort files file_bytes name bytes → Comes bytes effect
      → ComesByFile files name First Comes effect
