-- The command `match QFILE MFILE`.
--     IsSearchOfFile wanted files name effect      what the molecules' file comes to, once its turn
--                                                  has come
--     IsMatch files query molecules effect         what the command comes to
--     IsTurnOfMatch files query molecules name     the turn of the file comes
-- What is made of the query's file stands in QueryFiles, what a file of one record has to be in
-- FirstRefusal of mk_library.
use Rattle.std.specs.Prelude.{◌≡◌, ℕ, List, [], length, nat_lt, Option}
use Rattle.mk_text.specs.Rising.{AreFirst}
use Rattle.mk_model.specs.Keys.{IsKey}
use Rattle.mk_model.specs.Molecules.{Molecule}
use Rattle.mk_model.specs.Queries.{QueryView}
use Rattle.mk_library.specs.FirstRefusal.{HoldsMolecule, IsFirstFileRefusal}
use Rattle.mk_found.specs.Effects.{Answers, Effect, Refuses}
use Rattle.mk_found.specs.Files.{Look}
use Rattle.mk_effects.specs.Hits.{IsHitsText, stop_of}
use Rattle.mk_found.specs.MoleculeFiles.{ComesByFile}
use Rattle.mk_found.specs.QueryFiles.{IsQueryHeld, IsQueryRefused}

-- the molecule is held under the number 1, and no other is held
abbrev pub IsRecord1 : Molecule → ℕ → Molecule → Type 0
IsRecord1 mol n other = (n ≡ 1) × (other ≡ mol)

-- the file holds a molecule, and the first keys of the query in it are listed
pub record ListsKeys (wanted : QueryView) (bytes : List ℕ) (effect : Effect) : Type 0 where
  pub mol : Molecule
  pub held : HoldsMolecule bytes mol
  pub keys : List (List ℕ)
  pub first : AreFirst 10000 (IsKey (IsRecord1 mol) wanted) keys
  pub text : List ℕ
  pub lines : IsHitsText wanted keys (stop_of (nat_lt (length keys) 10000) 0) text
  pub answered : effect ≡ Answers [] text

-- once the query is read: the molecules' file is refused, or the first keys in its molecule are
-- listed
abbrev pub IsSearchOfFile : QueryView → Option Look → List ℕ → Effect → Type 0
IsSearchOfFile wanted files name effect = ComesByFile files name IsFirstFileRefusal (ListsKeys wanted) effect

-- The molecules' file plays no part where the query is refused.
pub data IsMatch (files : Option Look) (query molecules : List ℕ) (effect : Effect) : Type 0 where
  QueryRefused : (line : List ℕ) → IsQueryRefused files query line → effect ≡ Refuses line → IsMatch files query molecules effect
  Searches : (wanted : QueryView) → IsQueryHeld files query wanted → IsSearchOfFile wanted files molecules effect → IsMatch files query molecules effect

-- the query's turn comes first, and that of the molecules where the query isn't refused
pub data IsTurnOfMatch (files : Option Look) (query molecules name : List ℕ) : Type 0 where
  TurnOfQuery : name ≡ query → IsTurnOfMatch files query molecules name
  TurnOfMolecules : (wanted : QueryView) → IsQueryHeld files query wanted → name ≡ molecules → IsTurnOfMatch files query molecules name
