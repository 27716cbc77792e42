-- The keys of a query: where it is found in the molecules that are held.
--     IsOccurrence query mol numbers    a valid code, and behind it a hit of its expansion in the
--                                       molecule
--     IsKey Held query key              the number of a held molecule, and behind it an occurrence
--                                       of the query there
--     Remains Held query place key      a key that isn't below the place
--     OccurrencesAreReadOneWay          a code, and the hit behind it, stand in an occurrence in
--                                       one way
--     NoKeyBeginsAnother                no key is a proper prefix of another
-- `Held n mol` says that the molecule is held under the number n.
use Rattle.std.specs.Prelude.{◌≡◌, ℕ, List, [], ◌∷◌, ◌++◌, Contains}
use Rattle.mk_text.specs.Rising.{IsFrom}
use Rattle.mk_model.specs.Codes.{IsCode}
use Rattle.mk_model.specs.Expansions.{IsExpansion}
use Rattle.mk_model.specs.Graphs.{GraphView}
use Rattle.mk_model.specs.Hits.{IsHit}
use Rattle.mk_model.specs.Logic.{IsValid}
use Rattle.mk_model.specs.Molecules.{Molecule}
use Rattle.mk_model.specs.Queries.{QueryView}

-- the numbers are those of a valid code and, behind them, those of a hit of its expansion in the
-- molecule
pub record IsOccurrence (query : QueryView) (mol : Molecule) (numbers : List ℕ) : Type 0 where
  pub code : List ℕ
  pub hit : List ℕ
  pub graph : GraphView
  pub valid : IsValid query code
  pub expanded : IsExpansion query code graph
  pub hits : IsHit graph mol hit
  pub whole : numbers ≡ code ++ hit

-- the number of a held molecule, and behind it an occurrence of the query in that molecule
pub record IsKey (Held : ℕ → Molecule → Type 0) (query : QueryView) (key : List ℕ) : Type 0 where
  pub number : ℕ
  pub mol : Molecule
  pub numbers : List ℕ
  pub held : Held number mol
  pub occurs : IsOccurrence query mol numbers
  pub whole : key ≡ number ∷ numbers

-- a key that isn't below the place
abbrev pub Remains : (ℕ → Molecule → Type 0) → QueryView → List ℕ → List ℕ → Type 0
Remains Held query place key = IsFrom (IsKey Held query) place key

-- ---- laws

-- the molecule is one of these, each under its number
abbrev pub IsAmong : List (ℕ × Molecule) → ℕ → Molecule → Type 0
IsAmong molecules n mol = Contains molecules (n, mol)

-- numbers that begin with a structural code are an occurrence of that code alone
abbrev pub OccurrencesAreReadOneWay : Type 0
OccurrencesAreReadOneWay =
    (query : QueryView) (mol : Molecule) (code behind : List ℕ) → IsCode query 0 code → (occurs : IsOccurrence query mol (code ++ behind))
    → (occurs.code ≡ code) × (occurs.hit ≡ behind)

-- no key is a proper prefix of another
abbrev pub NoKeyBeginsAnother : Type 0
NoKeyBeginsAnother =
    (molecules : List (ℕ × Molecule)) (query : QueryView) (key more : List ℕ) → IsKey (IsAmong molecules) query key
    → IsKey (IsAmong molecules) query (key ++ more) → more ≡ []
