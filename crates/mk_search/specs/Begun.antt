-- For which pairs of a record and a code a search begins a matcher.
--     IsCovered query mol code        a valid code, and the molecule's screen covers the need of
--                                     its expansion
--     IsPairOf rows query pair        a held record's number, and behind it a code whose need its
--                                     molecule covers
--     IsPairLeft rows query place pair      such a pair, and it isn't below the place, or begins it
--     Begun P from to before after    one begin for each of some rising lists that have P, from one
--                                     list up to another
use Rattle.std.specs.Prelude.{◌≡◌, ◌+◌, ℕ, List, ◌∷◌, length}
use Rattle.mk_text.specs.Rising.{Holds, IsBelow, Rises}
use Rattle.mk_model.specs.Molecules.{Molecule}
use Rattle.mk_model.specs.Queries.{QueryView}
use Rattle.mk_model.specs.Screens.{IsScreenOf}
use Rattle.mk_model.specs.declared.screen.Screen.{Screen}
use Rattle.mk_rows.specs.declared.by_number.Numbered.{Numbered}
use Rattle.mk_search.specs.Begins.{HasCoveredNeed, IsLeftBy}
use Rattle.mk_search.specs.Pages.{IsHeldIn}

-- the code is valid, and the molecule's screen covers the need of its expansion
pub record IsCovered (query : QueryView) (mol : Molecule) (code : List ℕ) : Type 0 where
  pub screen : Screen
  pub shows : IsScreenOf mol screen
  pub covered : HasCoveredNeed query screen code

-- the number of a record that is held, and behind it a code whose need its molecule covers
pub record IsPairOf (rows : List (Numbered Molecule)) (query : QueryView) (pair : List ℕ) : Type 0 where
  pub number : ℕ
  pub mol : Molecule
  pub code : List ℕ
  pub held : IsHeldIn rows number mol
  pub covered : IsCovered query mol code
  pub is : pair ≡ number ∷ code

-- such a pair, that isn't below the place, or begins it
pub record IsPairLeft (rows : List (Numbered Molecule)) (query : QueryView) (place pair : List ℕ) : Type 0 where
  pub of : IsPairOf rows query pair
  pub from : IsLeftBy place pair

-- one begin for each of some rising lists that have P, from one list up to another
pub record Begun (P : List ℕ → Type 0) (from to : List ℕ) (before after : ℕ) : Type 0 where
  pub begun : List (List ℕ)
  pub rise : Rises begun
  pub each : (xs : List ℕ) → Holds begun xs → P xs
  pub from_is : (xs : List ℕ) → Holds begun xs → IsBelow xs from → ⊥
  pub to_is : (xs : List ℕ) → Holds begun xs → IsBelow xs to
  pub up : IsBelow to from → ⊥
  pub ticked : after ≡ before + length begun
