-- How often making a table begins the matcher: once for each of a rising list of pairs, each the
-- number of a record and a code, one behind the other.
--     IsPairToLeast Held query xs       a held number and a valid code; the screen of the molecule
--                                       covers the need of the expansion, and the code isn't above
--                                       the least that has a hit there
--     BeginsOfTable Held query old new  the count goes up by one for each of such pairs, and the
--                                       record and code of each row are among them
use Rattle.std.specs.Prelude.{◌≡◌, ◌+◌, ℕ, List, ◌∷◌, length}
use Rattle.mk_text.specs.Rising.{Each, Holds, IsBelow, Rises}
use Rattle.mk_model.specs.Molecules.{Molecule}
use Rattle.mk_model.specs.Queries.{QueryView}
use Rattle.mk_model.specs.declared.screen.Screen.{Screen}
use Rattle.mk_model.specs.Screens.{IsScreenOf}
use Rattle.mk_search.specs.Begins.{HasCoveredNeed}
use Rattle.mk_rtable.specs.Table.{IsLeastCode}

-- The list is the number of a held molecule and, behind it, a valid code. The molecule's screen
-- covers the need of the code's expansion; and where the molecule has a hit, the code isn't above
-- the least that has one.
pub record IsPairToLeast (Held : ℕ → Molecule → Type 0) (query : QueryView) (xs : List ℕ) : Type 0 where
  pub number : ℕ
  pub mol : Molecule
  pub screen : Screen
  pub code : List ℕ
  pub held : Held number mol
  pub shows : IsScreenOf mol screen
  pub covered : HasCoveredNeed query screen code
  pub up_to : (least : List ℕ) → IsLeastCode query mol least → IsBelow least code → ⊥
  pub whole : xs ≡ number ∷ code

-- The count goes up by one for each of a rising list of such pairs. Where a held molecule has a hit,
-- the pair of its number and the least code that has one is among them.
pub record BeginsOfTable (Held : ℕ → Molecule → Type 0) (query : QueryView) (old new : ℕ) : Type 0 where
  pub pairs : List (List ℕ)
  pub rises : Rises pairs
  pub each : Each (IsPairToLeast Held query) pairs
  pub ticks : new ≡ old + length pairs
  pub rows : (n : ℕ) (mol : Molecule) (code : List ℕ) → Held n mol → IsLeastCode query mol code → Holds pairs (n ∷ code)
