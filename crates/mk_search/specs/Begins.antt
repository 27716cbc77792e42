-- How often a search begins the matcher: once for each of a rising list of pairs, each the number of
-- a record and a code, one behind the other.
--     BeginsWithOneOf pairs key    the key begins with one of the pairs
--     IsUpToLast keys xs           the list isn't above all of the keys
--     IsLeftBy place xs            the list isn't below the place, or the place begins with it
--     HasCoveredNeed query held code     a valid code, and the screen covers the need of its
--                                  expansion
--     IsPairFrom Held query place xs     a held number and a valid code, which the place leaves, and
--                                  the screen of the molecule covers the need of the expansion
--     BeginsOfPage Held query place page old new     the count goes up by one for each of such
--                                  pairs, none above the last key of a page that hasn't ended, and
--                                  each key of the page begins with one
--     BeginsOfPaced Held query place paced old new   the same of a page within a budget: none above
--                                  the next place, where it paused
use Rattle.std.specs.Prelude.{◌≡◌, ◌+◌, ◌⊎◌, ℕ, false, List, ◌∷◌, ◌++◌, length}
use Rattle.mk_text.specs.Rising.{Each, Holds, IsBelow, Rises}
use Rattle.mk_model.specs.Expansions.{IsExpansion}
use Rattle.mk_model.specs.Graphs.{GraphView}
use Rattle.mk_model.specs.Logic.{IsValid}
use Rattle.mk_model.specs.Molecules.{Molecule}
use Rattle.mk_model.specs.Queries.{QueryView}
use Rattle.mk_model.specs.declared.screen.Screen.{Screen}
use Rattle.mk_model.specs.Screens.{Covers, IsNeedOf, IsScreenOf}
use Rattle.mk_search.specs.declared.paced.Paced.{Paced}
use Rattle.mk_search.specs.declared.paced.Stop.{Stop}
use Rattle.mk_search.specs.declared.paced.Stop.TheVariants.{Full, Ended, Paused}
use Rattle.mk_search.specs.declared.pages.Page.{Page}

-- ---- pairs

-- the key begins with one of the pairs
pub record BeginsWithOneOf (pairs : List (List ℕ)) (key : List ℕ) : Type 0 where
  pub pair : List ℕ
  pub back : List ℕ
  pub is : Holds pairs pair
  pub whole : key ≡ pair ++ back

-- the list isn't above all of the keys
abbrev pub IsUpToLast : List (List ℕ) → List ℕ → Type 0
IsUpToLast keys xs = Each (λ key. IsBelow key xs) keys → ⊥

-- the list isn't below the place, or the place begins with it
abbrev pub IsLeftBy : List ℕ → List ℕ → Type 0
IsLeftBy place xs = (IsBelow xs place → ⊥) ⊎ ((behind : List ℕ) × (place ≡ xs ++ behind))

-- the code is valid, and the screen covers the need of its expansion
pub record HasCoveredNeed (query : QueryView) (held : Screen) (code : List ℕ) : Type 0 where
  pub graph : GraphView
  pub need : Screen
  pub valid : IsValid query code
  pub expanded : IsExpansion query code graph
  pub needs : IsNeedOf graph need
  pub covers : Covers held need

-- the list is the number of a held molecule and, behind it, a valid code; the molecule's screen
-- covers the need of the code's expansion, and the list isn't below the place or begins it
pub record IsPairFrom (Held : ℕ → Molecule → Type 0) (query : QueryView) (place xs : List ℕ) : Type 0 where
  pub number : ℕ
  pub mol : Molecule
  pub screen : Screen
  pub code : List ℕ
  pub held : Held number mol
  pub shows : IsScreenOf mol screen
  pub covered : HasCoveredNeed query screen code
  pub left : IsLeftBy place xs
  pub whole : xs ≡ number ∷ code

-- ---- a page

-- The count goes up by one for each of a rising list of pairs. None is above the last key, where the
-- page hasn't ended; and each key begins with one of them.
pub record BeginsOfPage (Held : ℕ → Molecule → Type 0) (query : QueryView) (place : List ℕ) (page : Page) (old new : ℕ) : Type 0 where
  pub pairs : List (List ℕ)
  pub rises : Rises pairs
  pub each : Each (IsPairFrom Held query place) pairs
  pub ticks : new ≡ old + length pairs
  pub up_to : page.ended ≡ false → Each (IsUpToLast page.hits) pairs
  pub fronts : Each (BeginsWithOneOf pairs) page.hits

-- ---- a page within a budget

-- up to where matchers are begun: not above the last key, where as many were given as asked for; and
-- not above the next place, where the budget was spent
abbrev pub IsBegunUpTo : Stop → List (List ℕ) → List ℕ → List ℕ → Type 0
IsBegunUpTo Full hits next pair = IsUpToLast hits pair
IsBegunUpTo Ended hits next pair = Unit {0}
IsBegunUpTo Paused hits next pair = IsBelow next pair → ⊥

-- The count goes up by one for each of a rising list of pairs, which are begun up to where the page
-- stopped; and each key begins with one of them.
pub record BeginsOfPaced (Held : ℕ → Molecule → Type 0) (query : QueryView) (place : List ℕ) (paced : Paced) (old new : ℕ) : Type 0 where
  pub pairs : List (List ℕ)
  pub rises : Rises pairs
  pub each : Each (IsPairFrom Held query place) pairs
  pub ticks : new ≡ old + length pairs
  pub up_to : Each (IsBegunUpTo paced.stop paced.hits paced.place) pairs
  pub fronts : Each (BeginsWithOneOf pairs) paced.hits
