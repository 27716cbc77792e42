-- Fronts of a query's codes in one molecule.
--     FrontsView                       what is seen of a `Fronts`
--     IsKnownOf mol fronts             what is known is so in the molecule
--     KnowsNothing fronts              nothing is known of any molecule, so it is so in each
--     BeginsWithNone query mol code n  the code begins with n numbers with which no occurrence begins
--     IsReady query need               for the code: what a `Fronts` keeps beside
use Rattle.std.specs.Prelude.{◌≤◌, ℕ, List, Option, IfSome, length, take, All}
use Rattle.mk_model.specs.declared.screen.Screen.{Screen}
use Rattle.mk_model.specs.Molecules.{Molecule}
use Rattle.mk_model.specs.Queries.{QueryView}
use Rattle.mk_counts.specs.declared.asked.Counts.{Counts}
use Rattle.mk_counts.specs.Asked.{AreThere}
use Rattle.mk_open_codes.specs.Fronts.{HoldsNone, IsNeedOfAll}
use Rattle.mk_fronts.specs.declared.told.Told.{Told}
use Rattle.mk_fronts.specs.Told.{IsSo}

-- what is seen of a `Fronts`: its query, and what it knows of a molecule, which is how many atoms it
-- has of each element and what was told of choices alone
pub record FrontsView : Type 0 where
  pub query : QueryView
  pub there : Option Counts
  pub told : List Told

-- what is known is so in the molecule
pub record IsKnownOf (mol : Molecule) (fronts : FrontsView) : Type 0 where
  pub there : IfSome fronts.there (AreThere mol)
  pub told : All (IsSo fronts.query mol) fronts.told

-- nothing is known that isn't so in each molecule
abbrev pub KnowsNothing : FrontsView → Type 0
KnowsNothing fronts = (mol : Molecule) → IsKnownOf mol fronts

-- the code has so many numbers, or more, and with the first so many no occurrence of the query in the
-- molecule begins
pub record BeginsWithNone (query : QueryView) (mol : Molecule) (code : List ℕ) (n : ℕ) : Type 0 where
  pub within : n ≤ length code
  pub none : HoldsNone query mol (take n code)

-- ---- for the code

-- the need is one of all codes
pub record IsReady (query : QueryView) (need : Screen) : Type 0 where
  pub of_all : IsNeedOfAll query need
