-- What is known of a molecule, from call to call.
--     Stays mol old new        what is known is so in the molecule, and the query is the same
use Rattle.std.proofs.Common.{◌≡◌, ℕ, ◌+◌, ◌≤◌, ◌<◌}
use Rattle.mk_model.specs.Molecules.{Molecule}
use Rattle.mk_model.specs.Queries.{QueryView}
use Rattle.mk_open_codes.specs.Alone.{HoldsNoneAlone}
use Rattle.mk_fronts.specs.Fronts.{FrontsView, IsKnownOf}

-- what is known is so in the molecule, and the query is the same
pub record Stays (mol : Molecule) (query : QueryView) (new : FrontsView) : Type 0 where
  pub known : IsKnownOf mol new
  pub same : new.query ≡ query

-- the molecule holds none of the first n numbers alone at the slot
abbrev pub HoldsNoneOf : QueryView → Molecule → ℕ → ℕ → Type 0
HoldsNoneOf query mol s n = (k : ℕ) → 1 ≤ k → k < n + 1 → HoldsNoneAlone query mol s k
