-- Ring bonds: those whose ends are joined by a path of other bonds.
--     Step                              over a bond, to an atom
--     IsWay bonds without x steps y     the steps lead from x to y, none of them over the bond
--                                       `without`
--     IsRingBond bonds b                the ends of bond b are joined by a way that doesn't use it
use Rattle.std.specs.Prelude.{◌≡◌, ◌≢◌, ℕ, List, [], ◌∷◌, Some, slice_get}
use Rattle.mk_model.specs.declared.edge.Edge.{Edge}
use Rattle.mk_model.specs.Edges.{Joins}

-- a step of a way: over the bond at this place, to this atom
pub record Step : Type 0 where
  pub bond : ℕ
  pub to : ℕ

-- The steps lead from x to y, and none of them goes over the bond `without`.
-- A way may come back to an atom; left out what lies between, it is a path.
abbrev pub IsWay : List Edge → ℕ → ℕ → List Step → ℕ → Type 0
IsWay bonds without x [] y = x ≡ y
IsWay bonds without x (step ∷ steps) y =
    Joins bonds step.bond x step.to × (step.bond ≢ without) × IsWay bonds without step.to steps y

-- the ends of the bond at place b are joined by a way that doesn't use it
pub record IsRingBond (bonds : List Edge) (b : ℕ) : Type 0 where
  pub edge : Edge
  pub at : slice_get bonds b ≡ Some edge
  pub way : List Step
  pub around : IsWay bonds b edge.first way edge.second
