-- The bonds of the next atom of a graph to earlier ones. This file serves the code alone.
--     IsAnchor graph first anchor        an earlier neighbour of the next atom lies on the anchor
--     HasNoAnchor graph first            the next atom has no earlier neighbour
--     IsMetAt graph mol first a number   the bond of this number is met by atom a, or asks for
--                                        nothing
use Rattle.std.specs.Prelude.{◌≡◌, ◌≢◌, ◌+◌, ◌-◌, ℕ, List, Some, length, slice_get, All, Contains}
use Rattle.mk_model.specs.declared.graph.GraphBond.{GraphBond}
use Rattle.mk_model.specs.Molecules.{Molecule}
use Rattle.mk_model.specs.Graphs.{GraphView}
use Rattle.mk_model.specs.Fitting.{LiesOn}
use Rattle.mk_model.specs.Hits.{image}

-- the atom on which an earlier neighbour of the next atom of the graph lies
pub record IsAnchor (graph : GraphView) (first : List ℕ) (anchor : ℕ) : Type 0 where
  pub bond : GraphBond
  pub drawn : Contains graph.bonds bond
  pub next : bond.second ≡ length first + 1
  pub is : anchor ≡ image first bond.first

-- the next atom of the graph has no earlier neighbour
abbrev pub HasNoAnchor : GraphView → List ℕ → Type 0
HasNoAnchor graph first = All (λ bond. bond.second ≢ length first + 1) graph.bonds

-- the bond of this number is met by atom a, or isn't one between the next atom and an earlier one
abbrev pub IsMetAt : GraphView → Molecule → List ℕ → ℕ → ℕ → Type 0
IsMetAt graph mol first a number =
    (bond : GraphBond) → slice_get graph.bonds (number - 1) ≡ Some bond → bond.second ≡ length first + 1 → LiesOn mol bond (image first bond.first) a

-- the bond of this number isn't one between the next atom and an earlier one
abbrev pub IsElsewhere : GraphView → List ℕ → ℕ → Type 0
IsElsewhere graph first number = (bond : GraphBond) → slice_get graph.bonds (number - 1) ≡ Some bond → bond.second ≢ length first + 1
