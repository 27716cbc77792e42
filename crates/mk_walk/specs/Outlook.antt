-- What a look ahead knows of the hits that begin with the first atoms. This file serves the code
-- alone.
--     Agrees graph mol first order chosen hit         the hit begins with the first atoms, and lies
--                                                     as chosen for the first of an order
--     IsPut first order chosen y a                    atom y of the graph has its place on a
--     IsBeside graph mol first order chosen x a       in each hit that agrees, atom x lies beside a
--     LiesNever graph mol first order chosen x a      in no hit that agrees, atom x lies on a
--     AreLater graph first order                      the order has atoms behind the first alone
--     IsNoHitBehind graph mol first                   no hit begins with the first atoms
use Rattle.std.specs.Prelude.{◌≡◌, ◌≢◌, ◌<◌, ◌≤◌, ◌-◌, ◌++◌, ◌⊎◌, ℕ, true, List, Some, length, slice_get, slice_index, All}
use Rattle.mk_model.specs.declared.graph.GraphBond.{GraphBond}
use Rattle.mk_model.specs.Edges.{touches}
use Rattle.mk_model.specs.Molecules.{Molecule}
use Rattle.mk_model.specs.Graphs.{GraphView, graph_edge}
use Rattle.mk_model.specs.Hits.{image, IsHit}
use Rattle.mk_walk.specs.Candidates.{AreBonded}

-- the hit begins with the first atoms, and the first atoms of the order lie on those that are
-- chosen for them
pub record Agrees (graph : GraphView) (mol : Molecule) (first order chosen hit : List ℕ) : Type 0 where
  pub is : IsHit graph mol hit
  pub begins : (j : ℕ) → j < length first → slice_index hit j ≡ slice_index first j
  pub sees : (j : ℕ) → j < length chosen → image hit (slice_index order j) ≡ slice_index chosen j

-- a is the number at a place of the list
pub record StandsIn (numbers : List ℕ) (a : ℕ) : Type 0 where
  pub place : ℕ
  pub within : place < length numbers
  pub is : slice_index numbers place ≡ a

-- one of the order is atom y, and a is chosen for it
pub record IsChosen (order chosen : List ℕ) (y a : ℕ) : Type 0 where
  pub place : ℕ
  pub within : place < length chosen
  pub atom : slice_index order place ≡ y
  pub is : slice_index chosen place ≡ a

-- atom y of the graph is one of the first, whose number is a, or a is chosen for it
abbrev pub IsPut : List ℕ → List ℕ → List ℕ → ℕ → ℕ → Type 0
IsPut first order chosen y a = ((1 ≤ y) × (y ≤ length first) × (slice_index first (y - 1) ≡ a)) ⊎ IsChosen order chosen y a

-- an atom of the order other than x has a chosen for it
pub record IsTakenBy (order chosen : List ℕ) (x a : ℕ) : Type 0 where
  pub y : ℕ
  pub other : y ≢ x
  pub chosen_for : IsChosen order chosen y a

-- in each hit that agrees atom x lies on an atom that is bonded to a
abbrev pub IsBeside : GraphView → Molecule → List ℕ → List ℕ → List ℕ → ℕ → ℕ → Type 0
IsBeside graph mol first order chosen x a = (hit : List ℕ) → Agrees graph mol first order chosen hit → AreBonded mol a (image hit x)

-- in no hit that agrees atom x lies on a
abbrev pub LiesNever : GraphView → Molecule → List ℕ → List ℕ → List ℕ → ℕ → ℕ → Type 0
LiesNever graph mol first order chosen x a = (hit : List ℕ) → Agrees graph mol first order chosen hit → image hit x ≡ a → ⊥

-- the bond of this number ends at atom x
abbrev pub EndsAt : GraphView → ℕ → ℕ → Type 0
EndsAt graph number x = (bond : GraphBond) → slice_get graph.bonds (number - 1) ≡ Some bond → touches x (graph_edge bond) ≡ true

-- atoms of the graph behind so many first ones
abbrev pub AreLater : GraphView → ℕ → List ℕ → Type 0
AreLater graph first order = All (λ x. (first < x) × (x ≤ length graph.atoms)) order

-- no hit begins with the first atoms
abbrev pub IsNoHitBehind : GraphView → Molecule → List ℕ → Type 0
IsNoHitBehind graph mol first = (others : List ℕ) → IsHit graph mol (first ++ others) → ⊥
