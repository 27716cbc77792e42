-- Turns of a walk. This file serves the code alone, but for the nodes.
--     IsMapNode graph mol node            distinct atoms of the molecule, no more than the graph has
--     node_of images depth above          the list that a walk came to last
--     IsVisit graph mol from node         a node that isn't below the place
--     GoesOn step                         the step came to no hit, and isn't the last
use Rattle.std.specs.Prelude.{◌≢◌, ◌≤◌, ℕ, zero, suc, List, [], ◌∷◌, ◌++◌, length, take, All, AllPairs}
use Rattle.mk_text.specs.Rising.{IsBelow}
use Rattle.mk_model.specs.Molecules.{Molecule}
use Rattle.mk_model.specs.Graphs.{GraphView}
use Rattle.mk_walk.specs.declared.walk.Step.{Step}
use Rattle.mk_walk.specs.declared.walk.Step.TheVariants.{Item, Node, Back, End}

-- distinct atoms of the molecule, no more than the graph has
pub record IsMapNode (graph : GraphView) (mol : Molecule) (node : List ℕ) : Type 0 where
  pub few : length node ≤ length graph.atoms
  pub within : All (λ a. (1 ≤ a) × (a ≤ length mol.atoms)) node
  pub distinct : AllPairs (λ a b. a ≢ b) node

-- ---- for the code

-- the list that a walk came to last: the first images, with the number behind them up to which all
-- are passed
abbrev pub node_of : List ℕ → ℕ → ℕ → List ℕ
node_of images depth zero = take depth images
node_of images depth (suc above) = take depth images ++ suc above ∷ []

-- a node that isn't below the place
pub record IsVisit (graph : GraphView) (mol : Molecule) (place node : List ℕ) : Type 0 where
  pub is : IsMapNode graph mol node
  pub not_below : IsBelow node place → ⊥

-- the step came to no hit, and isn't the last
abbrev pub GoesOn : Step → Type 0
GoesOn Item = ⊥
GoesOn Node = Unit {0}
GoesOn Back = Unit {0}
GoesOn End = ⊥
