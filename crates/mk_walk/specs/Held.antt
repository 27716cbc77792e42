-- Whether a molecule may hold a graph, as a search of at most so many turns tells.
--     HoldsGraph graph mol               there is a hit
--     IsOutOfTurns graph mol turns       so many nodes are passed, and no hit is below the place
--                                        that is come to
--     MayHold graph mol turns            there is a hit, or so many turns were too few to tell
-- A molecule that has fewer nodes than there are turns may hold the graph exactly where there is a
-- hit. With no turn each molecule may hold each graph.
use Rattle.std.specs.Prelude.{◌≤◌, ◌⊎◌, ℕ, List, []}
use Rattle.mk_text.specs.Rising.{IsBelow}
use Rattle.mk_model.specs.Molecules.{Molecule}
use Rattle.mk_model.specs.Graphs.{GraphView}
use Rattle.mk_model.specs.Hits.{IsHit}
use Rattle.mk_model.specs.Nodes.{StandBetween}
use Rattle.mk_walk.specs.Turns.{IsMapNode}

-- some list of atoms is a hit
abbrev pub HoldsGraph : GraphView → Molecule → Type 0
HoldsGraph graph mol = (hit : List ℕ) × IsHit graph mol hit

-- the search is at a place below which there is no hit, and passed a node for each turn on its way
pub record IsOutOfTurns (graph : GraphView) (mol : Molecule) (turns : ℕ) : Type 0 where
  pub place : List ℕ
  pub passed : ℕ
  pub stand : StandBetween (IsMapNode graph mol) [] place passed
  pub enough : turns ≤ passed
  pub no_hit : (hit : List ℕ) → IsHit graph mol hit → IsBelow hit place → ⊥

-- there is a hit, or so many turns were too few to tell
abbrev pub MayHold : GraphView → Molecule → ℕ → Type 0
MayHold graph mol turns = HoldsGraph graph mol ⊎ IsOutOfTurns graph mol turns
