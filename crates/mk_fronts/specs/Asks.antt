-- For the code: graphs that are asked for, and those that are kept.
--     IsAsk graph asked need          what a graph asks for in numbers, and needs of a screen
--     IsAskOf query key graph         the graph is that of an open code that begins with the key
--     AreAsksOf query entries         the graphs that are kept under keys are so
--     HoldsNoGraph query mol key      the molecule has no embedding of such a graph
use Rattle.std.specs.Prelude.{ℕ, List, All}
use Rattle.std.specs.Global.{Vec}
use Rattle.mk_model.specs.declared.screen.Screen.{Screen}
use Rattle.mk_model.specs.Graphs.{GraphView}
use Rattle.mk_model.specs.Molecules.{Molecule}
use Rattle.mk_model.specs.Queries.{QueryView}
use Rattle.mk_model.specs.Screens.{IsNeedOf}
use Rattle.mk_counts.specs.declared.asked.Asked.{Asked}
use Rattle.mk_counts.specs.Asked.{AreAsked}
use Rattle.mk_model.specs.Hits.{HasNoEmbedding}
use Rattle.mk_open_codes.specs.Fronts.{IsFrontCode}
use Rattle.mk_expand.specs.OpenGraphs.{IsOpenGraph}

-- the counts are what the graph asks for, and the need is what it needs of a screen
pub record IsAsk (graph : GraphView) (asked : Asked) (need : Screen) : Type 0 where
  pub counts : AreAsked graph asked
  pub needs : IsNeedOf graph need

-- the graph is that of an open code, which is the key with some slots left open behind it
pub record IsAskOf (query : QueryView) (key : List ℕ) (graph : GraphView) : Type 0 where
  pub code : List ℕ
  pub is : IsFrontCode query key code
  pub made : IsOpenGraph query code graph

-- each graph that is kept is that of its key
abbrev pub AreAsksOf : QueryView → List (Vec ℕ × GraphView) → Type 0
AreAsksOf query entries = All (λ entry. IsAskOf query entry.0.items entry.1) entries

-- the graph of an open code, which is the key with some slots left open behind it, has no embedding in
-- the molecule
pub record HoldsNoGraph (query : QueryView) (mol : Molecule) (key : List ℕ) : Type 0 where
  pub part : GraphView
  pub of : IsAskOf query key part
  pub none : HasNoEmbedding part mol
