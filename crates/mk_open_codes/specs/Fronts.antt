-- Fronts: numbers with which codes begin, as open codes.
--     front_code front n             the open code of a front, with so many slots left open behind it
--     IsFrontCode query front code   the code is the open code of the front
--     HoldsNone query mol front      no occurrence of the query in the molecule begins with the front
--     IsNeedOfAll query need         a molecule with an occurrence of the query covers the need
--     FrontsHaveOpenCodes            a front with which a code begins has an open code
--     FrontsAreCompleted             each code that begins with a front completes its open code
--     FrontsHoldNone                 where the graph of a front's open code has no embedding, no
--                                    occurrence begins with the front
--     FrontsArePassedOver            so what remains inside the front is what remains behind it
--     RootNeed                       what the graph of the empty front needs, all occurrences need
use Rattle.std.specs.Prelude.{◌≡◌, ◌+◌, ℕ, List, [], ◌∷◌, ◌++◌, replicate}
use Rattle.mk_model.specs.declared.screen.Screen.{Screen}
use Rattle.mk_model.specs.Codes.{IsCode}
use Rattle.mk_model.specs.Graphs.{GraphView}
use Rattle.mk_model.specs.Hits.{HasNoEmbedding}
use Rattle.mk_model.specs.Keys.{IsOccurrence}
use Rattle.mk_model.specs.Molecules.{Molecule}
use Rattle.mk_model.specs.Nodes.{BeginsCode, SameFrom}
use Rattle.mk_model.specs.Queries.{QueryView}
use Rattle.mk_model.specs.QueryFits.{QueryFits}
use Rattle.mk_model.specs.Screens.{Covers, IsNeedOf, IsScreenOf}
use Rattle.mk_expand.specs.OpenCodes.{IsOpenCode}
use Rattle.mk_open_codes.specs.Completions.{Completes}
use Rattle.mk_expand.specs.OpenGraphs.{IsOpenGraph}

-- the numbers of a front, and 0 for each of so many slots behind them
abbrev pub front_code : List ℕ → ℕ → List ℕ
front_code front n = front ++ replicate n 0

-- the code is open, and it is the front's numbers with some slots left open behind them
pub record IsFrontCode (query : QueryView) (front code : List ℕ) : Type 0 where
  pub left : ℕ
  pub spelt : code ≡ front_code front left
  pub is : IsOpenCode query 0 code

-- no occurrence of the query in the molecule begins with the front
abbrev pub HoldsNone : QueryView → Molecule → List ℕ → Type 0
HoldsNone query mol front = (more : List ℕ) → IsOccurrence query mol (front ++ more) → ⊥

-- each molecule with an occurrence of the query covers the need
abbrev pub IsNeedOfAll : QueryView → Screen → Type 0
IsNeedOfAll query need =
    (mol : Molecule) (numbers : List ℕ) (held : Screen) → IsOccurrence query mol numbers → IsScreenOf mol held → Covers held need

-- ---- laws

-- numbers with which a structural code of the root begins are an open code, with some slots behind
-- them left open
abbrev pub FrontsHaveOpenCodes : Type 0
FrontsHaveOpenCodes = (query : QueryView) (front : List ℕ) → BeginsCode query front → (n : ℕ) × IsOpenCode query 0 (front_code front n)

-- each structural code of the root that begins with a front completes the front's open code
abbrev pub FrontsAreCompleted : Type 0
FrontsAreCompleted =
    (query : QueryView) (front more : List ℕ) (n : ℕ) → IsOpenCode query 0 (front_code front n)
    → IsCode query 0 (front ++ more) → Completes query (front ++ more) (front_code front n)

-- where the graph of a front's open code has no embedding in a molecule, no occurrence of the query
-- there begins with the front
abbrev pub FrontsHoldNone : Type 0
FrontsHoldNone =
    (query : QueryView) (mol : Molecule) (front code : List ℕ) (part : GraphView) → QueryFits query → BeginsCode query front
    → IsFrontCode query front code → IsOpenGraph query code part → HasNoEmbedding part mol → HoldsNone query mol front

-- Where the graph of a front's open code has no embedding in a molecule, no occurrence of the query
-- there begins with the front: what remains from a place inside the front is what remains from the front
-- with its last number raised by one.
abbrev pub FrontsArePassedOver : Type 0
FrontsArePassedOver =
    (query : QueryView) (mol : Molecule) (numbers tail : List ℕ) (last n : ℕ) (part : GraphView) → QueryFits query
    → BeginsCode query (numbers ++ last ∷ []) → IsOpenGraph query (front_code (numbers ++ last ∷ []) n) part
    → HasNoEmbedding part mol
    → SameFrom (IsOccurrence query mol) (numbers ++ last ∷ tail) (numbers ++ (last + 1) ∷ [])

-- the need of the graph in which all slots of the root are left open is a need of all occurrences
abbrev pub RootNeed : Type 0
RootNeed =
    (query : QueryView) (code : List ℕ) (part : GraphView) (need : Screen) → QueryFits query → IsFrontCode query [] code
    → IsOpenGraph query code part → IsNeedOf part need → IsNeedOfAll query need
