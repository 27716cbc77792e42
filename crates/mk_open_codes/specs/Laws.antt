-- Laws of open codes.
--     IsHeldBy part whole              each embedding of the whole, at some of its atoms, is one of the
--                                      part
--     CompletionsHoldTheOpenGraph      each completing code's expansion holds the open code's graph
--     NoHitNoCompletion                so where that has no embedding, no completing code has one
--     CompletionsCoverItsNeed          and where a completing code has a hit, its need is covered
use Rattle.std.specs.Prelude.{◌≤◌, ◌<◌, ℕ, List, length, map, All, AllPairs}
use Rattle.mk_model.specs.declared.screen.Screen.{Screen}
use Rattle.mk_model.specs.Expansions.{IsExpansion}
use Rattle.mk_model.specs.Graphs.{GraphView}
use Rattle.mk_model.specs.Hits.{HasNoEmbedding, IsEmbedding, IsHit, image}
use Rattle.mk_model.specs.Molecules.{IsMolecule, Molecule}
use Rattle.mk_model.specs.Queries.{QueryView}
use Rattle.mk_model.specs.QueryFits.{QueryFits}
use Rattle.mk_model.specs.Screens.{Covers, IsNeedOf, IsScreenOf}
use Rattle.mk_open_codes.specs.Completions.{Completes}
use Rattle.mk_expand.specs.OpenGraphs.{IsOpenGraph}

-- some atoms of the whole, in rising order, are such that each embedding of the whole in a molecule,
-- taken at these atoms alone, is one of the part
pub record IsHeldBy (part whole : GraphView) : Type 0 where
  pub shared : List ℕ
  pub rise : AllPairs (λ x later. x < later) shared
  pub within : All (λ x. (1 ≤ x) × (x ≤ length whole.atoms)) shared
  pub images : (mol : Molecule) (images : List ℕ) → IsEmbedding whole mol images → IsEmbedding part mol (map (image images) shared)

-- the expansion by each code that completes an open code holds the open code's graph
abbrev pub CompletionsHoldTheOpenGraph : Type 0
CompletionsHoldTheOpenGraph =
    (query : QueryView) (code open_code : List ℕ) (whole part : GraphView) → QueryFits query → Completes query code open_code
    → IsExpansion query code whole → IsOpenGraph query open_code part → IsHeldBy part whole

-- where the graph of an open code has no embedding in a molecule, no code that completes it has one
abbrev pub NoHitNoCompletion : Type 0
NoHitNoCompletion =
    (query : QueryView) (open_code : List ℕ) (part : GraphView) (mol : Molecule) → QueryFits query → IsOpenGraph query open_code part
    → HasNoEmbedding part mol → (code : List ℕ) (whole : GraphView) → Completes query code open_code → IsExpansion query code whole
    → HasNoEmbedding whole mol

-- where a code that completes an open code has a hit in a molecule, the molecule's screen covers the
-- need of the open code's graph
abbrev pub CompletionsCoverItsNeed : Type 0
CompletionsCoverItsNeed =
    (query : QueryView) (code open_code : List ℕ) (whole part : GraphView) (mol : Molecule) (hit : List ℕ) (held need : Screen)
    → QueryFits query → Completes query code open_code → IsExpansion query code whole → IsOpenGraph query open_code part
    → IsMolecule mol → IsHit whole mol hit → IsScreenOf mol held → IsNeedOf part need → Covers held need
