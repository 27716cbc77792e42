-- Laws of expansions.
--     CodeAndHitAreShort        a code and a hit of its expansion together have at most 512 numbers
--     EachCodeHasExpansion      each structural code of a query's root has an expansion
--     OneExpansion              and one expansion alone
--     ExpansionIsNamed          the atoms and bonds of an expansion are those that the names say
use Rattle.std.specs.Prelude.{◌≡◌, ◌≤◌, ◌+◌, ℕ, List, length, map}
use Rattle.mk_model.specs.Codes.{IsCode}
use Rattle.mk_model.specs.Expansions.{IsExpansion, unmarked}
use Rattle.mk_model.specs.Graphs.{GraphView}
use Rattle.mk_model.specs.Hits.{IsHit}
use Rattle.mk_model.specs.Molecules.{Molecule}
use Rattle.mk_model.specs.Queries.{QueryView}
use Rattle.mk_model.specs.QueryFits.{QueryFits}
use Rattle.mk_pieces.specs.Names.{AreAsNamed}

-- a code and a hit of its expansion together have at most 512 numbers
abbrev pub CodeAndHitAreShort : Type 0
CodeAndHitAreShort = (query : QueryView) (code : List ℕ) (graph : GraphView) (mol : Molecule) (hit : List ℕ)
    → QueryFits query → IsExpansion query code graph → IsHit graph mol hit → length code + length hit ≤ 512

-- each structural code of a query's root has an expansion
abbrev pub EachCodeHasExpansion : Type 0
EachCodeHasExpansion = (query : QueryView) (code : List ℕ) → QueryFits query → IsCode query 0 code → (graph : GraphView) × IsExpansion query code graph

-- two graphs that are the expansion of a query by a code are one
abbrev pub OneExpansion : Type 0
OneExpansion = (query : QueryView) (code : List ℕ) (a b : GraphView) → IsExpansion query code a → IsExpansion query code b → a ≡ b

-- the atoms and bonds of an expansion are those that the names say, each name being the way to its
-- atom by the choice that the code spells
abbrev pub ExpansionIsNamed : Type 0
ExpansionIsNamed = (query : QueryView) (code : List ℕ) (graph : GraphView) → QueryFits query → (is : IsExpansion query code graph)
    → AreAsNamed query 0 is.choice graph.atoms (map unmarked graph.bonds)
