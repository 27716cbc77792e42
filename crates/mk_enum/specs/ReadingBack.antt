-- The table of a structure as a query of its own.
--     alone table                  the table as the root of a query without groups
--     StandsFor table graph        that query passes every check, and stands for this graph alone
--     StructuresAreReadBack        the law
use Rattle.std.specs.Prelude.{ℕ, List, []}
use Rattle.mk_model.specs.Expansions.{IsExpansion}
use Rattle.mk_model.specs.Graphs.{GraphView}
use Rattle.mk_model.specs.Logic.{IsValid}
use Rattle.mk_model.specs.Queries.{QueryView}
use Rattle.mk_model.specs.QueryFits.{QueryFits}
use Rattle.mk_tables.specs.declared.raw.RawTable.{RawTable}
use Rattle.mk_rgfile.specs.declared.raw_query.RawQuery.{RawQuery}
use Rattle.mk_query.specs.declared.compile_fault.FaultAt.{FaultAt}
use Rattle.mk_query.specs.Compiled.{IsQueryOf}
use Rattle.mk_query.specs.CompileFaults.{IsFirstCompileFault, PassChecks}
use Rattle.mk_query.specs.InRange.{HaveFewProperties, IsQueryInRange}
use Rattle.mk_enum.specs.StructureTables.{IsTableOf}
use Rattle.mk_enum.specs.Writable.{IsWritable}

-- the table as the root of a query without groups
abbrev pub alone : RawTable → RawQuery
alone table = record { root = table; groups = [] }

-- The table alone is in range for a compiler, passes every check, and so has no fault. It has a
-- query, of which the empty code is valid, and the expansion by it is this graph.
pub record StandsFor (table : RawTable) (graph : GraphView) : Type 0 where
  pub in_range : IsQueryInRange (alone table)
  pub few : HaveFewProperties (alone table)
  pub query : QueryView
  pub is : IsQueryOf (alone table) query
  pub passes : PassChecks (alone table) query
  pub no_fault : (fault : FaultAt) → ¬ (IsFirstCompileFault (alone table) fault)
  pub valid : IsValid query []
  pub expanded : IsExpansion query [] graph

-- The table of each structure of a query, alone, stands for that structure: so writing a structure
-- and compiling what was written undo each other.
abbrev pub StructuresAreReadBack : Type 0
StructuresAreReadBack =
    (query : QueryView) (code : List ℕ) (graph : GraphView) (table : RawTable) → QueryFits query
    → IsExpansion query code graph → IsWritable graph → IsTableOf graph table → StandsFor table graph
