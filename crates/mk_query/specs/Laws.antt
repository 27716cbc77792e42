-- Laws over the checks and the query of a raw query.
--     OneQuery                   a raw query has at most one query
--     OneFirstFault              and at most one first fault
--     FaultOrQuery               a raw query in range has a first fault, or a query that passes
--                                every check
--     NoFaultWhereAllPass        and not both
--     PassedQueriesFit           a query of a raw query in range that passes every check keeps what
--                                every query keeps
--     KeptTextIsTheQuery         the kept lines of a query file that passes are a query file with
--                                the same raw query
use Rattle.std.specs.Prelude.{◌≡◌, ◌⊎◌, ℕ, List}
use Rattle.mk_text.specs.KeptLines.{kept_lines}
use Rattle.mk_text.specs.Lines.{lines_of}
use Rattle.mk_model.specs.Queries.{QueryView}
use Rattle.mk_model.specs.QueryFits.{QueryFits}
use Rattle.mk_rgfile.specs.declared.raw_query.RawQuery.{RawQuery}
use Rattle.mk_rgfile.specs.QueryFile.{IsQueryFile}
use Rattle.mk_query.specs.declared.compile_fault.FaultAt.{FaultAt}
use Rattle.mk_query.specs.Compiled.{IsQueryOf}
use Rattle.mk_query.specs.CompileFaults.{IsFirstCompileFault, PassChecks, PassEach}
use Rattle.mk_query.specs.InRange.{IsQueryInRange}

-- two queries of a raw query are one
abbrev pub OneQuery : Type 0
OneQuery = (raw : RawQuery) (a b : QueryView) → IsQueryOf raw a → IsQueryOf raw b → a ≡ b

-- two first faults of a raw query are one check, one table and one item
abbrev pub OneFirstFault : Type 0
OneFirstFault = (raw : RawQuery) (one other : FaultAt) → IsFirstCompileFault raw one → IsFirstCompileFault raw other → one ≡ other

-- a raw query in range has a first fault, or a query that passes every check
abbrev pub FaultOrQuery : Type 0
FaultOrQuery = (raw : RawQuery) → IsQueryInRange raw → ((fault : FaultAt) × IsFirstCompileFault raw fault) ⊎ ((query : QueryView) × IsQueryOf raw query × PassChecks raw query)

-- a raw query whose query passes every check has no first fault
abbrev pub NoFaultWhereAllPass : Type 0
NoFaultWhereAllPass = (raw : RawQuery) (query : QueryView) (fault : FaultAt) → IsQueryOf raw query → PassChecks raw query → ¬ (IsFirstCompileFault raw fault)

-- the query of a raw query in range keeps what every query keeps, where it passes every check
abbrev pub PassedQueriesFit : Type 0
PassedQueriesFit = (raw : RawQuery) (query : QueryView) → IsQueryInRange raw → IsQueryOf raw query → PassChecks raw query → QueryFits query

-- The kept lines of a query file of which every table passes its own checks are a query file too,
-- with the same raw query.
abbrev pub KeptTextIsTheQuery : Type 0
KeptTextIsTheQuery = (text : List ℕ) (raw : RawQuery) → IsQueryFile (lines_of text) raw → PassEach raw → IsQueryFile (lines_of (kept_lines (lines_of text))) raw
