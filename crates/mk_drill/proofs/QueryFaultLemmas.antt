-- No fault but want of memory comes of the drill's query file.
use Rattle.std.proofs.Common.{◌≡◌, ℕ, Err, refl, subst}
use Rattle.mk_text.specs.Lines.{lines_of}
use Rattle.mk_tables.specs.declared.fault.TableFault.{TableFault}
use Rattle.mk_tables.specs.declared.fault.TableFault.TheVariants as table_fault
use Rattle.mk_tables.specs.TableFaults.{IfBad, IfV3000}
use Rattle.mk_rgfile.specs.declared.raw_query.RawQuery.{RawQuery}
use Rattle.mk_rgfile.specs.QueryFile.{IsBadQueryLine, IsQueryFile}
use Rattle.mk_rgfile.proofs.QueryLawLemmas.{bad_where_none}
use Rattle.mk_query.specs.declared.compile_fault.CompileFault.{CompileFault}
use Rattle.mk_query.specs.declared.compile_fault.CompileFault.TheVariants as compile_fault
use Rattle.mk_query.specs.CompileFaults.{IfFault, IsFirstCompileFault}
use Rattle.mk_drill.specs.DrillQuery.{query_text}
use Rattle.mk_drill.proofs.QueryTables.{query_raw}
use Rattle.mk_drill.proofs.QueryFileLemmas.{one_raw, text_is_query}
use Rattle.mk_drill.proofs.QueryAcrossLemmas.{none_first}

-- the text has no bad line
no_bad : (k : ℕ) → IsBadQueryLine (lines_of query_text) k → ⊥
no_bad k bad = (bad_where_none (lines_of query_text)).0 (k, bad) query_raw text_is_query

pub only_memory : (fault : TableFault) → IfBad {T = Unit {0}} (Err fault) (IsBadQueryLine (lines_of query_text))
    → IfV3000 {T = Unit {0}} (Err fault) (IsBadQueryLine (lines_of query_text)) → fault ≡ table_fault.Memory
only_memory (table_fault.Bad k) bad named = absurd (no_bad k bad)
only_memory (table_fault.V3000 k) bad named = absurd (no_bad k named)
only_memory table_fault.Memory bad named = refl

-- and its tables have no fault
pub memory_alone : (raw : RawQuery) (fault : CompileFault) → IsQueryFile (lines_of query_text) raw → IfFault {T = Unit {0}} (Err fault) (IsFirstCompileFault raw) → fault ≡ compile_fault.Memory
memory_alone raw (compile_fault.Check check table item) read first =
    absurd (none_first _ (subst (λ (r : RawQuery). IsFirstCompileFault r
    (record { check = check; table = table; item = item })) (one_raw raw read) first))
memory_alone raw compile_fault.Memory read first = refl
