-- The first fault of a raw query: the first check that fails, and the table and the item at which
-- it does.
--     IsFirstInTables raw fault      the first fault of the first table that fails a check of its
--                                    own
--     IsAcross raw query fault       the first of the checks across tables that fails
--     PassChecks raw query           every check passes
--     IsFirstCompileFault raw fault  the first fault of the raw query
--     IfFault result P               where a check is named, P holds of it
use Rattle.std.specs.Prelude.{◌≡◌, ◌≢◌, ◌≤◌, ◌<◌, ◌==◌, ℕ, List, [], Some, Contains, slice_get, sum_by, if◌then◌else◌, Result, Ok, Err}
use Rattle.mk_text.specs.Items.{IsLeastFailing}
use Rattle.mk_model.specs.declared.template.Slot.{Slot}
use Rattle.mk_model.specs.Labels.{IsChain}
use Rattle.mk_model.specs.Queries.{QueryView}
use Rattle.mk_model.specs.QueryFits.{FitsPoints}
use Rattle.mk_model.specs.Sizes.{IsSizing}
use Rattle.mk_model.specs.Templates.{TemplateView, slot_atom}
use Rattle.mk_tables.specs.declared.raw.RawTable.{RawTable}
use Rattle.mk_rgfile.specs.declared.raw_query.RawGroup.{RawGroup}
use Rattle.mk_rgfile.specs.declared.raw_query.RawQuery.{RawQuery}
use Rattle.mk_rgfile.specs.QueryFacts.{member_count}
use Rattle.mk_query.specs.declared.compile_fault.CompileFault.{CompileFault}
use Rattle.mk_query.specs.declared.compile_fault.CompileFault.TheVariants as compile_fault
use Rattle.mk_query.specs.declared.compile_fault.FaultAt.{FaultAt}
use Rattle.mk_query.specs.Compiled.{IsQueryOf, query_tables}
use Rattle.mk_query.specs.FirstFault.{PassesAll, IsFirstFault}

-- ---- in one table

-- every table passes its own checks
abbrev pub PassEach : RawQuery → Type 0
PassEach raw = (t : ℕ) (table : RawTable) → slice_get (query_tables raw) t ≡ Some table → PassesAll raw.groups (t == 0) table

-- the tables before that of the fault pass, and it has this fault
pub record IsFirstInTables (raw : RawQuery) (fault : FaultAt) : Type 0 where
  pub table : RawTable
  pub at : slice_get (query_tables raw) fault.table ≡ Some table
  pub before : (t : ℕ) (earlier : RawTable) → t < fault.table → slice_get (query_tables raw) t ≡ Some earlier → PassesAll raw.groups (t == 0) earlier
  pub here : IsFirstFault raw.groups (fault.table == 0) table (record { check = fault.check; item = fault.item })

-- ---- across tables

-- table t doesn't use itself, directly or through others
abbrev pub IsNoCycle : QueryView → ℕ → Type 0
IsNoCycle query t = (via : List ℕ) → IsChain query t via t → ⊥

-- the members of the slot at atom x of table t have as many points as it has neighbours, where a
-- slot stands there
abbrev pub FitsAt : QueryView → ℕ → ℕ → Type 0
FitsAt query t x =
    (template : TemplateView) (slot : Slot) → slice_get query.templates t ≡ Some template → Contains template.slots slot → slot_atom slot ≡ x
    → FitsPoints query slot

-- the members of each slot of table t have as many points as the slot has neighbours
abbrev pub FitsTable : QueryView → ℕ → Type 0
FitsTable query t = (x : ℕ) → FitsAt query t x

-- the root's size is at most 512
pub record IsSmall (query : QueryView) : Type 0 where
  pub size : ℕ → ℕ
  pub adds_up : IsSizing query size
  pub small : size 0 ≤ 512

-- how many groups of this number there are
abbrev pub groups_of_number : ℕ → List RawGroup → ℕ
groups_of_number g groups = sum_by (λ group. if group.number == g then 1 else 0) groups

-- at most one group has the number g
abbrev pub IsNumberOnce : RawQuery → ℕ → Type 0
IsNumberOnce raw g = groups_of_number g raw.groups ≤ 1

-- What is asked of the whole: by item 0 that the root has an atom, by an item that is a group's
-- number that no other group has it, and by 4,097 that there are at most 4,096 members.
pub record IsWhole (raw : RawQuery) (item : ℕ) : Type 0 where
  pub root : item ≡ 0 → raw.root.atoms ≢ []
  pub once : item ≢ 0 → IsNumberOnce raw item
  pub few : item ≡ 4097 → member_count raw ≤ 4096

-- The checks across tables in their order: recursion, points, size, and the whole.
pub data IsAcross (raw : RawQuery) (query : QueryView) (fault : FaultAt) : Type 0 where
  recursion : fault.check ≡ 11 → fault.item ≡ 0 → IsLeastFailing (IsNoCycle query) fault.table → IsAcross raw query fault
  points : fault.check ≡ 12 → ((t : ℕ) → IsNoCycle query t)
      → IsLeastFailing (FitsTable query) fault.table → IsLeastFailing (FitsAt query fault.table) fault.item → IsAcross raw query fault
  size : fault.check ≡ 13 → fault.table ≡ 0 → fault.item ≡ 0 → ((t : ℕ) → IsNoCycle query t) → ((t : ℕ) → FitsTable query t)
      → (IsSmall query → ⊥) → IsAcross raw query fault
  whole : fault.check ≡ 14 → fault.table ≡ 0 → ((t : ℕ) → IsNoCycle query t) → ((t : ℕ) → FitsTable query t) → IsSmall query
      → IsLeastFailing (IsWhole raw) fault.item → IsAcross raw query fault

-- every check across tables passes
pub record PassAcross (raw : RawQuery) (query : QueryView) : Type 0 where
  pub no_cycle : (t : ℕ) → IsNoCycle query t
  pub fits : (t : ℕ) → FitsTable query t
  pub small : IsSmall query
  pub whole : (item : ℕ) → IsWhole raw item

-- ---- of the raw query

-- every check passes: those of each table, and those across tables
pub record PassChecks (raw : RawQuery) (query : QueryView) : Type 0 where
  pub in_tables : PassEach raw
  pub across : PassAcross raw query

-- a table's own fault comes first; where every table passes, the query that is meant is checked
pub data IsFirstCompileFault (raw : RawQuery) (fault : FaultAt) : Type 0 where
  in_a_table : IsFirstInTables raw fault → IsFirstCompileFault raw fault
  across_tables : PassEach raw → (query : QueryView) → IsQueryOf raw query → IsAcross raw query fault → IsFirstCompileFault raw fault

-- where a check is named, P holds of it, of its table and of its item
abbrev pub IfFault : {T : Type 0} → Result T CompileFault → (FaultAt → Type 0) → Type 0
IfFault (Ok value) P = Unit {0}
IfFault (Err (compile_fault.Check check table item)) P = P (record { check = check; table = table; item = item })
IfFault (Err compile_fault.Memory) P = Unit {0}
