-- For code alone: the checks of the tables of a raw query, one after the other.
--     ArePassed groups done                  each of these tables passes its checks
--     IsWalked groups done templates         so it is, and these are their templates
--     FindsNext groups done tables new found     the first fault of some tables behind those, or the
--                                                templates of all
--     FindsInRoot, FindsInTables             so it is of the root, and of all tables
--     FindsAcross raw query found            the first fault of the whole
use Rattle.std.specs.Prelude.{◌≡◌, ◌==◌, ◌++◌, ◌∷◌, [], ℕ, List, Option, Some, None, length, slice_get}
use Rattle.mk_model.specs.Queries.{QueryView}
use Rattle.mk_model.specs.Templates.{TemplateView}
use Rattle.mk_tables.specs.declared.raw.RawTable.{RawTable}
use Rattle.mk_rgfile.specs.declared.raw_query.RawGroup.{RawGroup}
use Rattle.mk_rgfile.specs.declared.raw_query.RawQuery.{RawQuery}
use Rattle.mk_query.specs.declared.compile_fault.FaultAt.{FaultAt}
use Rattle.mk_query.specs.Compiled.{AreTemplatesOf, query_tables}
use Rattle.mk_query.specs.CompileFaults.{IsAcross, PassAcross}
use Rattle.mk_query.specs.FirstFault.{IsFirstFault, PassesAll}

-- each of these tables passes its checks, where the first is the root
abbrev pub ArePassed : List RawGroup → List RawTable → Type 0
ArePassed groups done = (t : ℕ) (table : RawTable) → slice_get done t ≡ Some table → PassesAll groups (t == 0) table

-- each passes its checks, and these are their templates
pub record IsWalked (groups : List RawGroup) (done : List RawTable) (templates : List TemplateView) : Type 0 where
  pub passed : ArePassed groups done
  pub are : AreTemplatesOf done templates

-- the first of these tables that fails a check
pub record IsNextFault (groups : List RawGroup) (tables : List RawTable) (fault : FaultAt) : Type 0 where
  pub front : List RawTable
  pub table : RawTable
  pub rest : List RawTable
  pub split : tables ≡ front ++ table ∷ rest
  pub passed : ArePassed groups front
  pub numbered : fault.table ≡ length front
  pub here : IsFirstFault groups (fault.table == 0) table (record { check = fault.check; item = fault.item })

-- behind tables that passed, the first of these that fails a check, or the templates of all
abbrev pub FindsNext : List RawGroup → List RawTable → List RawTable → List TemplateView → Option FaultAt → Type 0
FindsNext groups done tables templates None = IsWalked groups (done ++ tables) templates
FindsNext groups done tables templates (Some fault) = IsNextFault groups (done ++ tables) fault

-- the root's fault, or its template
abbrev pub FindsInRoot : RawQuery → List TemplateView → Option FaultAt → Type 0
FindsInRoot raw templates None = IsWalked raw.groups (raw.root ∷ []) templates
FindsInRoot raw templates (Some fault) = IsNextFault raw.groups (query_tables raw) fault

-- the first table that fails a check, or the templates of all tables
abbrev pub FindsInTables : RawQuery → List TemplateView → Option FaultAt → Type 0
FindsInTables raw templates found = FindsNext raw.groups [] (query_tables raw) templates found

-- the first check across tables that fails, or none where all pass
abbrev pub FindsAcross : RawQuery → QueryView → Option FaultAt → Type 0
FindsAcross raw query None = PassAcross raw query
FindsAcross raw query (Some fault) = IsAcross raw query fault
