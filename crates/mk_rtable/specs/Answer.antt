-- The command `table NAME`.
--     IsTableAnswer t name effect                what it comes to
--     BeginsOfRows t name old new                the count goes up as for the table of the query
--     BeginsOfTableAnswer t name effect old new  how often it begins the matcher
use Rattle.std.specs.Prelude.{◌≡◌, List, [], ℕ, false}
use Rattle.mk_model.specs.Queries.{QueryView}
use Rattle.mk_outside.specs.declared.tables.Tables.{Tables}
use Rattle.mk_rtable.specs.declared.rows.TableRow.{TableRow}
use Rattle.mk_rtable.specs.Begins.{BeginsOfTable}
use Rattle.mk_rtable.specs.Table.{IsRGroupTable}
use Rattle.mk_rtable.specs.Text.{table_text}
use Rattle.mk_found.specs.Effects.{Answers, Effect, Refuses}
use Rattle.mk_found.specs.Lines.{no_query_text}
use Rattle.mk_library.specs.Records.{IsMoleculeAt}
use Rattle.mk_kept.specs.Named.{IsQueryNamed}
use Rattle.mk_kept.specs.Saved.{is_named}

-- The rows of the query over the molecules of the records are written, and nothing changes. There
-- has to be a query of the name.
pub data IsTableAnswer (t : Tables) (name : List ℕ) (effect : Effect) : Type 0 where
  NoQueryTabled : is_named name t.queries ≡ false → effect ≡ Refuses (no_query_text name) → IsTableAnswer t name effect
  WritesRows : (query : QueryView) → IsQueryNamed t.queries name query → (rows : List TableRow) → IsRGroupTable (IsMoleculeAt t.records) query rows
      → effect ≡ Answers [] (table_text query rows) → IsTableAnswer t name effect

-- ---- how often the matcher is begun

-- The count goes up by one for each of a rising list of pairs of a record and a code, for the query
-- of the name: none is above the least code that has a hit in the record, and the least codes are
-- among them.
pub record BeginsOfRows (t : Tables) (name : List ℕ) (old new : ℕ) : Type 0 where
  pub query : QueryView
  pub named : IsQueryNamed t.queries name query
  pub begins : BeginsOfTable (IsMoleculeAt t.records) query old new

-- nothing is begun for a refusal, and an answer writes the rows of the query
abbrev pub BeginsOfTableAnswer : Tables → List ℕ → Effect → ℕ → ℕ → Type 0
BeginsOfTableAnswer t name (Refuses line) old new = new ≡ old
BeginsOfTableAnswer t name (Answers batch text) old new = BeginsOfRows t name old new
