-- The tables of the file, as the toolchain's library reads the texts that make them.
--     records, queries, cursors, nexts      the four tables
--     Stage, schema_at stage                how many of them are there, and the schema then
--     stage_of schema                       which of these schemas it is, if it is one
use Rattle.std.specs.Prelude.{ℕ, nat_eq, Bool, true, false, not, if◌then◌else◌, ◌&&◌, List, [], ◌∷◌, codes, bytes_eq, Option, Some, None}
use Rattle.sqlite_value.specs.declared.value.Value.TheVariants.{Null}
use Rattle.sqlite_value.specs.declared.keys.Collation.{Collation}
use Rattle.sqlite_value.specs.declared.keys.Collation.TheVariants.{Binary}
use Rattle.sqlite_value.specs.declared.keys.Order.{Order}
use Rattle.sqlite_value.specs.Keys.{plain, collation_code}
use Rattle.sqlite_sql.specs.Ops.{is_null}
use Rattle.sqlite_schema.specs.declared.schema.Kind.{Kind}
use Rattle.sqlite_schema.specs.declared.schema.Kind.TheVariants.{Integer, Text, Blob}
use Rattle.sqlite_schema.specs.declared.schema.Column.{Column}
use Rattle.sqlite_schema.specs.declared.schema.Table.{Table}
use Rattle.sqlite_schema.specs.declared.schema.Index.{Index}
use Rattle.sqlite_schema.specs.declared.schema.Schema.{Schema}
use Rattle.sqlite_schema.specs.Rules.{kind_code}

-- ---- the four tables

-- a column of a STRICT table, which has no default and may have to be there
abbrev pub column_of : List ℕ → Kind → Bool → Column
column_of name kind required = record { name = name; kind = kind; is_strict = true; not_null = required; default = Null; collation = Binary }

-- a table whose first column is its rowid, and whose rows stand in the tree of this number
abbrev pub table_of : List ℕ → ℕ → List Column → Table
table_of name tree columns = record {
  name = name;
  tree = tree;
  columns = columns;
  key = Some 0;
  primary = 0 ∷ [];
  uniques = [];
  orders = [];
  checks = [];
  references = [];
  computed = [];
  stamps = record { places = []; terms = []; formats = [] };
  is_counted = false;
}

-- records(number INTEGER PRIMARY KEY, text BLOB NOT NULL)
abbrev pub records : Table
records = table_of (codes "records") 0 (column_of (codes "number") Integer false ∷ column_of (codes "text") Blob true ∷ [])

-- queries(number INTEGER PRIMARY KEY, name TEXT NOT NULL UNIQUE, text BLOB NOT NULL)
abbrev pub queries : Table
queries = record (table_of (codes "queries") 1 (column_of (codes "number") Integer false ∷ column_of (codes "name") Text true ∷ column_of (codes "text") Blob true ∷ [])) {
  uniques = (2 ∷ []) ∷ [];
  orders = plain ∷ [];
}

-- the index that UNIQUE makes: no two queries have one name
abbrev pub names : Index
names = record { name = codes "sqlite_autoindex_queries_1"; tree = 2; table = 1; columns = 2 ∷ []; order = plain; is_unique = true }

-- cursors(number INTEGER PRIMARY KEY, name TEXT NOT NULL, place BLOB NOT NULL)
abbrev pub cursors : Table
cursors = table_of (codes "cursors") 3 (column_of (codes "number") Integer false ∷ column_of (codes "name") Text true ∷ column_of (codes "place") Blob true ∷ [])

-- nexts(which INTEGER PRIMARY KEY, value INTEGER NOT NULL)
abbrev pub nexts : Table
nexts = table_of (codes "nexts") 4 (column_of (codes "which") Integer false ∷ column_of (codes "value") Integer true ∷ [])

-- ---- the schema, as the tables are made in order

-- how many of the four tables are there: none, records alone, queries too, cursors too, all
pub data Stage : Type 0 where
  no_table : Stage
  one_table : Stage
  two_tables : Stage
  three_tables : Stage
  all_tables : Stage

-- the schema with so many of the tables, and no other
abbrev pub schema_at : Stage → Schema
schema_at no_table = record { tables = []; indexes = []; views = [] }
schema_at one_table = record { tables = records ∷ []; indexes = []; views = [] }
schema_at two_tables = record { tables = records ∷ queries ∷ []; indexes = names ∷ []; views = [] }
schema_at three_tables = record { tables = records ∷ queries ∷ cursors ∷ []; indexes = names ∷ []; views = [] }
schema_at all_tables = record { tables = records ∷ queries ∷ cursors ∷ nexts ∷ []; indexes = names ∷ []; views = [] }

-- ---- which of these a schema is

-- a list without items
abbrev pub is_empty : {X : Type 0} → List X → Bool
is_empty [] = true
is_empty (x ∷ xs) = false

-- two lists are the same item for item
abbrev pub all_same : {X : Type 0} → (X → X → Bool) → List X → List X → Bool
all_same same [] [] = true
all_same same [] (y ∷ ys) = false
all_same same (x ∷ xs) [] = false
all_same same (x ∷ xs) (y ∷ ys) = same x y && all_same same xs ys

-- two flags are the same
abbrev pub same_bool : Bool → Bool → Bool
same_bool a b = if a then b else not b

-- two numbers that may be missing are the same
abbrev pub same_option : Option ℕ → Option ℕ → Bool
same_option None None = true
same_option None (Some n) = false
same_option (Some m) None = false
same_option (Some m) (Some n) = nat_eq m n

-- two orders of keys are the same
abbrev pub same_order : Order → Order → Bool
same_order a b = nat_eq a.digits b.digits

-- two columns without a default are the same
abbrev pub same_column : Column → Column → Bool
same_column a b =
    bytes_eq a.name b.name && (nat_eq (kind_code a.kind) (kind_code b.kind) && (same_bool a.is_strict b.is_strict
    && (same_bool a.not_null b.not_null && (is_null a.default && (is_null b.default
    && nat_eq (collation_code a.collation) (collation_code b.collation))))))

-- two tables without checks, references and default times are the same
abbrev pub same_table : Table → Table → Bool
same_table a b =
    bytes_eq a.name b.name && (nat_eq a.tree b.tree && (all_same same_column a.columns b.columns
    && (same_option a.key b.key && (bytes_eq a.primary b.primary && (all_same bytes_eq a.uniques b.uniques
    && (all_same same_order a.orders b.orders && (is_empty a.checks && (is_empty b.checks
    && (is_empty a.references && (is_empty b.references && (bytes_eq a.computed b.computed
    && (bytes_eq a.stamps.places b.stamps.places && (is_empty a.stamps.terms && (is_empty b.stamps.terms
    && (all_same bytes_eq a.stamps.formats b.stamps.formats && same_bool a.is_counted b.is_counted)))))))))))))))

-- two indexes are the same
abbrev pub same_index : Index → Index → Bool
same_index a b =
    bytes_eq a.name b.name && (nat_eq a.tree b.tree && (nat_eq a.table b.table && (bytes_eq a.columns b.columns
    && (same_order a.order b.order && same_bool a.is_unique b.is_unique))))

-- two schemas without views are the same, with their tables and indexes in one order
abbrev pub same_schema : Schema → Schema → Bool
same_schema a b =
    all_same same_table a.tables b.tables && (all_same same_index a.indexes b.indexes && (is_empty a.views && is_empty b.views))

-- the first of the stages that has this schema
abbrev pub first_stage : Schema → List Stage → Option Stage
first_stage schema [] = None
first_stage schema (stage ∷ more) = if same_schema schema (schema_at stage) then Some stage else first_stage schema more

-- all stages, in order
abbrev pub stages : List Stage
stages = no_table ∷ one_table ∷ two_tables ∷ three_tables ∷ all_tables ∷ []

-- the stage that has this schema, if one has
unfoldable pub stage_of : Schema → Option Stage
stage_of schema = first_stage schema stages
