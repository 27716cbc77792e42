-- What the texts that make the tables mean, at each stage.
use Rattle.std.proofs.Common.{◌≡◌, ℕ, List, [], ◌∷◌, codes, Ok, refl}
use Rattle.sqlite_schema.specs.declared.schema.Table.{Table}
use Rattle.sqlite_schema.specs.declared.command.Command.TheVariants.{CreateTable, Nothing}
use Rattle.sqlite_tied.specs.Compute.{everything}
use Rattle.sqlite.specs.Compile.{table_defined_by}
use Rattle.sqlite.specs.Listing.{understood}
use Rattle.sqlite.proofs.Callers.{IsPlain, command_of, statement_of}
use Rattle.mk_sqlite.specs.Layout.{records, queries, cursors, nexts, Stage, no_table, one_table, two_tables, three_tables, all_tables, schema_at}

-- the text makes this table
pub record MakesTable (stage : Stage) (text : List ℕ) (table : Table) : Type 0 where
  pub command : command_of (understood (schema_at stage) text) ≡ CreateTable
  pub statement : statement_of text (understood (schema_at stage) text) ≡ text
  pub defined : table_defined_by text ≡ Ok table
  pub plain : IsPlain (understood (schema_at stage) text)

-- the text finds the table there
pub record FindsTable (stage : Stage) (text : List ℕ) : Type 0 where
  pub command : command_of (understood (schema_at stage) text) ≡ Nothing
  pub plain : IsPlain (understood (schema_at stage) text)

-- the text that makes the records
abbrev pub make_records : List ℕ
make_records = codes "CREATE TABLE IF NOT EXISTS records(number INTEGER PRIMARY KEY, text BLOB NOT NULL) STRICT"

-- the text that makes the queries
abbrev pub make_queries : List ℕ
make_queries = codes "CREATE TABLE IF NOT EXISTS queries(number INTEGER PRIMARY KEY, name TEXT NOT NULL UNIQUE, text BLOB NOT NULL) STRICT"

-- the text that makes the cursors
abbrev pub make_cursors : List ℕ
make_cursors = codes "CREATE TABLE IF NOT EXISTS cursors(number INTEGER PRIMARY KEY, name TEXT NOT NULL, place BLOB NOT NULL) STRICT"

-- the text that makes the next numbers
abbrev pub make_nexts : List ℕ
make_nexts = codes "CREATE TABLE IF NOT EXISTS nexts(which INTEGER PRIMARY KEY, value INTEGER NOT NULL) STRICT"

-- a table, but for its tree
abbrev pub treeless : Table → Table
treeless table = record table { tree = 0 }

-- records are made where no table is
pub records_made : MakesTable no_table make_records (treeless records)
unfolding understood everything
records_made = record { command = refl; statement = refl; defined = refl; plain = (refl, refl) }

-- queries are made behind records
pub queries_made : MakesTable one_table make_queries (treeless queries)
unfolding understood everything
queries_made = record { command = refl; statement = refl; defined = refl; plain = (refl, refl) }

-- cursors are made behind queries
pub cursors_made : MakesTable two_tables make_cursors (treeless cursors)
unfolding understood everything
cursors_made = record { command = refl; statement = refl; defined = refl; plain = (refl, refl) }

-- next numbers are made behind cursors
pub nexts_made : MakesTable three_tables make_nexts (treeless nexts)
unfolding understood everything
nexts_made = record { command = refl; statement = refl; defined = refl; plain = (refl, refl) }

-- records that are there are left, with one table
pub records_found_1 : FindsTable one_table make_records
unfolding understood everything
records_found_1 = record { command = refl; plain = (refl, refl) }

-- the same with two tables
pub records_found_2 : FindsTable two_tables make_records
unfolding understood everything
records_found_2 = record { command = refl; plain = (refl, refl) }

-- records are left with three tables
pub records_found_3 : FindsTable three_tables make_records
unfolding understood everything
records_found_3 = record { command = refl; plain = (refl, refl) }

-- records are left with all tables
pub records_found_4 : FindsTable all_tables make_records
unfolding understood everything
records_found_4 = record { command = refl; plain = (refl, refl) }

-- queries that are there are left, with two tables
pub queries_found_2 : FindsTable two_tables make_queries
unfolding understood everything
queries_found_2 = record { command = refl; plain = (refl, refl) }

-- queries are left with three tables
pub queries_found_3 : FindsTable three_tables make_queries
unfolding understood everything
queries_found_3 = record { command = refl; plain = (refl, refl) }

-- queries are left with all tables
pub queries_found_4 : FindsTable all_tables make_queries
unfolding understood everything
queries_found_4 = record { command = refl; plain = (refl, refl) }

-- cursors that are there are left, with three tables
pub cursors_found_3 : FindsTable three_tables make_cursors
unfolding understood everything
cursors_found_3 = record { command = refl; plain = (refl, refl) }

-- cursors are left with all tables
pub cursors_found_4 : FindsTable all_tables make_cursors
unfolding understood everything
cursors_found_4 = record { command = refl; plain = (refl, refl) }

-- next numbers that are there are left
pub nexts_found_4 : FindsTable all_tables make_nexts
unfolding understood everything
nexts_found_4 = record { command = refl; plain = (refl, refl) }
