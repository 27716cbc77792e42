-- What the texts of the statements mean.
use Rattle.std.proofs.Common.{◌≡◌, ℕ, ℤ, pos, negsuc, List, [], ◌∷◌, codes, Bool, false, Some, None, Ok, refl}
use Rattle.sqlite_value.specs.declared.value.Value.TheVariants.{Null, Int}
use Rattle.sqlite_value.specs.declared.keys.Collation.TheVariants.{Binary}
use Rattle.sqlite_value.specs.Keys.{ascending}
use Rattle.sqlite_sql.specs.declared.ops.BinaryOp.TheVariants.{Compare}
use Rattle.sqlite_sql.specs.declared.ops.CompareOp.TheVariants.{Eq, Lt}
use Rattle.sqlite_sql.specs.Term.{Term, lit, col, op2}
use Rattle.sqlite_schema.specs.declared.schema.Schema.{Schema}
use Rattle.sqlite_schema.specs.declared.command.Command.TheVariants.{Delete, InsertOr, Select, CreateTable, Nothing}
use Rattle.sqlite_schema.specs.declared.command.Conflict.TheVariants.{Abort}
use Rattle.sqlite_schema.specs.declared.command.Source.TheVariants.{Values}
use Rattle.sqlite_tied.specs.Compute.{everything}
use Rattle.sqlite.specs.Listing.{understood, reads_listing}
use Rattle.sqlite.proofs.Callers.{IsPlain, command_of, statement_of}
use Rattle.mk_sqlite.specs.Layout.{schema_at, all_tables}
use Rattle.mk_sqlite.proofs.AnswerLemmas.{over_table, by_rowid}

-- the schema with all four tables
abbrev pub whole : Schema
whole = schema_at all_tables

-- ---- deletions

-- a column is the parameter of this number
abbrev pub same_column : ℕ → ℕ → Term
same_column place given = op2 (Compare Eq Binary) (col 1 place) (col 0 given)

-- the text that drops a record
abbrev pub delete_record : List ℕ
delete_record = codes "DELETE FROM records WHERE number = ?1"

-- what the library understands by it
pub delete_record_is : command_of (understood whole delete_record) ≡ Delete 0 (record { lets = []; body = over_table 0 (same_column 0 0 ∷ []) (col 1 0 ∷ []) [] })
unfolding understood everything
delete_record_is = refl

-- it has no RETURNING and asks for no time
pub delete_record_plain : IsPlain (understood whole delete_record)
unfolding understood everything
delete_record_plain = (refl, refl)

-- the text that drops the queries of a name
abbrev pub delete_query : List ℕ
delete_query = codes "DELETE FROM queries WHERE name = ?1"

-- what the library understands by it
pub delete_query_is : command_of (understood whole delete_query) ≡ Delete 1 (record { lets = []; body = over_table 1 (same_column 2 0 ∷ []) (col 1 0 ∷ []) [] })
unfolding understood everything
delete_query_is = refl

-- it has no RETURNING and asks for no time
pub delete_query_plain : IsPlain (understood whole delete_query)
unfolding understood everything
delete_query_plain = (refl, refl)

-- the text that drops a cursor
abbrev pub delete_cursor : List ℕ
delete_cursor = codes "DELETE FROM cursors WHERE number = ?1"

-- what the library understands by it
pub delete_cursor_is : command_of (understood whole delete_cursor) ≡ Delete 2 (record { lets = []; body = over_table 3 (same_column 0 0 ∷ []) (col 1 0 ∷ []) [] })
unfolding understood everything
delete_cursor_is = refl

-- it has no RETURNING and asks for no time
pub delete_cursor_plain : IsPlain (understood whole delete_cursor)
unfolding understood everything
delete_cursor_plain = (refl, refl)

-- ---- upserts

-- the text that puts a record
abbrev pub put_record : List ℕ
put_record = codes "INSERT INTO records(number, text) VALUES (?1, ?2) ON CONFLICT(number) DO UPDATE SET text = excluded.text"

-- the terms of two parameters
abbrev pub two_terms : List Term
two_terms = col 0 0 ∷ lit Null ∷ col 0 1 ∷ []

-- the terms of three parameters
abbrev pub three_terms : List Term
three_terms = col 0 0 ∷ lit Null ∷ col 0 1 ∷ col 0 2 ∷ []

-- what the library understands by it
pub put_record_is : command_of (understood whole put_record)
    ≡ InsertOr 0 Abort (Values two_terms 3) (record {
      target = Some (0 ∷ []);
      update = Some (record {
        lets = [];
        body = over_table 0 (same_column 0 2 ∷ [])
            (col 1 0 ∷ col 1 0 ∷ lit Null ∷ col 0 5 ∷ []) [];
      });
    } ∷ [])
unfolding understood everything
put_record_is = refl

-- it has no RETURNING and asks for no time
pub put_record_plain : IsPlain (understood whole put_record)
unfolding understood everything
put_record_plain = (refl, refl)

-- the text that puts a query
abbrev pub put_query : List ℕ
put_query = codes "INSERT INTO queries(number, name, text) VALUES (?1, ?2, ?3) ON CONFLICT(number) DO UPDATE SET name = excluded.name, text = excluded.text"

-- what the library understands by it
pub put_query_is : command_of (understood whole put_query)
    ≡ InsertOr 1 Abort (Values three_terms 4) (record {
      target = Some (0 ∷ []);
      update = Some (record {
        lets = [];
        body = over_table 1 (same_column 0 3 ∷ [])
            (col 1 0 ∷ col 1 0 ∷ lit Null ∷ col 0 6 ∷ col 0 7 ∷ []) [];
      });
    } ∷ [])
unfolding understood everything
put_query_is = refl

-- it has no RETURNING and asks for no time
pub put_query_plain : IsPlain (understood whole put_query)
unfolding understood everything
put_query_plain = (refl, refl)

-- the text that puts a cursor
abbrev pub put_cursor : List ℕ
put_cursor = codes "INSERT INTO cursors(number, name, place) VALUES (?1, ?2, ?3) ON CONFLICT(number) DO UPDATE SET name = excluded.name, place = excluded.place"

-- what the library understands by it
pub put_cursor_is : command_of (understood whole put_cursor)
    ≡ InsertOr 2 Abort (Values three_terms 4) (record {
      target = Some (0 ∷ []);
      update = Some (record {
        lets = [];
        body = over_table 3 (same_column 0 3 ∷ [])
            (col 1 0 ∷ col 1 0 ∷ lit Null ∷ col 0 6 ∷ col 0 7 ∷ []) [];
      });
    } ∷ [])
unfolding understood everything
put_cursor_is = refl

-- it has no RETURNING and asks for no time
pub put_cursor_plain : IsPlain (understood whole put_cursor)
unfolding understood everything
put_cursor_plain = (refl, refl)

-- the text that raises a next number
abbrev pub raise_next : List ℕ
raise_next = codes "INSERT INTO nexts(which, value) VALUES (?1, ?2) ON CONFLICT(which) DO UPDATE SET value = excluded.value WHERE nexts.value < excluded.value"

-- what the library understands by it
pub raise_next_is : command_of (understood whole raise_next)
    ≡ InsertOr 3 Abort (Values two_terms 3) (record {
      target = Some (0 ∷ []);
      update = Some (record {
        lets = [];
        body = over_table 4
            (op2 (Compare Lt Binary) (col 1 2) (col 0 5) ∷ same_column 0 2 ∷ []) (col 1 0 ∷ col 1 0 ∷ lit Null ∷ col 0 5 ∷ []) [];
      });
    } ∷ [])
unfolding understood everything
raise_next_is = refl

-- it has no RETURNING and asks for no time
pub raise_next_plain : IsPlain (understood whole raise_next)
unfolding understood everything
raise_next_plain = (refl, refl)

-- ---- selections

-- the text that selects the records
abbrev pub select_records : List ℕ
select_records = codes "SELECT number, text FROM records ORDER BY number"

-- what the library understands by it
pub select_records_is : command_of (understood whole select_records) ≡ Select (record { lets = []; body = over_table 0 [] (col 1 0 ∷ col 1 2 ∷ []) by_rowid }) (codes "number" ∷ codes "text" ∷ [])
unfolding understood everything
select_records_is = refl

-- it doesn't read the schema's own table
pub select_records_unlisted : reads_listing whole select_records ≡ false
unfolding understood everything
select_records_unlisted = refl

-- it has no RETURNING and asks for no time
pub select_records_plain : IsPlain (understood whole select_records)
unfolding understood everything
select_records_plain = (refl, refl)

-- the text that selects the queries
abbrev pub select_queries : List ℕ
select_queries = codes "SELECT number, name, text FROM queries ORDER BY number"

-- what the library understands by it
pub select_queries_is : command_of (understood whole select_queries) ≡ Select (record { lets = []; body = over_table 1 [] (col 1 0 ∷ col 1 2 ∷ col 1 3 ∷ []) by_rowid })
    (codes "number" ∷ codes "name" ∷ codes "text" ∷ [])
unfolding understood everything
select_queries_is = refl

-- it doesn't read the schema's own table
pub select_queries_unlisted : reads_listing whole select_queries ≡ false
unfolding understood everything
select_queries_unlisted = refl

-- it has no RETURNING and asks for no time
pub select_queries_plain : IsPlain (understood whole select_queries)
unfolding understood everything
select_queries_plain = (refl, refl)

-- the text that selects the cursors
abbrev pub select_cursors : List ℕ
select_cursors = codes "SELECT number, name, place FROM cursors ORDER BY number"

-- what the library understands by it
pub select_cursors_is : command_of (understood whole select_cursors) ≡ Select (record { lets = []; body = over_table 3 [] (col 1 0 ∷ col 1 2 ∷ col 1 3 ∷ []) by_rowid })
    (codes "number" ∷ codes "name" ∷ codes "place" ∷ [])
unfolding understood everything
select_cursors_is = refl

-- it doesn't read the schema's own table
pub select_cursors_unlisted : reads_listing whole select_cursors ≡ false
unfolding understood everything
select_cursors_unlisted = refl

-- it has no RETURNING and asks for no time
pub select_cursors_plain : IsPlain (understood whole select_cursors)
unfolding understood everything
select_cursors_plain = (refl, refl)

-- the text that selects a next number
abbrev pub select_next : List ℕ
select_next = codes "SELECT value FROM nexts WHERE which = ?1"

-- what the library understands by it
pub select_next_is : command_of (understood whole select_next) ≡ Select (record { lets = []; body = over_table 4 (same_column 0 0 ∷ []) (col 1 2 ∷ []) [] }) (codes "value" ∷ [])
unfolding understood everything
select_next_is = refl

-- it doesn't read the schema's own table
pub select_next_unlisted : reads_listing whole select_next ≡ false
unfolding understood everything
select_next_unlisted = refl

-- it has no RETURNING and asks for no time
pub select_next_plain : IsPlain (understood whole select_next)
unfolding understood everything
select_next_plain = (refl, refl)
