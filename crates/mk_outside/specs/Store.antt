-- Tables as the vectors of their rows, whose room is known. This file serves code alone.
--     tables_of parts                  the tables that the parts are of
--     HasRoom batch parts              there is room for all rows that the batch puts
--     AreWithin parts                  no row has a number above its kind's bound
use Rattle.std.specs.Prelude.{ℕ, ◌+◌, ◌≤◌, List, [], ◌∷◌, vec_len, vec_capacity}
use Rattle.mk_outside.specs.declared.tables.Tables.{Tables}
use Rattle.mk_outside.specs.declared.tables.Change.{Change}
use Rattle.mk_outside.specs.declared.tables.Change.TheVariants.{PutRecord, PutQuery, PutCursor}
use Rattle.mk_outside.specs.declared.store.Parts.{Parts}
use Rattle.mk_outside.specs.Rows.{IsWithin}
use Rattle.mk_outside.specs.Tables.{record_number, query_number, cursor_number}

-- the tables that the parts are of
abbrev pub tables_of : Parts → Tables
tables_of p = record {
  records = p.records.rows.items;
  queries = p.queries.rows.items;
  cursors = p.cursors.rows.items;
  next_record = p.next_record;
  next_cursor = p.next_cursor;
}

-- how many records the batch puts
abbrev pub record_puts : List Change → ℕ
record_puts [] = 0
record_puts (PutRecord number text ∷ batch) = record_puts batch + 1
record_puts (change ∷ batch) = record_puts batch

-- how many queries the batch puts
abbrev pub query_puts : List Change → ℕ
query_puts [] = 0
query_puts (PutQuery number name text ∷ batch) = query_puts batch + 1
query_puts (change ∷ batch) = query_puts batch

-- how many cursors the batch puts
abbrev pub cursor_puts : List Change → ℕ
cursor_puts [] = 0
cursor_puts (PutCursor number name place ∷ batch) = cursor_puts batch + 1
cursor_puts (change ∷ batch) = cursor_puts batch

-- there is room for all rows that the batch puts
pub record HasRoom (batch : List Change) (p : Parts) : Type 0 where
  pub records : vec_len p.records.rows + record_puts batch ≤ vec_capacity p.records.rows
  pub queries : vec_len p.queries.rows + query_puts batch ≤ vec_capacity p.queries.rows
  pub cursors : vec_len p.cursors.rows + cursor_puts batch ≤ vec_capacity p.cursors.rows

-- no row has a number above its kind's bound
pub record AreWithin (p : Parts) : Type 0 where
  pub records : IsWithin record_number p.records
  pub queries : IsWithin query_number p.queries
  pub cursors : IsWithin cursor_number p.cursors
