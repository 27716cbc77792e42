-- What some databases stand for, computed.
use Rattle.std.specs.Prelude.{◌≡◌, ℕ, nat_eq, ℤ, pos, List, [], ◌∷◌, if◌then◌else◌, codes, Some, None, refl}
use lib.Ieee.{is_nan, lt}
use Rattle.sqlite_value.specs.declared.value.Value.TheVariants.{Null, Int, Text, Blob}
use Rattle.sqlite_value.specs.Order.{Row, value_cmp}
use Rattle.sqlite_trees.specs.Tree.{Trees}
use Rattle.sqlite_schema.specs.declared.schema.Schema.{Schema}
use Rattle.sqlite.specs.Effect.{Database}
use Rattle.mk_outside.specs.declared.tables.Tables.{Tables}
use Rattle.mk_outside.specs.Tables.{no_tables}
use Rattle.mk_sqlite.specs.Layout.{Stage, no_table, two_tables, all_tables, schema_at, stage_of, nexts}
use Rattle.mk_sqlite.specs.Told.{tables_of}

-- a database with so many of the tables, and these rows in them
abbrev database : Stage → List Row → List Row → List Row → List Row → Database
database stage records queries cursors nexts = record {
  schema = schema_at stage;
  trees = λ tree. if nat_eq tree 0 then records else if nat_eq tree 1 then queries else if nat_eq tree 3 then cursors
      else if nat_eq tree 4 then nexts else [];
}

abbrev a_record : ℕ → Row
a_record number = Int (pos number) ∷ Null ∷ Blob (97 ∷ 98 ∷ []) ∷ []

abbrev a_query : ℕ → Row
a_query number = Int (pos number) ∷ Null ∷ Text (codes "q") ∷ Blob (116 ∷ []) ∷ []

abbrev a_cursor : ℕ → List ℕ → Row
a_cursor number place = Int (pos number) ∷ Null ∷ Text (codes "q") ∷ Blob place ∷ []

abbrev a_next : ℕ → ℕ → Row
a_next which value = Int (pos which) ∷ Null ∷ Int (pos value) ∷ []

-- without tables there are no rows, and both next numbers are 1
nothing_yet : tables_of (database no_table [] [] [] []) ≡ Some no_tables
unfolding tables_of stage_of
nothing_yet = refl

-- tables that aren't there have no rows, whatever else their trees hold
half_made : tables_of (database two_tables (a_record 3 ∷ []) [] (a_cursor 1 [] ∷ []) [])
    ≡ Some (record no_tables { records = record { number = 3; text = 97 ∷ 98 ∷ [] } ∷ [] })
unfolding tables_of stage_of
half_made = refl

-- a place is read four bytes a number, and a next number without a row is 1
all_made : tables_of (database all_tables [] (a_query 2 ∷ a_query 5 ∷ []) (a_cursor 7 (0 ∷ 0 ∷ 1 ∷ 2 ∷ 255 ∷ 255 ∷ 255 ∷ 255 ∷ []) ∷ []) (a_next 2 8 ∷ []))
    ≡ Some (record {
      records = [];
      queries = record { number = 2; name = codes "q"; text = 116 ∷ [] } ∷ record { number = 5; name = codes "q"; text = 116 ∷ [] } ∷ [];
      cursors = record { number = 7; name = codes "q"; place = 258 ∷ 4294967295 ∷ [] } ∷ [];
      next_record = 1;
      next_cursor = 8;
    })
unfolding tables_of stage_of value_cmp is_nan lt
all_made = refl

-- a number of 33 bits is none
past_its_range : tables_of (database all_tables (a_record 4294967296 ∷ []) [] [] []) ≡ None
unfolding tables_of stage_of
past_its_range = refl

-- five bytes are no place
odd_place : tables_of (database all_tables [] [] (a_cursor 1 (0 ∷ 0 ∷ 0 ∷ 1 ∷ 0 ∷ []) ∷ []) []) ≡ None
unfolding tables_of stage_of
odd_place = refl

-- a table that isn't one of these, or that was made in another order, ends the telling
other_order : tables_of (record { schema = record { tables = nexts ∷ []; indexes = []; views = [] }; trees = λ _. [] }) ≡ None
unfolding tables_of stage_of
other_order = refl
