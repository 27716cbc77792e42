-- How much tables hold.
--     sizes_of t      how many rows of each kind, and the numbers that come next
use Rattle.std.specs.Prelude.{length}
use Rattle.mk_outside.specs.declared.tables.Tables.{Tables}
use Rattle.mk_session.specs.declared.sizes.Sizes.{Sizes}

-- how many records, queries and saved searches there are, and the numbers that come next
abbrev pub sizes_of : Tables → Sizes
sizes_of t = record {
  records = length t.records;
  queries = length t.queries;
  cursors = length t.cursors;
  next_record = t.next_record;
  next_cursor = t.next_cursor;
}
