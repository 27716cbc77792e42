use Rattle.std.proofs.Common.{◌≡◌, ◌≤◌, ◌+◌, drop}
use Rattle.mk_outside.specs.Store.{record_puts, query_puts, cursor_puts}
use Rattle.mk_outside.proofs.store.puts_of.Given as goal

abbrev pub invariant-loop-change : goal.invariant-loop-change
invariant-loop-change l = record {
  few_records : l.puts.records ≤ l.change-index;
  few_queries : l.puts.queries ≤ l.change-index;
  few_cursors : l.puts.cursors ≤ l.change-index;
  records : record_puts l.batch ≡ l.puts.records + record_puts (drop l.change-index l.batch);
  queries : query_puts l.batch ≡ l.puts.queries + query_puts (drop l.change-index l.batch);
  cursors : cursor_puts l.batch ≡ l.puts.cursors + cursor_puts (drop l.change-index l.batch);
}
