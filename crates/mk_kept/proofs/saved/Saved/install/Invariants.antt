use Rattle.std.proofs.Common.{◌≡◌, ◌≤◌, length}
use Rattle.mk_outside.specs.Store.{cursor_puts, query_puts}
use Rattle.mk_outside.specs.Tables.{after_batch}
use Rattle.mk_library.specs.Pending.{InTurn}
use Rattle.mk_kept.specs.Saved.{saved_tables}
use Rattle.mk_kept.specs.SavedPending.{AreReady, IsInPlace}
use Rattle.mk_kept.proofs.saved.Saved.install.Given as goal

abbrev pub invariant-loop-change : goal.invariant-loop-change
invariant-loop-change l = record {
  ready : AreReady l.changes.rest.items l.queries.rest.items;
  places : InTurn IsInPlace l.changes.rest.items (saved_tables l.self);
  queries_room : query_puts l.changes.rest.items ≤ l.self.query_room;
  cursors_room : cursor_puts l.changes.rest.items ≤ l.self.cursor_room;
  tables : after_batch l.changes.rest.items (saved_tables l.self) ≡ after_batch l.initial.changes.rest.items (saved_tables l.initial.self);
}

abbrev pub decreases-loop-change : goal.decreases-loop-change
decreases-loop-change l = length l.changes.rest.items
