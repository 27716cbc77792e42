use Rattle.std.proofs.Common.{◌≡◌, ◌+◌, ◌≤◌, length}
use Rattle.mk_outside.specs.Store.{record_puts}
use Rattle.mk_outside.specs.Tables.{after_batch}
use Rattle.mk_library.specs.Library.{tables_of}
use Rattle.mk_library.specs.Pending.{ArePrepared, InTurn, IsNumbered, KeepsLimits}
use Rattle.mk_library.proofs.library.Library.install.Given as goal

abbrev pub invariant-loop-change : goal.invariant-loop-change
invariant-loop-change l = record {
  prepared : ArePrepared l.changes.rest.items l.mols.rest.items;
  numbers : InTurn IsNumbered l.changes.rest.items (tables_of l.self);
  limits : InTurn KeepsLimits l.changes.rest.items (tables_of l.self);
  room : record_puts l.changes.rest.items ≤ l.self.spare;
  kept : l.initial.self.spare + record_puts l.changes.rest.items ≤ l.self.spare + record_puts l.initial.changes.rest.items;
  tables : after_batch l.changes.rest.items (tables_of l.self) ≡ after_batch l.initial.changes.rest.items (tables_of l.initial.self);
}

abbrev pub decreases-loop-change : goal.decreases-loop-change
decreases-loop-change l = length l.changes.rest.items
