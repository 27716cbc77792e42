use Rattle.std.proofs.Common.{◌≡◌, length, All}
use Rattle.mk_outside.specs.Tables.{after_batch, CanKeep}
use Rattle.mk_outside.specs.Store.{tables_of, HasRoom, AreWithin}
use Rattle.mk_outside.proofs.store.Parts.change_all.Given as goal

abbrev pub invariant-loop-change : goal.invariant-loop-change
invariant-loop-change l = record {
  can : All CanKeep l.batch.items;
  within : AreWithin l.self;
  room : HasRoom l.batch.items l.self;
  tables : after_batch l.batch.items (tables_of l.self) ≡ after_batch l.initial.batch.items (tables_of l.initial.self);
}

abbrev pub decreases-loop-change : goal.decreases-loop-change
decreases-loop-change l = length l.batch.items
