use Rattle.std.proofs.Common.{◌≡◌, take}
use Rattle.mk_outside.proofs.store.staged.Given as goal

abbrev pub invariant-loop-change : goal.invariant-loop-change
invariant-loop-change l = l.queue.items ≡ take l.change-index l.batch
