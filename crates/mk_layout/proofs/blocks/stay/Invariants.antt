use Rattle.std.proofs.Common.{◌≡◌, drop}
use Rattle.mk_layout.specs.Blocks.{stay}
use Rattle.mk_layout.proofs.blocks.stay.Given as goal

abbrev pub invariant-loop-slot : goal.invariant-loop-slot
invariant-loop-slot l = stay (drop l.slot-index l.slots) l.bond ≡ stay l.slots l.bond
