use Rattle.std.proofs.Common.{◌≡◌, length, take}
use Rattle.mk_walk.proofs.walk.Walk.put_node.Given as goal

abbrev pub invariant-loop-i : goal.invariant-loop-i
invariant-loop-i l = record { size : length l.place.items ≡ length l.fn.place.items; put : take l.i l.place.items ≡ take l.i l.self.images.items }
