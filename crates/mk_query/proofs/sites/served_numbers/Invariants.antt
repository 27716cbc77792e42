use Rattle.std.proofs.Common.{◌≡◌, length, take}
use Rattle.mk_query.specs.Marks.{AreServed}
use Rattle.mk_query.proofs.sites.served_numbers.Given as goal

abbrev pub invariant-loop-group : goal.invariant-loop-group
invariant-loop-group l = record { size : length l.served.items ≡ 256; are : AreServed (take l.group-index l.groups) l.served.items }
