use Rattle.std.proofs.Common.{◌≡◌, map, take}
use Rattle.mk_query.specs.SlotMarks.{ends_near}
use Rattle.mk_query.proofs.site_orders.ends_of.Given as goal

abbrev pub invariant-loop-one : goal.invariant-loop-one
invariant-loop-one l = l.ends.items ≡ map ends_near (take l.one-index l.near)
