use Rattle.std.proofs.Common.{drop}
use Rattle.mk_query.specs.SlotMarks.{AreOrdered}
use Rattle.mk_query.proofs.site_orders.put_orders.Given as goal

abbrev pub invariant-loop-i : goal.invariant-loop-i
invariant-loop-i l = AreOrdered (drop l.i l.props) l.fn.ends.items l.ends.items
