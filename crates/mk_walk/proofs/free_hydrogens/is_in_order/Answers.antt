use Rattle.std.proofs.Common.{refl}
use Rattle.mk_walk.proofs.free_hydrogens.is_in_order.Goals as goal

pub returns : goal.returns
returns c = (
  λ is. record { above = c.if-not-is_above.ensures.0 refl; free = c.is_due_met.ensures.0 is },
  λ met. c.is_due_met.ensures.1 met.free,
)
