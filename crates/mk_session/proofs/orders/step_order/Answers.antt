use Rattle.std.proofs.Common.{refl}
use Rattle.std.specs.Prelude.{codes}
use Rattle.mk_found.specs.Effects.{Refuses}
use Rattle.mk_session.proofs.orders.step_order.Goals as goal

pub returns-clause-stepped : goal.returns-clause-stepped
returns-clause-stepped g c =
    record { effect = Refuses (codes "refused 1 command\n"); comes = rw c.in-None.is refl; tables = refl; answer = c.in_ok-extend_from_slice-in-None.ensures.items; ends = refl }

pub returns-in-Some-clause-missed : goal.returns-in-Some-clause-missed
returns-in-Some-clause-missed g c = rw c.in-Some.is c.step.ensures.missed
