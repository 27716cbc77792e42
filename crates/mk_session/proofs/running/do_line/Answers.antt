use Rattle.std.proofs.Common.{None, Some, refl}
use Rattle.mk_session.specs.Orders.{orders_of_line}
use Rattle.mk_session.proofs.RunningLemmas.{line_no_memory}
use Rattle.mk_session.proofs.TurnLemmas.{line_misses, same_misses}
use Rattle.mk_session.proofs.running.do_line.Goals as goal

pub returns-in-Err-clause-turns : goal.returns-in-Err-clause-turns
returns-in-Err-clause-turns g c = line_no_memory _ _ (orders_of_line c.args.line.now) _ _

pub returns-in-Err-clause-missed : goal.returns-in-Err-clause-missed
returns-in-Err-clause-missed g c = same_misses _ _ (orders_of_line c.args.line.now) _

pub returns-in-Ok-NoCommand-clause-missed : goal.returns-in-Ok-NoCommand-clause-missed
returns-in-Ok-NoCommand-clause-missed g c =
    line_misses _ _ c.args.line.now None _ _ _ (rw c.in-Ok-NoCommand.field-0-is at c.in-Ok-NoCommand.ensures.kind) refl c.do_order.ensures.missed

pub returns-in-Ok-Is-clause-missed : goal.returns-in-Ok-Is-clause-missed
returns-in-Ok-Is-clause-missed g c =
    line_misses _ _ c.args.line.now (Some c.in-Ok-Is.command) _ _ _ (rw c.in-Ok-Is.field-0-is at c.in-Ok-Is.ensures.kind) refl c.do_order-in-Ok-Is.ensures.missed
