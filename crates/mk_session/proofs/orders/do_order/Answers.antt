use Rattle.std.proofs.Common.{ap, ◌∙◌}
use Rattle.std.specs.Prelude.{Err}
use Rattle.mk_session.proofs.RunningLemmas.{step_stopped, answered, unanswered, unanswered_no_memory, put_whole, put_part, put_nothing}
use Rattle.mk_session.proofs.TurnLemmas.{misses_one}
use Rattle.mk_session.proofs.orders.do_order.Goals as goal

pub returns-in-Err-clause-turns : goal.returns-in-Err-clause-turns
returns-in-Err-clause-turns g c =
    step_stopped _ _ _ _ _ _ _ _ _ _ c.in-Err.fail c.from.result c.in-Err.ensures.counted c.in-Err.ensures.stepped.0 c.from.ensures

pub returns-in-Ok-put-clause-turns : goal.returns-in-Ok-put-clause-turns
returns-in-Ok-put-clause-turns g c =
    answered _ _ _ _ c.step_order.new.answer.items c.in-Ok.ended (rw c.new-answer.ensures.items at c.in-Ok.ensures.stepped) _ _ _ _ _ _ _ _ _
    (put_whole c.in-Ok-put.field-0 _ _ _ (rw c.as_slice.ensures.value at c.in-Ok-put.ensures.told)) c.is_refused.ensures c.in-Ok.ensures.counted.0 c.in-Ok-put.ensures.counted c.in-Ok.ensures.counted.1

pub returns-in-Err-Failed-clause-turns : goal.returns-in-Err-Failed-clause-turns
returns-in-Err-Failed-clause-turns g c =
    unanswered _ _ _ _ c.step_order.new.answer.items c.in-Ok.ended (rw c.new-answer.ensures.items at c.in-Ok.ensures.stepped) _ _ _ _ _ _ _ _
    (put_part c.put.result _ _ _ (c.in-Err-Failed.is ∙ ap Err c.in-Err-Failed.field-0-is) (rw c.as_slice.ensures.value at c.put.ensures.told))
    c.in-Ok.ensures.counted.0 (rw c.in-Err-Failed.field-0-is at c.in-Err-Failed.ensures.counted) c.in-Ok.ensures.counted.1

pub returns-clause-turns : goal.returns-clause-turns
returns-clause-turns g c =
    unanswered_no_memory _ _ _ _ c.step_order.new.answer.items c.in-Ok.ended (rw c.new-answer.ensures.items at c.in-Ok.ensures.stepped) _ _ _ _ _ _ _ _
    (put_nothing c.put.result _ _ _ (c.in-Err-Memory.is ∙ ap Err c.in-Err-Memory.field-0-is) c.put.ensures.told)
    c.in-Ok.ensures.counted.0 (rw c.in-Err-Memory.field-0-is at c.in-Err-Memory.ensures.counted) c.in-Ok.ensures.counted.1

pub returns-in-Err-clause-missed : goal.returns-in-Err-clause-missed
returns-in-Err-clause-missed g c = misses_one _ _ _ _ _ c.step_order.ensures.missed

pub returns-in-Ok-put-clause-missed : goal.returns-in-Ok-put-clause-missed
returns-in-Ok-put-clause-missed g c = misses_one _ _ _ _ _ c.step_order.ensures.missed

pub returns-in-Err-Failed-clause-missed : goal.returns-in-Err-Failed-clause-missed
returns-in-Err-Failed-clause-missed g c = misses_one _ _ _ _ _ c.step_order.ensures.missed

pub returns-clause-missed : goal.returns-clause-missed
returns-clause-missed g c = misses_one _ _ _ _ _ c.step_order.ensures.missed
