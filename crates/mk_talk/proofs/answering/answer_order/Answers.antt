use Rattle.std.proofs.Common.{refl, ◌∙◌}
use Rattle.mk_talk.specs.Answers.{Came, CameNoMemory, CameUnread}
use Rattle.mk_talk.proofs.SpeakingLemmas.{no_memory_frame, put_goes, same_held, step_done, step_frame, step_unread, to_end, uncommitted, unread_frame}
use Rattle.mk_talk.proofs.answering.answer_order.Goals as goal

pub returns-in-Err-clause-goes : goal.returns-in-Err-clause-goes
returns-in-Err-clause-goes g c = put_goes _ _ _ c.args.order.now CameNoMemory _ _ _ c.put.result refl no_memory_frame c.put.ensures

pub returns-in-Ok-step_order-clause-goes : goal.returns-in-Ok-step_order-clause-goes
returns-in-Ok-step_order-clause-goes g c =
    let done = c.in-Ok-step_order.ensures.stepped in
    let counts = c.in-Ok-step_order.ensures.counted in
    put_goes _ _ _ c.args.order.now (Came done.effect) _ _ _ c.put-in-Ok-step_order.result
    (step_done _ _ _ _ _ _ _ done _ _ _ _ counts.0 counts.1)
    (step_frame _ _ _ _ _ _ _ done _ c.in-Ok.ensures
    (rw c.as_slice.ensures.value (to_end c.put_head-from.result c.put_head-from.new.bytes.items ∙ c.put_head-from.ensures.frame)))
    c.put-in-Ok-step_order.ensures

pub returns-in-Err-Read-clause-goes : goal.returns-in-Err-Read-clause-goes
returns-in-Err-Read-clause-goes g c =
    let counts = rw c.in-Err-Read.field-0-is at c.in-Err-Read.ensures.counted in
    put_goes _ _ _ c.args.order.now CameUnread _ _ _ c.put-in-Err-Read.result
    (step_unread _ _ _ _ _ _ _ _ counts.0 counts.1 counts.2 c.in-Err-Read.ensures.stepped.0) unread_frame c.put-in-Err-Read.ensures

pub returns-in-Err-Memory-clause-goes : goal.returns-in-Err-Memory-clause-goes
returns-in-Err-Memory-clause-goes g c =
    let counts = rw c.in-Err-Memory.field-0-is at c.in-Err-Memory.ensures.counted in
    put_goes _ _ _ c.args.order.now CameNoMemory _ _ _ c.put-in-Err-Memory.result
    (same_held _ _ _ _ _ _ c.in-Err-Memory.ensures.stepped.0 counts.0 counts.1) no_memory_frame c.put-in-Err-Memory.ensures

pub returns-clause-goes : goal.returns-clause-goes
returns-clause-goes g c =
    let counts = rw c.in-Err-Store.field-0-is at c.in-Err-Store.ensures.counted in
    uncommitted _ _ _ _ _ _ _ c.args.order.now _ counts.0 counts.1 counts.2 c.in-Err-Store.ensures.stepped.0
