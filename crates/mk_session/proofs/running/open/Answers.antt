use Rattle.std.proofs.Common.{◌∙◌}
use Rattle.mk_session.proofs.RunningLemmas.{unloaded, no_memory, bad_row, other_status, said_unread}
use Rattle.mk_session.proofs.running.open.Goals as goal

pub returns-in-Err-Store-clause-opens : goal.returns-in-Err-Store-clause-opens
returns-in-Err-Store-clause-opens g c = λ files count missed orders.
    unloaded _ files orders _ _ _ count _ _ _ missed (rw c.in-Err-Store.field-0-is at c.in-Err-Store.ensures.begun) (rw c.in-Err-Store.field-0-is at c.in-Err-Store.ensures.counted)

pub returns-in-Err-Memory-clause-opens : goal.returns-in-Err-Memory-clause-opens
returns-in-Err-Memory-clause-opens g c = λ files count missed orders.
    no_memory _ files _ _ _ _ count _ _ _ missed (rw c.in-Err-Memory.field-0-is at c.in-Err-Memory.ensures.begun) (rw c.in-Err-Memory.field-0-is at c.in-Err-Memory.ensures.counted)

pub returns-in-Ok-bad_store_line-clause-opens : goal.returns-in-Ok-bad_store_line-clause-opens
returns-in-Ok-bad_store_line-clause-opens g c = λ files count missed orders.
    bad_row _ files orders _ _ c.in-Err-BadStore.kind c.in-Err-BadStore.number c.as_slice.result.now _ _ count _ _ _ _
    missed _ (rw c.in-Err-BadStore.field-0-is at c.in-Err-BadStore.ensures.begun)
    (c.as_slice.ensures.value ∙ c.in-Ok-bad_store_line.ensures) c.say.ensures
    (rw c.in-Err-BadStore.field-0-is at c.in-Err-BadStore.ensures.counted)

pub returns-in-Ok-bad_store_line-clause-unread : goal.returns-in-Ok-bad_store_line-clause-unread
returns-in-Ok-bad_store_line-clause-unread g c = other_status _ _ c.say.result (said_unread _ _ _ _ _ c.say.result (λ e. cc) c.say.ensures.said)
