use Rattle.std.proofs.Common.{◌∙◌}
use Rattle.mk_talk.proofs.HoldingLemmas.{bad_row, bad_store, open_no_memory, opened, unloaded}
use Rattle.mk_talk.proofs.holding.open.Goals as goal

pub returns-in-Ok-clause-speaks : goal.returns-in-Ok-clause-speaks
returns-in-Ok-clause-speaks g c =
    opened _ _ _ _ _ _ _ _ _ _ _ _ _ _ _ c.begin-in-Ok.result c.begin-in-Ok.ensures.sound c.in-Ok.ensures.begun.0 c.in-Ok.ensures.begun.1 c.in-Ok.ensures.counted
    c.begin-in-Ok.ensures.kept c.begin-in-Ok.ensures.ready

pub returns-in-Err-Store-clause-speaks : goal.returns-in-Err-Store-clause-speaks
returns-in-Err-Store-clause-speaks g c =
    unloaded _ _ _ _ _ _ _ _ (rw c.in-Err-Store.field-0-is at c.in-Err-Store.ensures.begun) (rw c.in-Err-Store.field-0-is at c.in-Err-Store.ensures.counted)

pub returns-in-Err-Memory-clause-speaks : goal.returns-in-Err-Memory-clause-speaks
returns-in-Err-Memory-clause-speaks g c =
    open_no_memory _ _ _ _ _ _ _ _ (rw c.in-Err-Memory.field-0-is at c.in-Err-Memory.ensures.begun) (rw c.in-Err-Memory.field-0-is at c.in-Err-Memory.ensures.counted)

pub returns-in-Err-clause-speaks : goal.returns-in-Err-clause-speaks
returns-in-Err-clause-speaks g c =
    open_no_memory _ _ _ _ _ _ _ _
    (bad_row _ _ _ c.in-Err-BadStore.kind c.in-Err-BadStore.number (rw c.in-Err-BadStore.field-0-is at c.in-Err-BadStore.ensures.begun))
    (rw c.in-Err-BadStore.field-0-is at c.in-Err-BadStore.ensures.counted)

pub returns-in-Ok-bad_store_line-clause-speaks : goal.returns-in-Ok-bad_store_line-clause-speaks
returns-in-Ok-bad_store_line-clause-speaks g c =
    bad_store _ _ _ _ _ _ _ _ _ c.in-Err-BadStore.kind c.in-Err-BadStore.number c.as_slice.result.now c.say.result
    (rw c.in-Err-BadStore.field-0-is at c.in-Err-BadStore.ensures.begun) (rw c.in-Err-BadStore.field-0-is at c.in-Err-BadStore.ensures.counted)
    (c.as_slice.ensures.value ∙ c.in-Ok-bad_store_line.ensures) c.say.ensures
