use Rattle.mk_choice.proofs.AheadLemmas.{slot_ahead}
use Rattle.mk_choice.proofs.outlook.with_slot.Goals as goal

pub returns-clause-ahead : goal.returns-clause-ahead
returns-clause-ahead c = λ slots few is.
    slot_ahead c.args.most.now c.args.slot.now c.labels-labels.result.now c.labels-labels.ensures c.args.ahead c.more_each.result c.raised.result slots
    c.requires.capped c.more_each.ensures.more c.raised.ensures.more few is
