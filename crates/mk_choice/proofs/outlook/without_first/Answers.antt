use Rattle.mk_choice.proofs.AheadLemmas.{behind_ahead}
use Rattle.mk_choice.proofs.outlook.without_first.Goals as goal

pub returns-clause-ahead : goal.returns-clause-ahead
returns-clause-ahead c = λ slots is.
    behind_ahead c.args.most.now c.args.slot.now c.labels-labels.result.now c.labels-labels.ensures c.args.ahead c.less_each.result c.lowered.result slots
    c.less_each.ensures.less c.lowered.ensures.less is
