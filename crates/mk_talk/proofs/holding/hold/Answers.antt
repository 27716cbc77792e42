use Rattle.std.proofs.Common.{sym, ◌∙◌}
use Rattle.mk_talk.proofs.HoldingLemmas.{held, not_understood, other_kind, session_kind, words_no_memory}
use Rattle.mk_talk.proofs.holding.hold.Goals as goal

pub returns-in-Err-clause-speaks : goal.returns-in-Err-clause-speaks
returns-in-Err-clause-speaks g c = words_no_memory _ _ _ _ _ _ _

pub returns-in-Ok-true-clause-speaks : goal.returns-in-Ok-true-clause-speaks
returns-in-Ok-true-clause-speaks g c =
    held _ _ _ _ _ _ _ _ _ _ _ c.open.result (session_kind _ (sym c.in-Ok-true.field-0-test ∙ c.in-Ok-true.ensures)) c.open.ensures.speaks

pub returns-in-Ok-false-clause-speaks : goal.returns-in-Ok-false-clause-speaks
returns-in-Ok-false-clause-speaks g c =
    not_understood _ _ _ _ _ _ _ _ c.say.result (other_kind _ (sym c.in-Ok-false.field-0-test ∙ c.in-Ok-false.ensures)) c.say.ensures
