use Rattle.std.proofs.Common.{ap, ◌∙◌}
use Rattle.mk_talk.specs.Frames.{ready_line}
use Rattle.mk_talk.proofs.HoldingLemmas.{ready_put, ready_unput}
use Rattle.mk_talk.proofs.holding.begin.Goals as goal

pub returns-in-Err-put-clause-ready : goal.returns-in-Err-put-clause-ready
returns-in-Err-put-clause-ready g c =
    ready_unput _ _ c.as_slice.result.now _ _ c.in-Err-put.status (c.as_slice.ensures.value ∙ c.in-Ok.ensures ∙ ap ready_line c.sizes.ensures) c.in-Err-put.ensures

pub returns-clause-ready : goal.returns-clause-ready
returns-clause-ready g c =
    ready_put _ _ _ c.as_slice.result.now _ _ _ c.talk_on.result (c.as_slice.ensures.value ∙ c.in-Ok.ensures ∙ ap ready_line c.sizes.ensures) c.in_default.ensures
    c.talk_on.ensures.goes_on
