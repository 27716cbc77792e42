use Rattle.std.specs.List.{list_any}
use Rattle.mk_model.specs.Labels.{bears_label}
use Rattle.mk_model.specs.Queries.{slots_of}
use Rattle.mk_query.proofs.RecursionLemmas.{also_all, also_more, also_none}
use Rattle.mk_query.proofs.recursion.asked_by.Goals as goal

pub loop-i-init : goal.loop-i-init
loop-i-init c = also_none (λ h u. list_any (λ slot. bears_label slot h) (slots_of c.args.draft.now u)) c.members-members.result.now 0

pub loop-i-preserved : goal.loop-i-preserved
loop-i-preserved c =
    also_more (λ h u. list_any (λ slot. bears_label slot h) (slots_of c.args.draft.now u)) c.members-members.result.now 0 c.loop-i.i c.loop-i.all c.with_slots-all.result 0 c.loop-i-test.true
    (rw c.slots.ensures.list at c.with_slots-all.ensures) c.loop-i.invariant

pub returns : goal.returns
returns c =
    rw c.members-members.ensures.list
    at (also_all (λ h u. list_any (λ slot. bears_label slot h) (slots_of c.args.draft.now u)) c.members-members.result.now 0 c.loop-i.i c.loop-i.all c.loop-i-test.false c.loop-i.invariant)
