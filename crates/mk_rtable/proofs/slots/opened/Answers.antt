use Rattle.mk_rtable.proofs.SlotLemmas.{slots_labelled}
use Rattle.mk_rtable.proofs.slots.opened.Goals as goal

pub returns-clause-labels : goal.returns-clause-labels
returns-clause-labels c = rw c.slots_of.ensures.slots (slots_labelled c.args.query.now c.slots_of.ensures.kept c.member_at.result)
