use Rattle.std.proofs.Common.{rules, ◌≡◌, ◌∷◌, subst, All}
use Rattle.mk_rtable.specs.Members.{BearsRisingLabels}
use Rattle.mk_rtable.proofs.MembersLemmas.{behind_more}
use Rattle.mk_rtable.proofs.SlotLemmas.{labelled_first, labelled_others}
use Rattle.mk_rtable.proofs.members.+behind_choice.Goals as goal

pub opened-requires-clause-labels : goal.opened-requires-clause-labels
opened-requires-clause-labels t c =
    let slots : c.args.slots.now ≡ c.in-Some.slot.now ∷ c.in-Some.others.now = search rules in
    labelled_first c.in-Some.slot.now c.in-Some.others.now (subst (All BearsRisingLabels) slots c.requires)

pub behind_choice-requires : goal.behind_choice-requires
behind_choice-requires t c =
    let slots : c.args.slots.now ≡ c.in-Some.slot.now ∷ c.in-Some.others.now = search rules in
    (search rules, labelled_others c.in-Some.slot.now c.in-Some.others.now (subst (All BearsRisingLabels) slots c.requires))

pub returns-clause-behind : goal.returns-clause-behind
returns-clause-behind t c =
    let slot = c.in-Some.slot.now in
    let number = c.in-Some-split_first.number.now in
    let slots : c.args.slots.now ≡ slot ∷ c.in-Some.others.now = search rules in
    let numbers : c.args.numbers.now ≡ number ∷ c.in-Some-split_first.rest.now = search rules in
    let inside = rw c.opened.ensures.slots at c.behind_choice-inside.ensures.behind in
    rw (slots, numbers)
    (behind_more c.args.query.now slot c.in-Some.others.now number c.in-Some-split_first.rest.now c.behind_choice-inside.result.now c.behind_choice.result.now inside c.behind_choice.ensures.behind)
