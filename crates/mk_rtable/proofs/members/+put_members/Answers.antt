use Rattle.std.proofs.Common.{rules, ◌≡◌, ◌∷◌, subst, All}
use Rattle.mk_rtable.specs.Members.{BearsRisingLabels, PutsMembers}
use Rattle.mk_rtable.proofs.MembersLemmas.{on_ok, puts_more}
use Rattle.mk_rtable.proofs.SlotLemmas.{labelled_first, labelled_others}
use Rattle.mk_rtable.proofs.members.+put_members.Goals as goal

pub put_member-requires : goal.put_member-requires
put_member-requires t c =
    let slots : c.args.slots.now ≡ c.in-Some.slot.now ∷ c.in-Some.others.now = search rules in
    labelled_first c.in-Some.slot.now c.in-Some.others.now (subst (All BearsRisingLabels) slots c.requires)

pub opened-requires-clause-labels : goal.opened-requires-clause-labels
opened-requires-clause-labels t c =
    let slots : c.args.slots.now ≡ c.in-Some.slot.now ∷ c.in-Some.others.now = search rules in
    labelled_first c.in-Some.slot.now c.in-Some.others.now (subst (All BearsRisingLabels) slots c.requires)

pub put_members-requires : goal.put_members-requires
put_members-requires t c =
    let slots : c.args.slots.now ≡ c.in-Some.slot.now ∷ c.in-Some.others.now = search rules in
    (search rules, labelled_others c.in-Some.slot.now c.in-Some.others.now (subst (All BearsRisingLabels) slots c.requires))

pub returns : goal.returns
returns t c =
    let query = c.args.query.now in
    let slot = c.in-Some.slot.now in
    let others = c.in-Some.others.now in
    let number = c.in-Some-split_first.number.now in
    let rest = c.in-Some-split_first.rest.now in
    let old = c.args.members.now.items in
    let now = c.put_member.new.members.items in
    let new = c.put_members.new.members.items in
    let behind = c.behind_choice-behind.result.now in
    let slots : c.args.slots.now ≡ slot ∷ others = search rules in
    let numbers : c.args.numbers.now ≡ number ∷ rest = search rules in
    let inside = rw c.opened.ensures.slots at c.behind_choice-behind.ensures.behind in
    record {
      put = rw (slots, numbers) (on_ok c.put_members.result (PutsMembers query others behind now new) (PutsMembers query (slot ∷ others) (number ∷ rest) old new)
          (λ puts. puts_more query slot others number rest behind old now new c.in_ok-put_member.ensures.put inside puts) c.put_members.ensures.put);
    }
