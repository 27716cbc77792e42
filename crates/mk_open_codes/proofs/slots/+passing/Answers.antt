use Rattle.std.proofs.Common.{rules, ◌≡◌, ◌+◌, ◌≤◌, ◌<◌, ◌∙◌, inl, inr, length, get_or, arith}
use Rattle.mk_model.specs.Labels.{members_at}
use Rattle.mk_model.specs.Queries.{slots_of}
use Rattle.mk_layout.proofs.LaidLemmas.{slot_at}
use Rattle.mk_layout.proofs.SlotLemmas.{slots_read}
use Rattle.mk_open_codes.proofs.PassingLemmas.{labels_at, passes_all, passes_member, passes_more, passes_none, passes_one}
use Rattle.mk_open_codes.proofs.slots.+passing.Goals as goal

-- ---- slot after slot

pub behind_template-loop-slot-init : goal.behind_template-loop-slot-init
behind_template-loop-slot-init t c = (omega arith, passes_none c.args.query.now c.args.front.now c.args.at)

pub behind_template-behind_slot-requires : goal.behind_template-behind_slot-requires
behind_template-behind_slot-requires t c =
    let query = c.args.query.now in
    let k = c.loop-slot.slot-index in
    let slots = slots_read query c.args.t c.requires.there c.templates.result.now c.index-templates-t.result c.templates.ensures.list c.index-templates-t.is c.slots-slots.result.now
    c.slots-slots.ensures in
    let below : k < length (slots_of query c.args.t) = rw slots at c.loop-slot-test.true in
    let slot = slot_at c.slots-slots.result.now (slots_of query c.args.t) k c.slot-item.result slots c.loop-slot-test.true c.slot-item.is in
    (search rules, rw slot (labels_at query c.templates.ensures.kept c.args.t c.requires.there k below))

pub behind_template-loop-slot-preserved : goal.behind_template-loop-slot-preserved
behind_template-loop-slot-preserved t c =
    let query = c.args.query.now in
    let k = c.loop-slot.slot-index in
    let slots = slots_read query c.args.t c.requires.there c.templates.result.now c.index-templates-t.result c.templates.ensures.list c.index-templates-t.is c.slots-slots.result.now
    c.slots-slots.ensures in
    let below : k < length (slots_of query c.args.t) = rw slots at c.loop-slot-test.true in
    let slot = slot_at c.slots-slots.result.now (slots_of query c.args.t) k c.slot-item.result slots c.loop-slot-test.true c.slot-item.is in (
      omega (arith, c.in_ok-next.ensures.up, c.loop-slot.invariant.0),
      passes_more query (slots_of query c.args.t) k c.args.front.now c.args.at _ _ below c.loop-slot.invariant.1 (rw slot at c.in_ok-next.ensures.passes),
    )

pub behind_template-returns-clause-passes : goal.behind_template-returns-clause-passes
behind_template-returns-clause-passes t c =
    let query = c.args.query.now in
    let slots = slots_read query c.args.t c.requires.there c.templates.result.now c.index-templates-t.result c.templates.ensures.list c.index-templates-t.is c.slots-slots.result.now
    c.slots-slots.ensures in
    passes_all query (slots_of query c.args.t) c.loop-slot.slot-index c.args.front.now c.args.at _ (rw slots at c.loop-slot-test.false) c.loop-slot.invariant.1

-- ---- one slot

pub behind_slot-returns-then-number-eq0-clause-passes :
    goal.behind_slot-returns-then-number-eq0-clause-passes
behind_slot-returns-then-number-eq0-clause-passes t c = λ left choice rest is spelt.
    let none : get_or c.args.front.now c.args.at 0 ≡ 0 = omega (arith, c.number_in-number.ensures, c.if-number-eq0.true) in
    omega (arith, c.in-Some.ensures, passes_one c.args.query.now c.args.slot.now c.args.front.now c.args.at (inl none) left choice rest is spelt)

pub behind_slot-returns-then-number-count-clause-passes :
    goal.behind_slot-returns-then-number-count-clause-passes
behind_slot-returns-then-number-count-clause-passes t c = λ left choice rest is spelt.
    let above : length (members_at c.args.query.now c.args.slot.now) < get_or c.args.front.now c.args.at 0 =
    omega (arith, c.number_in-number.ensures, c.member_count-count.ensures.count, c.if-number-count.true) in
    omega (arith, c.in-Some.ensures, passes_one c.args.query.now c.args.slot.now c.args.front.now c.args.at (inr above) left choice rest is spelt)

pub behind_slot-returns-clause-passes : goal.behind_slot-returns-clause-passes
behind_slot-returns-clause-passes t c =
    let within : get_or c.args.front.now c.args.at 0 ≤ length (members_at c.args.query.now c.args.slot.now) =
    omega (arith, c.number_in-number.ensures, c.member_count-count.ensures.count, c.if-number-count.false) in
    let behind : c.in-Some.behind ≡ c.args.at + 1 = omega (arith, c.in-Some.ensures) in
    passes_member c.args.query.now c.args.slot.now c.args.front.now c.args.at _ (λ none. c.if-number-eq0.false (c.number_in-number.ensures ∙ none)) within
    (rw (c.member_at-member.ensures.member, c.number_in-number.ensures, behind) at c.in_ok-next.ensures.passes)
