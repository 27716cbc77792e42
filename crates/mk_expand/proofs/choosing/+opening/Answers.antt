use Rattle.std.proofs.Common.{rules, ◌∙◌, ◌<◌, length, get_or, arith}
use Rattle.std.proofs.lemmas.List.{get_or_default}
use Rattle.mk_model.specs.declared.template.Slot.TheVariants.{Link}
use Rattle.mk_expand.specs.OpenGraphs.{open_expansion}
use Rattle.mk_model.specs.Labels.{members_at}
use Rattle.mk_model.specs.Queries.{slots_of}
use Rattle.mk_expand.proofs.ChosenLemmas.{left_none, left_begins, left_more, left_all}
use Rattle.mk_layout.proofs.SlotLemmas.{filled_small, is_within, member_small, slots_read, template_read}
use Rattle.mk_layout.proofs.LaidLemmas.{slot_at}
use Rattle.mk_expand.proofs.SlotLemmas.{slot_there, link_chosen, undecided_chosen, vacant_chosen, member_begins, member_chosen}
use Rattle.mk_expand.proofs.StandLemmas.{open_room}
use Rattle.mk_pieces.proofs.ForCallers.{kept_template}
use Rattle.mk_expand.proofs.choosing.+opening.Goals as goal

-- ---- slot after slot

pub open_chosen-loop-slot-init : goal.open_chosen-loop-slot-init
open_chosen-loop-slot-init t c = (omega arith, c.requires.at, rw c.in_ok-pieces.ensures.items (left_none c.args.query.now (slots_of c.args.query.now c.args.t) _ c.requires.begins))

pub open_chosen-open_chosen_at-requires : goal.open_chosen-open_chosen_at-requires
open_chosen-open_chosen_at-requires t c =
    let query = c.args.query.now in
    let k = c.loop-slot.slot-index in
    let slots = slots_read query c.args.t c.requires.small.there c.templates.result.now c.index-templates-t.result c.templates.ensures.list c.index-templates-t.is c.slots-slots.result.now
    c.slots-slots.ensures in
    let below : k < length (slots_of query c.args.t) = rw slots at c.loop-slot-test.true in
    let small = filled_small query c.requires.kept c.args.t c.requires.small (get_or (slots_of query c.args.t) k (Link 0 0 0 0)) (k, below, get_or_default (slots_of query c.args.t) k _ _ below) in
    let begins = left_begins query (slots_of query c.args.t) k _ _ _ _ (Link 0 0 0 0) below c.loop-slot.invariant.2 in
    let slot = slot_at c.slots-slots.result.now (slots_of query c.args.t) k c.slot-item.result slots c.loop-slot-test.true c.slot-item.is in
    (search rules, (c.requires.kept, (rw slot small, (c.loop-slot.invariant.1, rw slot begins))))

pub open_chosen-loop-slot-preserved : goal.open_chosen-loop-slot-preserved
open_chosen-loop-slot-preserved t c =
    let query = c.args.query.now in
    let k = c.loop-slot.slot-index in
    let slots = slots_read query c.args.t c.requires.small.there c.templates.result.now c.index-templates-t.result c.templates.ensures.list c.index-templates-t.is c.slots-slots.result.now
    c.slots-slots.ensures in
    let below : k < length (slots_of query c.args.t) = rw slots at c.loop-slot-test.true in
    let slot = slot_at c.slots-slots.result.now (slots_of query c.args.t) k c.slot-item.result slots c.loop-slot-test.true c.slot-item.is in (
      omega (arith, c.in_ok-piece.ensures.within, c.loop-slot.invariant.0),
      c.in_ok-piece.ensures.within.1,
      rw (c.in_ok-push.ensures.items, c.both-one_ended.ensures)
          (left_more query (slots_of query c.args.t) k _ _ _ _ (Link 0 0 0 0) below c.loop-slot.invariant.2 _ _ _ (rw slot at c.in_ok-piece.ensures.are)),
    )

pub open_chosen-returns-clause-are : goal.open_chosen-returns-clause-are
open_chosen-returns-clause-are t c =
    let query = c.args.query.now in
    let slots = slots_read query c.args.t c.requires.small.there c.templates.result.now c.index-templates-t.result c.templates.ensures.list c.index-templates-t.is c.slots-slots.result.now
    c.slots-slots.ensures in
    left_all query (slots_of query c.args.t) c.loop-slot.slot-index _ _ _ _ (rw slots at c.loop-slot-test.false) c.loop-slot.invariant.2

-- ---- one slot

pub open_chosen_at-member_at-member-requires : goal.open_chosen_at-member_at-member-requires
open_chosen_at-member_at-member-requires t c =
    let within = is_within c.args.query.now c.args.slot.now _ _ c.member_count-count.ensures.count c.if-number-count.true in
    record {
      labels = c.requires.small.labels;
      least = (member_begins c.args.query.now _ _ _ _ c.args.code.now c.args.at (rw c.in-Site.is at c.requires.begins) c.if-number-eq0.false (rw c.in-Site.is at within)).0;
      most = within;
    }

pub open_chosen_at-opened_by-requires : goal.open_chosen_at-opened_by-requires
open_chosen_at-opened_by-requires t c =
    let query = c.args.query.now in
    let code = c.args.code.now in
    let at = c.args.at in
    let within = is_within query c.args.slot.now _ _ c.member_count-count.ensures.count c.if-number-count.true in
    let member = member_begins query _ _ _ _ code at (rw c.in-Site.is at c.requires.begins) c.if-number-eq0.false (rw c.in-Site.is at within) in
    let there : at < length code = slot_there query c.args.slot.now code at c.requires.begins in (
      search rules,
      (
        c.requires.kept,
        (
          rw c.member_at-member.ensures.member (member_small query c.args.slot.now (get_or code at 0) c.requires.small member.0 within),
          (omega (arith, there), rw (c.member_at-member.ensures.member, c.in-Site.is) member.1),
        ),
      ),
    )

pub open_chosen_at-returns-then-number-count-clause-within :
    goal.open_chosen_at-returns-then-number-count-clause-within
open_chosen_at-returns-then-number-count-clause-within t c = (omega (arith, c.in_ok-part-in-Site.ensures.within), c.in_ok-part-in-Site.ensures.within.1)

pub open_chosen_at-returns-then-number-count-clause-are :
    goal.open_chosen_at-returns-then-number-count-clause-are
open_chosen_at-returns-then-number-count-clause-are t c =
    let within = is_within c.args.query.now c.args.slot.now _ _ c.member_count-count.ensures.count c.if-number-count.true in
    rw (c.in-Site.is, c.of-then-number-count.ensures)
    (member_chosen c.args.query.now _ _ _ _ c.args.code.now c.args.at (rw c.in-Site.is at c.requires.begins) c.if-number-eq0.false (rw c.in-Site.is at within)
    c.in_ok-part-in-Site.read.behind c.in_ok-part-in-Site.part c.in_ok-part-in-Site.read.one_ended (rw (c.member_at-member.ensures.member, c.in-Site.is) at c.in_ok-part-in-Site.ensures.is))

pub open_chosen_at-returns-in-Link-clause-are : goal.open_chosen_at-returns-in-Link-clause-are
open_chosen_at-returns-in-Link-clause-are t c =
    rw (c.in-Link.is, c.of-in-Link.ensures, c.decided.ensures.behind, c.decided.ensures.one_ended)
    (link_chosen c.args.query.now c.in-Link.atom c.in-Link.most c.in-Link.from c.in-Link.to c.args.code.now c.args.at
    (rw c.in-Link.is at c.requires.begins) c.if-number-eq0.false)

pub open_chosen_at-returns-else-number-count-clause-are :
    goal.open_chosen_at-returns-else-number-count-clause-are
open_chosen_at-returns-else-number-count-clause-are t c =
    let above : length (members_at c.args.query.now c.args.slot.now) < get_or c.args.code.now c.args.at 0 = omega (arith, c.member_count-count.ensures.count, c.if-number-count.false) in
    rw (c.decided-in-Site.ensures.behind, c.decided-in-Site.ensures.one_ended, c.left_open.ensures, c.draws_rest_hydrogens-rest.ensures, c.in-Site.is)
    (vacant_chosen c.args.query.now _ _ _ _ c.args.code.now c.args.at (rw c.in-Site.is at c.requires.begins) (rw c.in-Site.is at above))

-- ---- a template

pub opened_by-opened-requires-clause-template : goal.opened_by-opened-requires-clause-template
opened_by-opened-requires-clause-template t c =
    let query = c.args.query.now in
    let template = template_read query c.args.t c.requires.small.there c.templates.result.now c.index-templates-t.result c.templates.ensures.list c.index-templates-t.is in
    rw template (kept_template query c.requires.kept c.args.t c.requires.small.there)

pub opened_by-opened-requires-clause-pieces : goal.opened_by-opened-requires-clause-pieces
opened_by-opened-requires-clause-pieces t c =
    let query = c.args.query.now in
    let template = template_read query c.args.t c.requires.small.there c.templates.result.now c.index-templates-t.result c.templates.ensures.list c.index-templates-t.is in
    let chosen = c.in_ok-pieces.ensures.are in
    rw (template, c.deref.ensures.value, chosen.are) (open_room query c.requires.kept c.args.t c.requires.small chosen.choice chosen.made)

pub opened_by-returns-clause-is : goal.opened_by-returns-clause-is
unfolding open_expansion
opened_by-returns-clause-is t c =
    let query = c.args.query.now in
    let template = template_read query c.args.t c.requires.small.there c.templates.result.now c.index-templates-t.result c.templates.ensures.list c.index-templates-t.is in
    let chosen = c.in_ok-pieces.ensures.are in
    let pieces = c.deref.ensures.value ∙ chosen.are in
    record { choice = chosen.choice; made = chosen.made; spelt = chosen.spelt; is = rw (template, pieces) at c.in_ok-part.ensures; ends = chosen.ends }

pub open_chosen_at-returns-then-number-eq0-clause-are :
    goal.open_chosen_at-returns-then-number-eq0-clause-are
open_chosen_at-returns-then-number-eq0-clause-are t c =
    rw (c.of.ensures, c.has_one_end.ensures) (undecided_chosen c.args.query.now c.args.slot.now c.args.code.now c.args.at c.requires.begins c.if-number-eq0.true)
