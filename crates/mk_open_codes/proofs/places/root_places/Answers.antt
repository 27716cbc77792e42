use Rattle.std.proofs.Common.{rules, ◌<◌, ◌≤◌, length, arith}
use Rattle.mk_model.specs.Queries.{slots_of}
use Rattle.mk_layout.proofs.LaidLemmas.{slot_at}
use Rattle.mk_open_codes.proofs.ForCallers.{root_there}
use Rattle.mk_open_codes.proofs.PassingLemmas.{labels_at, place_few, places_all, places_more, places_none}
use Rattle.mk_open_codes.proofs.places.root_places.Goals as goal

pub loop-slot-init : goal.loop-slot-init
loop-slot-init c = rw c.clear.ensures.items (places_none c.args.query.now c.args.code.now c.requires)

pub overflow_cast-at : goal.overflow_cast-at
overflow_cast-at c =
    let query = c.args.query.now in
    let below : c.loop-slot.slot-index < length (slots_of query 0) = rw c.slots_of_root-slot-items.ensures.list at c.loop-slot-test.true in
    let few = place_few query c.args.code.now c.loop-slot.slot-index c.loop-slot.places.items c.loop-slot.at c.loop-slot.invariant below c.slots_of_root-slot-items.ensures.kept in
    search (rules, few)

pub behind_slot-requires : goal.behind_slot-requires
behind_slot-requires c =
    let query = c.args.query.now in
    let k = c.loop-slot.slot-index in
    let kept = c.slots_of_root-slot-items.ensures.kept in
    let slots = c.slots_of_root-slot-items.ensures.list in
    let below : k < length (slots_of query 0) = rw slots at c.loop-slot-test.true in
    let slot = slot_at c.slots_of_root-slot-items.result.now (slots_of query 0) k c.slot-item.result slots c.loop-slot-test.true c.slot-item.is in
    record { labels = rw slot (labels_at query kept 0 (root_there query kept) k below) }

pub loop-slot-preserved : goal.loop-slot-preserved
loop-slot-preserved c =
    let query = c.args.query.now in
    let k = c.loop-slot.slot-index in
    let slots = c.slots_of_root-slot-items.ensures.list in
    let below : k < length (slots_of query 0) = rw slots at c.loop-slot-test.true in
    let slot = slot_at c.slots_of_root-slot-items.result.now (slots_of query 0) k c.slot-item.result slots c.loop-slot-test.true c.slot-item.is in
    rw c.in_ok-push.ensures.items (places_more query c.args.code.now k c.loop-slot.places.items c.loop-slot.at c.loop-slot.invariant below c.in_ok-at.at (rw slot at c.in_ok-at.ensures.passes))

pub returns : goal.returns
returns c =
    let query = c.args.query.now in
    let past : length (slots_of query 0) ≤ c.loop-slot.slot-index = rw c.slots_of_root-slot-items.ensures.list at c.loop-slot-test.false in
    let within : c.loop-slot.slot-index ≤ length (slots_of query 0) = rw c.slots_of_root-slot-items.ensures.list at c.loop-slot.auto.slot-index-end in
    places_all query c.args.code.now c.loop-slot.slot-index c.loop-slot.places.items c.loop-slot.at c.loop-slot.invariant (omega (arith, past, within))
