use Rattle.std.proofs.Common.{◌<◌, ◌∙◌, ap, arith, length}
use Rattle.mk_query.proofs.SlotMarkLemmas.{slot_noted, slots_all, slots_more}
use Rattle.mk_query.proofs.template_slots.table_slots.Goals as goal

pub loop-i-preserved : goal.loop-i-preserved
loop-i-preserved c =
    let table = c.args.notes.now.table.now in
    let noted = c.args.notes.now.standing in
    let are = c.args.notes.now.are in
    let below : c.loop-i.i < length table.atoms = rw c.as_slice-lines.ensures at c.loop-i-test.true in
    let here =
    slot_noted table c.loop-i.i noted.links.items noted.sites.items noted.labels.items c.in_ok-ends.ends.items c.index-in-loop-i.result.now c.index-in-loop-i-2.result.now c.index.result.now
    c.index-in-loop-i-3.result.now c.requires below are.links_size are.links_are are.sites_are are.labels_size are.labels_are c.in_ok-ends.ensures.size c.in_ok-ends.ensures.ordered
    c.index-in-loop-i.ensures c.index-in-loop-i-2.ensures c.index.ensures c.index-in-loop-i-3.ensures in
    slots_more table c.loop-i.i c.loop-i.slots.items c.put_slot.new.slots.items c.in_ok-slot.slot (c.in_ok-slot.ensures ∙ here) c.in_ok-put_slot.ensures c.loop-i.invariant

pub returns : goal.returns
returns c = slots_all c.args.notes.now.table.now c.loop-i.i c.loop-i.slots.items (omega (arith, ap length c.as_slice-lines.ensures)) c.loop-i.invariant
