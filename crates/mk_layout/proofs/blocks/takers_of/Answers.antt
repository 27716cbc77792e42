use Rattle.std.proofs.Common.{length, ap, ◌∙◌, ◌<◌, ◌≡◌, arith}
use Rattle.mk_model.specs.declared.template.Slot.TheVariants.{Link}
use Rattle.mk_layout.proofs.BlockLemmas.{left_none_of, left_more, left_all}
use Rattle.mk_layout.proofs.LabelLemmas.{takes_is}
use Rattle.mk_layout.proofs.LaidLemmas.{slot_at}
use Rattle.mk_pieces.proofs.ForCallers.{ends_within, slots_stand}
use Rattle.mk_layout.proofs.blocks.takers_of.Goals as goal

pub labels_of-requires : goal.labels_of-requires
labels_of-requires c = rw (c.atoms-count.ensures, c.bonds.ensures) (ends_within c.args.template.now c.requires.kept)

pub put_taker-requires-clause-slot : goal.put_taker-requires-clause-slot
put_taker-requires-clause-slot c =
    let k : c.loop-k.k < length c.args.template.now.slots = rw c.slots-slots.ensures at c.loop-k-test.true in
    let size : length c.deref.result.now ≡ length c.args.template.now.atoms = ap length c.deref.ensures.value ∙ c.in_ok-labels.ensures.0 ∙ ap length c.atoms-count.ensures in
    let slot = slot_at c.slots-slots.result.now c.args.template.now.slots c.loop-k.k c.index-slots-k.result c.slots-slots.ensures c.loop-k-test.true c.index-slots-k.is in
    rw (slot, size) (slots_stand c.args.template.now c.requires.kept c.loop-k.k (Link 0 0 0 0) k)

pub loop-k-init : goal.loop-k-init
loop-k-init c = left_none_of _ _ _ (c.in_ok-takers.ensures.items_if_clones_equal (λ y e. e)) (ap length c.atoms-count.ensures)

pub loop-k-preserved : goal.loop-k-preserved
loop-k-preserved c =
    let template = c.args.template.now in
    let k : c.loop-k.k < length template.slots = rw c.slots-slots.ensures at c.loop-k-test.true in
    let size : length c.in_ok-labels.labels.items ≡ length template.atoms = c.in_ok-labels.ensures.0 ∙ ap length c.atoms-count.ensures in
    let stands = slots_stand template c.requires.kept c.loop-k.k (Link 0 0 0 0) k in
    let takes = takes_is template c.requires.kept c.in_ok-labels.labels.items size (rw (c.slots-slots.ensures, c.bonds.ensures) at c.in_ok-labels.ensures.1) c.loop-k.k (Link 0 0 0 0) k stands in
    let slot = slot_at c.slots-slots.result.now c.args.template.now.slots c.loop-k.k c.index-slots-k.result c.slots-slots.ensures c.loop-k-test.true c.index-slots-k.is in
    left_more _ c.loop-k.k c.loop-k.takers.items _ c.in_ok-labels.labels.items (Link 0 0 0 0) k (λ i below. takes i (omega (arith, size, c.loop-k.invariant.size))) c.put_taker.ensures.size
    (rw (slot, c.deref.ensures.value) at c.put_taker.ensures.each) c.loop-k.invariant

pub returns : goal.returns
returns c = left_all _ c.loop-k.k _ (rw c.slots-slots.ensures at c.loop-k-test.false) (rw c.slots-slots.ensures at c.loop-k.auto.k-end) c.loop-k.invariant
