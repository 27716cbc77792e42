use Rattle.std.proofs.Common.{◌∙◌, ◌≤◌, ◌++◌, length, sym, ap}
use Rattle.std.proofs.lemmas.List.{append-nil}
use Rattle.mk_model.specs.declared.template.Slot.TheVariants.{Link}
use Rattle.mk_layout.proofs.BondLemmas.{step_within, within_all}
use Rattle.mk_layout.proofs.LaidLemmas.{slot_at}
use Rattle.mk_layout.proofs.bonds.put_all_within.Goals as goal

pub loop-k-preserved : goal.loop-k-preserved
loop-k-preserved c =
    let slot = slot_at c.slots-slots.result.now c.args.layout.now.template.slots c.loop-k.k c.index-slots-k.result c.slots-slots.ensures c.loop-k-test.true c.index-slots-k.is in
    step_within _ _ c.pieces-pieces.ensures.room c.loop-k.k (rw c.slots-slots.ensures at c.loop-k-test.true) (Link 0 0 0 0) _ (rw c.pieces-pieces.ensures.same at c.index-pieces-k.is)
    c.loop-k.out.items _ _ (rw (c.bonds-bonds.ensures, c.template.ensures, c.before-before.ensures.is, c.atom_of.ensures, slot) at c.in_ok-put_within.ensures) c.loop-k.invariant

pub returns : goal.returns
returns c =
    let past : length c.args.layout.now.template.slots ≤ c.loop-k.k = rw c.slots-slots.ensures at c.loop-k-test.false in
    sym (append-nil c.loop-k.out.items)
    ∙ ap (λ s. c.loop-k.out.items ++ s) (sym (within_all c.args.layout.now.template c.args.layout.now.pieces _ c.args.layout.now.pieces c.loop-k.k past)) ∙ c.loop-k.invariant
