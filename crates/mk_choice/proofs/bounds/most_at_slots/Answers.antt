use Rattle.std.proofs.Common.{◌+◌, ap, arith}
use Rattle.mk_model.specs.Sizes.{greatest}
use Rattle.mk_choice.specs.Bounds.{bound_in, most_filled_at}
use Rattle.mk_choice.proofs.AheadLemmas.{most_next}
use Rattle.mk_choice.proofs.bounds.most_at_slots.Goals as goal

pub loop-slot-preserved : goal.loop-slot-preserved
loop-slot-preserved c =
    let most = c.args.most.now in
    let g = c.args.g in
    let slots = c.args.slots.now in
    let at = c.loop-slot.slot-index in
    let slot = c.slot-item.result in
    let labels = ap (greatest (λ h. bound_in most h (g + 1))) c.labels.ensures in
    let here = ap (most_filled_at (bound_in most) (g + 1)) c.slot-item.is in
    omega (arith, c.min-sum.ensures, c.saturating_add.ensures, c.most_at_labels.ensures, labels, here, most_next (bound_in most) slots at slot (g + 1) c.loop-slot-test.true, c.loop-slot.invariant)
