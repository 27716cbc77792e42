use Rattle.std.proofs.Common.{◌∙◌, ◌-◌, length, sym, arith}
use Rattle.std.proofs.lemmas.List.{drop_all}
use Rattle.mk_model.specs.declared.template.QueryBond.{QueryBond}
use Rattle.mk_layout.specs.Blocks.{stay}
use Rattle.mk_layout.proofs.BlockLemmas.{labels_none, labels_before, labels_past}
use Rattle.mk_layout.proofs.blocks.labels_of.Goals as goal

pub loop-k-init : goal.loop-k-init
loop-k-init c = (
  omega arith,
  omega (arith, c.loop-i.invariant.0),
  rw (drop_all (length c.args.bonds.now) c.args.bonds.now (omega arith)) (labels_none c.loop-i.labels.items (λ i below. c.loop-i.invariant.1 i (omega (arith, c.loop-i.invariant.0)))),
)

pub loop-k-preserved-then-stay : goal.loop-k-preserved-then-stay
loop-k-preserved-then-stay c =
    let none : QueryBond = record { first = 0; second = 0; kind = 0; topology = 0 } in (
      omega (arith, c.loop-k.invariant.0),
      c.merge.ensures.size ∙ c.loop-k.invariant.1,
      labels_before (stay c.args.slots.now) c.args.bonds.now c.loop-k.k (c.loop-k.k - 1) none c.loop-k.labels.items c.merge.new.labels.items (omega arith) c.loop-k.invariant.0
          (sym c.stay.ensures ∙ c.if-stay.true) (rw c.loop-k.invariant.1
          (c.requires (c.loop-k.k - 1) none (omega (arith, c.loop-k.invariant.0)))) c.merge.ensures.size c.merge.ensures.each c.loop-k.invariant.2,
    )

pub loop-k-preserved : goal.loop-k-preserved
loop-k-preserved c =
    let none : QueryBond = record { first = 0; second = 0; kind = 0; topology = 0 } in (
      omega (arith, c.loop-k.invariant.0),
      c.loop-k.invariant.1,
      labels_past (stay c.args.slots.now) c.args.bonds.now c.loop-k.k (c.loop-k.k - 1) none c.loop-k.labels.items (omega arith) c.loop-k.invariant.0
          (sym c.stay.ensures ∙ c.if-stay.false) c.loop-k.invariant.2,
    )
