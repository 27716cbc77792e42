use Rattle.std.proofs.Common.{◌<◌, length, refl, arith}
use Rattle.std.proofs.lemmas.Bool.Decides.{nat_tests}
use Rattle.mk_walk.proofs.OutlookLemmas.{looking_ends, looking_goes_back, looking_puts, looking_skips, looking_starts}
use Rattle.mk_walk.proofs.outlook.has_none.Goals as goal

pub look-init : goal.look-init
look-init c =
    let some : 0 < length c.args.order.now = grind (arith, nat_tests, c.if-is_empty.ensures) in (
      looking_starts c.args.graph.now c.args.mol.now c.args.first.now c.args.order.now (c.if-not-are_later.ensures refl) c.args.chosen.now.items some (omega arith),
      c.anchor_of-anchor.ensures.within,
      c.anchor_of-anchor.ensures.beside,
    )

pub returns-then-d-eq0 : goal.returns-then-d-eq0
returns-then-d-eq0 c = λ _.
    looking_ends c.args.graph.now c.args.mol.now c.args.first.now c.args.order.now (c.if-not-are_later.ensures refl)
    c.look.chosen.items c.look.d c.look.above c.look.invariant.0 c.look.anchor c.look.invariant.2
    c.in_default.ensures.none c.if-d-eq0.true

pub look-preserved-in_default : goal.look-preserved-in_default
look-preserved-in_default c = (
  looking_goes_back c.args.graph.now c.args.mol.now c.args.first.now c.args.order.now
      (c.if-not-are_later.ensures refl) c.look.chosen.items c.look.d c.look.above c.look.invariant.0
      c.look.anchor c.look.invariant.2
      c.in_default.ensures.none c.index-above.result.now c.if-d-eq0.false c.index-above.ensures,
  c.anchor_of-anchor-in_default.ensures.within,
  rw c.deref-in_default.ensures.value at c.anchor_of-anchor-in_default.ensures.beside,
)

pub look-preserved-then-is_barred : goal.look-preserved-then-is_barred
look-preserved-then-is_barred c = (
  looking_skips c.args.graph.now c.args.mol.now c.args.first.now c.args.order.now (c.if-not-are_later.ensures refl)
      c.look.chosen.items c.look.d c.look.above c.look.invariant.0 c.look.anchor c.look.invariant.2
      c.in-Some.a c.in-Some.ensures.found.0 c.in-Some.ensures.found.1 c.in-Some.ensures.between (rw c.deref-in-look.ensures.value at (c.if-is_barred.ensures refl)),
  c.look.invariant.1,
  c.look.invariant.2,
)

pub look-preserved : goal.look-preserved
look-preserved c = (
  looking_puts c.args.graph.now c.args.mol.now c.args.first.now c.args.order.now (c.if-not-are_later.ensures refl)
      c.look.chosen.items c.look.d c.look.above c.look.invariant.0 c.look.anchor c.look.invariant.2
      c.in-Some.a c.in-Some.ensures.found.0 c.in-Some.ensures.found.1 c.in-Some.ensures.between c.if-d-order.false,
  c.anchor_of-anchor-in-look.ensures.within,
  rw c.deref-in-look-3.ensures.value at c.anchor_of-anchor-in-look.ensures.beside,
)
