use Rattle.std.proofs.Common.{refl, arith}
use Rattle.std.proofs.lemmas.List.{take_all}
use Rattle.std.proofs.lemmas.List.Elements.{All-more}
use Rattle.mk_walk.specs.declared.hydrogens.PlainHydrogen.{PlainHydrogen}
use Rattle.mk_walk.specs.Hydrogens.{IsInOrder}
use Rattle.mk_walk.proofs.free_hydrogens.are_in_order.Goals as goal

pub loop-one-preserved : goal.loop-one-preserved
loop-one-preserved c =
    let none : PlainHydrogen = record { atom = 0; host = 0; before = 0; due = 0 } in
    All-more (IsInOrder c.args.mol.now c.args.first.now c.args.a) c.args.hydrogens.now c.loop-one.one-index none c.loop-one-test.true c.loop-one.invariant (c.if-not-is_in_order.ensures.0 refl)

pub returns : goal.returns
returns c = (λ _. rw (take_all c.loop-one.one-index c.args.hydrogens.now (omega arith)) at c.loop-one.invariant, λ _. refl)
