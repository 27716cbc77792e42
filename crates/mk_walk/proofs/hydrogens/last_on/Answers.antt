use Rattle.std.proofs.Common.{◌≡◌, ◌≤◌, get_or, refl, arith}
use Rattle.std.proofs.lemmas.List.{get_or_default, take_all}
use Rattle.std.proofs.lemmas.List.Elements.{All-more}
use Rattle.mk_walk.specs.declared.hydrogens.PlainHydrogen.{PlainHydrogen}
use Rattle.mk_walk.proofs.hydrogens.last_on.Goals.{then-one-host-via-then-one-host, then-one-host-via-else-one-host+then-one-last}
use Rattle.mk_walk.proofs.hydrogens.last_on.Goals as goal

pub loop-one-preserved-then-one-host : goal.loop-one-preserved-then-one-host
loop-one-preserved-then-one-host c =
    let none : PlainHydrogen = record { atom = 0; host = 0; before = 0; due = 0 } in (
      c.loop-one.invariant.0,
      All-more (λ (one : PlainHydrogen). one.host ≡ c.args.host → one.atom ≤ c.loop-one.last) c.args.list.now c.loop-one.one-index none c.loop-one-test.true c.loop-one.invariant.1
          (λ is. elim c.then-one-host.branch [
            | then-one-host-via-then-one-host w ↦ absurd (w.if-one-host.true is)
            | then-one-host-via-else-one-host+then-one-last w ↦ w.if-one-last.true
          ]),
    )

pub loop-one-preserved : goal.loop-one-preserved
loop-one-preserved c =
    let list = c.args.list.now in
    let i = c.loop-one.one-index in
    let none : PlainHydrogen = record { atom = 0; host = 0; before = 0; due = 0 } in
    let one = get_or list i none in (
      λ some. record { one = one; has = (i, c.loop-one-test.true, get_or_default list i one none c.loop-one-test.true); is = refl; on = c.if-one-host.false },
      All-more (λ (o : PlainHydrogen). o.host ≡ c.args.host → o.atom ≤ one.atom) list i none c.loop-one-test.true
          (λ k d below is. (let most = c.loop-one.invariant.1 k d below is in omega (arith, c.if-one-last.false))) (λ is. omega arith),
    )

pub returns-clause-last : goal.returns-clause-last
returns-clause-last c = rw (take_all c.loop-one.one-index c.args.list.now (omega arith)) at c.loop-one.invariant.1
