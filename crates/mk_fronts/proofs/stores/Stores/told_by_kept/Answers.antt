use Rattle.std.proofs.Common.{ℕ, bytes_eq, subst, sym}
use Rattle.std.specs.Global.{Vec}
use Rattle.mk_model.specs.Graphs.{GraphView}
use Rattle.mk_model.specs.Queries.{QueryView}
use Rattle.mk_fronts.specs.Asks.{HoldsNoGraph, IsAskOf}
use Rattle.mk_fronts.proofs.AsksLemmas.{found, refused, swapped}
use Rattle.mk_fronts.proofs.stores.Stores.told_by_kept.Goals as goal

pub returns-in-Some-clause-none : goal.returns-in-Some-clause-none
returns-in-Some-clause-none c = λ no.
    subst (λ (q : QueryView). HoldsNoGraph q c.args.mol.now c.args.key.now) c.self.view_is
    (refused c.self.inside.query.now c.args.mol.now c.args.key.now c.self.inside.young.entries c.in-Some.ask.now c.self.invariant.0 (sym c.in-Some.ensures.value) (c.in_ok-may.ensures.none no))

pub invariant_of-self-in_err-may-2 : goal.invariant_of-self-in_err-may-2
invariant_of-self-in_err-may-2 c =
    let left = swapped (λ (e : Vec ℕ × GraphView). IsAskOf c.self.inside.query.now e.0.items e.1) (λ (k : Vec ℕ). bytes_eq c.args.key.now k.items)
    c.self.inside.elder.entries c.self.invariant.1 in
    (c.self.invariant.0, rw c.swap_remove.ensures.entries left)

pub invariant_of-self-2 : goal.invariant_of-self-2
invariant_of-self-2 c =
    let left = swapped (λ (e : Vec ℕ × GraphView). IsAskOf c.self.inside.query.now e.0.items e.1) (λ (k : Vec ℕ). bytes_eq c.args.key.now k.items)
    c.self.inside.elder.entries c.self.invariant.1 in
    (c.self.invariant.0, rw c.swap_remove.ensures.entries left)

pub keep-requires : goal.keep-requires
keep-requires c = found c.self.inside.query.now c.args.key.now c.self.inside.elder.entries c.in-Some-swap_remove.ask c.self.invariant.1 (sym c.in-Some-swap_remove.ensures.value)

pub returns-clause-none : goal.returns-clause-none
returns-clause-none c = λ no.
    subst (λ (q : QueryView). HoldsNoGraph q c.args.mol.now c.args.key.now) c.self.view_is
    (refused c.self.inside.query.now c.args.mol.now c.args.key.now c.self.inside.elder.entries c.in-Some-swap_remove.ask c.self.invariant.1
    (sym c.in-Some-swap_remove.ensures.value) (c.in_ok-may-2.ensures.none no))
