use Rattle.std.proofs.Common.{◌≡◌, ◌+◌, length, refl, arith}
use Rattle.mk_walk.specs.declared.hydrogens.PlainHydrogen.{PlainHydrogen}
use Rattle.mk_walk.proofs.HydrogensLemmas.{listed_all, listed_more, listed_none, listed_other}
use Rattle.mk_walk.proofs.hydrogens.plain_hydrogens.Goals as goal

pub loop-x-init : goal.loop-x-init
loop-x-init c = rw c.new-list.ensures.items (listed_none c.args.graph.now c.atom_count-x-end.ensures.kept)

pub loop-x-preserved-in_default : goal.loop-x-preserved-in_default
loop-x-preserved-in_default c = listed_other c.args.graph.now c.atom_count-x-end.ensures.kept c.loop-x.x c.loop-x.list.items c.loop-x.invariant c.in_default.ensures.none

pub loop-x-preserved : goal.loop-x-preserved
loop-x-preserved c =
    let one : PlainHydrogen = record { atom = c.loop-x.x + 1; host = c.in-Some.host; before = c.last_on-before.result; due = c.due_at-due.result } in
    rw c.in_ok-push.ensures.items
    (listed_more c.args.graph.now c.atom_count-x-end.ensures.kept c.loop-x.x c.loop-x.list.items c.loop-x.invariant one refl c.in-Some.ensures.some
    (rw c.deref.ensures.value at c.last_on-before.ensures.listed) (rw c.deref.ensures.value at c.last_on-before.ensures.last) c.due_at-due.ensures)

pub returns : goal.returns
returns c =
    let whole : c.loop-x.x ≡ length c.args.graph.now.atoms = omega (arith, c.atom_count-x-end.ensures.count) in
    listed_all c.args.graph.now c.atom_count-x-end.ensures.kept c.loop-x.list.items (rw whole at c.loop-x.invariant)
