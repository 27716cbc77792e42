use Rattle.std.proofs.Common.{◌∙◌, ◌+◌, arith, sym}
use Rattle.std.proofs.lemmas.Bool.{true≢false}
use Rattle.mk_query.specs.Drawn.{lists_at}
use Rattle.mk_query.proofs.NumberedLemmas.{numbered-more, numbered-fail, numbered-all}
use Rattle.mk_query.proofs.ListLemmas.{HasListsAt, lists_at_place, lists_fail, atom_fails, all_listed}
use Rattle.mk_query.proofs.lists.first_unlisted_atom.Goals as goal

pub returns-then-not-name_atoms : goal.returns-then-not-name_atoms
returns-then-not-name_atoms c = lists_fail c.args.table.now c.name_atoms.result (rw (c.as_slice-atoms.ensures, c.as_slice.ensures) at c.name_atoms.ensures) c.if-not-name_atoms.true

pub returns-then-not-is_listed : goal.returns-then-not-is_listed
returns-then-not-is_listed c =
    let lists = lists_at_place c.args.table.now c.in_ok-marks.marks.items c.loop-i.i c.index.result.now
    (omega (arith, c.in_ok-marks.ensures.size, rw c.as_slice-atoms.ensures at c.loop-i-test.true))
    c.in_ok-marks.ensures.marks c.index.ensures in
    atom_fails c.args.table.now _ ((rw (c.as_slice-atoms.ensures, c.as_slice.ensures) at c.name_atoms.ensures).0 c.if-not-name_atoms.false)
    (numbered-fail (HasListsAt c.args.table.now) c.args.table.now.atoms c.loop-i.i c.index-atoms-i.result
    (rw c.as_slice-atoms.ensures at c.loop-i-test.true) (rw c.as_slice-atoms.ensures at c.index-atoms-i.is)
    (λ p. true≢false (sym ((c.is_listed.ensures (lists_at c.args.table.now (c.loop-i.i + 1)) lists).1 p) ∙ c.if-not-is_listed.true)) c.loop-i.invariant)

pub loop-i-preserved : goal.loop-i-preserved
loop-i-preserved c =
    let lists = lists_at_place c.args.table.now c.in_ok-marks.marks.items c.loop-i.i c.index.result.now
    (omega (arith, c.in_ok-marks.ensures.size, rw c.as_slice-atoms.ensures at c.loop-i-test.true))
    c.in_ok-marks.ensures.marks c.index.ensures in
    numbered-more (HasListsAt c.args.table.now) c.args.table.now.atoms c.loop-i.i c.index-atoms-i.result (rw c.as_slice-atoms.ensures at c.index-atoms-i.is)
    ((c.is_listed.ensures (lists_at c.args.table.now (c.loop-i.i + 1)) lists).0 c.if-not-is_listed.false) c.loop-i.invariant

pub returns : goal.returns
returns c =
    all_listed c.args.table.now ((rw (c.as_slice-atoms.ensures, c.as_slice.ensures) at c.name_atoms.ensures).0 c.if-not-name_atoms.false)
    (numbered-all (HasListsAt c.args.table.now) c.args.table.now.atoms c.loop-i.i (rw c.as_slice-atoms.ensures at c.loop-i-test.false) c.loop-i.invariant)
