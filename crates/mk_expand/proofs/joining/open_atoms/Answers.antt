use Rattle.std.proofs.Common.{◌∙◌, ◌<◌, ◌+◌, ◌++◌, length, sym, ap, arith}
use Rattle.mk_model.specs.Pieces.{piece_numbered}
use Rattle.mk_expand.specs.OpenGraphs.{bare_atoms, loosened}
use Rattle.mk_expand.proofs.OpenedLemmas.{open_more, open_none, open_size}
use Rattle.mk_expand.proofs.joining.open_atoms.Goals as goal

pub loop-i-init : goal.loop-i-init
loop-i-init c = c.in_ok-out.ensures.items ∙ sym (open_none c.args.template.now c.args.pieces.now)

pub put_atoms-requires-clause-out : goal.put_atoms-requires-clause-out
put_atoms-requires-clause-out c = open_size c.args.template.now c.args.pieces.now c.loop-i.i c.loop-i.out.items c.loop-i.invariant

pub loop-i-preserved : goal.loop-i-preserved
loop-i-preserved c =
    let below : c.loop-i.i < length c.args.template.now.atoms = rw c.atoms-atoms.ensures at c.loop-i-test.true in
    let number = c.requires.takers.each c.loop-i.i (omega (arith, below, c.requires.takers.size)) in
    open_more c.args.template.now c.args.pieces.now c.loop-i.i c.loop-i.out.items _ c.loop-i.invariant (c.in_ok-put_atoms.ensures
    ∙ ap (λ (n : _). c.loop-i.out.items ++ loosened c.args.template.now c.args.pieces.now (length c.loop-i.out.items + 1) (bare_atoms c.args.template.now (c.loop-i.i + 1)
    (piece_numbered c.args.pieces.now n))) number)
