use Rattle.std.proofs.Common.{◌∙◌, ◌+◌, ◌++◌, List, length, replicate, sym, ap, arith}
use Rattle.std.proofs.lemmas.List.{append-nil, length-replicate, replicate_more}
use Rattle.mk_model.specs.declared.graph.GraphAtom.{GraphAtom}
use Rattle.mk_model.specs.Expansions.{hydrogen}
use Rattle.mk_expand.specs.OpenGraphs.{loosened}
use Rattle.mk_expand.proofs.OpenedLemmas.{loosened_push, pushed_size}
use Rattle.mk_expand.proofs.joining.put_hydrogens.Goals as goal

pub loop-j-init : goal.loop-j-init
loop-j-init c = sym (append-nil c.args.out.now.items)

pub put_one-requires-clause-within : goal.put_one-requires-clause-within
put_one-requires-clause-within c =
    let x : GraphAtom = hydrogen in
    let many = pushed_size c.args.template.now c.args.pieces.now c.args.out.now.items c.loop-j.out.items (replicate c.loop-j._j x) c.loop-j.invariant in
    omega (arith, many, length-replicate {A = GraphAtom} c.loop-j._j x, c.requires.within, c.loop-j-test.true)

pub loop-j-preserved : goal.loop-j-preserved
loop-j-preserved c =
    let x : GraphAtom = hydrogen in
    let start = c.args.out.now.items in
    loosened_push c.args.template.now c.args.pieces.now start c.loop-j.out.items _ (replicate c.loop-j._j x) x c.loop-j.invariant (rw c.hydrogen.ensures at c.in_ok-put_one.ensures)
    ∙ ap (λ (xs : List GraphAtom). start ++ loosened c.args.template.now c.args.pieces.now (length start + 1) xs) (replicate_more c.loop-j._j x)
