use Rattle.std.proofs.Common.{◌∙◌, ◌+◌, ◌++◌, List, [], ◌∷◌, length, take, sym, ap, arith}
use Rattle.std.proofs.lemmas.List.{append-nil, take_all, take_more}
use Rattle.mk_model.specs.declared.graph.GraphAtom.{GraphAtom}
use Rattle.mk_expand.specs.OpenGraphs.{loosened}
use Rattle.mk_expand.proofs.OpenedLemmas.{loosened_push, pushed_size, taken_size}
use Rattle.mk_expand.proofs.joining.put_part.Goals as goal

pub loop-atom-init : goal.loop-atom-init
loop-atom-init c = sym (append-nil c.args.out.now.items)

pub put_one-requires-clause-within : goal.put_one-requires-clause-within
put_one-requires-clause-within c =
    let i = c.loop-atom.atom-index in
    let many = pushed_size c.args.template.now c.args.pieces.now c.args.out.now.items c.loop-atom.out.items (take i c.args.atoms.now) c.loop-atom.invariant in
    omega (arith, many, taken_size i c.args.atoms.now, c.requires.within, c.loop-atom-test.true)

pub loop-atom-preserved : goal.loop-atom-preserved
loop-atom-preserved c =
    let start = c.args.out.now.items in
    let i = c.loop-atom.atom-index in
    let x = c.atom-item.result in
    loosened_push c.args.template.now c.args.pieces.now start c.loop-atom.out.items _ (take i c.args.atoms.now) x c.loop-atom.invariant (rw c.in_ok-copy.ensures at c.in_ok-put_one.ensures)
    ∙ ap (λ (xs : List GraphAtom). start ++ loosened c.args.template.now c.args.pieces.now (length start + 1) xs)
    (ap (λ (y : GraphAtom). take i c.args.atoms.now ++ y ∷ []) c.atom-item.is ∙ sym (take_more c.args.atoms.now i x c.loop-atom-test.true))

pub returns : goal.returns
returns c =
    c.loop-atom.invariant
    ∙ ap (λ (xs : List GraphAtom). c.args.out.now.items ++ loosened c.args.template.now c.args.pieces.now (length c.args.out.now.items + 1) xs)
    (take_all c.loop-atom.atom-index c.args.atoms.now c.loop-atom-test.false)
