use Rattle.std.proofs.Common.{◌≡◌, ◌≤◌, ◌<◌, length, get_or, sym, subst}
use Rattle.mk_model.specs.declared.graph.GraphAtom.{GraphAtom}
use Rattle.mk_model.specs.Tests.{IsTestInRange}
use Rattle.mk_counts.proofs.AskedLemmas.{asked_more}
use Rattle.mk_counts.proofs.asked.counts_asked.Goals as goal

pub loop-atom-preserved : goal.loop-atom-preserved
loop-atom-preserved c =
    let list = c.atoms-atom-items.ensures.list in
    let at : c.atom-item.result ≡ get_or c.args.graph.now.atoms c.loop-atom.atom-index c.atom-item.result = rw list at c.atom-item.is in
    let below : c.loop-atom.atom-index < length c.args.graph.now.atoms = rw list at c.loop-atom-test.true in
    let test : IsTestInRange c.atom-item.result.test =
    subst (λ (atom : GraphAtom). IsTestInRange atom.test) (sym at) (c.atoms-atom-items.ensures.kept.sketch.tests c.loop-atom.atom-index c.atom-item.result below) in
    let known : c.element_asked-element.result ≤ 118 = c.element_asked-element.ensures test.kind in
    let count = rw c.atoms.ensures.list at c.count_asked-count.ensures in
    rw c.in_ok-push.ensures.items (asked_more c.args.graph.now c.loop-atom.elements.items _ c.loop-atom.invariant known count)
