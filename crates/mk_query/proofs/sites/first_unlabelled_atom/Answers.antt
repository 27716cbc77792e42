use Rattle.std.proofs.Common.{◌+◌, ◌∙◌, arith, sym}
use Rattle.std.proofs.lemmas.Bool.{true≢false}
use Rattle.mk_query.specs.Drawn.{labels_at}
use Rattle.mk_query.proofs.NumberedLemmas.{numbered-more, numbered-fail, numbered-all}
use Rattle.mk_query.proofs.LabelLemmas.{HasLabels, labels_at_place}
use Rattle.mk_query.proofs.LabelMarkLemmas.{all_known}
use Rattle.mk_query.proofs.sites.first_unlabelled_atom.Goals as goal

pub returns-then-not-is_labelled : goal.returns-then-not-is_labelled
returns-then-not-is_labelled c = λ groups are.
    let labels =
    labels_at_place c.args.notes.now.table.now c.args.notes.now.standing.labels.items c.loop-i.i c.index.result.now
    (omega (arith, c.args.notes.now.are.labels_size, rw c.as_slice-atoms.ensures at c.loop-i-test.true)) c.args.notes.now.are.labels_are c.index.ensures in
    numbered-fail (HasLabels groups c.args.notes.now.table.now) c.args.notes.now.table.now.atoms c.loop-i.i c.index-atoms-i.result
    (rw c.as_slice-atoms.ensures at c.loop-i-test.true) (rw c.as_slice-atoms.ensures at c.index-atoms-i.is)
    (λ p. true≢false (sym
    ((c.is_labelled.ensures groups (labels_at c.args.notes.now.table.now (c.loop-i.i + 1)) are (all_known c.args.notes.now.table.now (c.loop-i.i + 1) c.requires) labels).1 p)
    ∙ c.if-not-is_labelled.true))
    (c.loop-i.invariant groups are)

pub loop-i-preserved : goal.loop-i-preserved
loop-i-preserved c = λ groups are.
    let labels =
    labels_at_place c.args.notes.now.table.now c.args.notes.now.standing.labels.items c.loop-i.i c.index.result.now
    (omega (arith, c.args.notes.now.are.labels_size, rw c.as_slice-atoms.ensures at c.loop-i-test.true)) c.args.notes.now.are.labels_are c.index.ensures in
    numbered-more (HasLabels groups c.args.notes.now.table.now) c.args.notes.now.table.now.atoms c.loop-i.i c.index-atoms-i.result (rw c.as_slice-atoms.ensures at c.index-atoms-i.is)
    ((c.is_labelled.ensures groups (labels_at c.args.notes.now.table.now (c.loop-i.i + 1)) are (all_known c.args.notes.now.table.now (c.loop-i.i + 1) c.requires) labels).0
    c.if-not-is_labelled.false)
    (c.loop-i.invariant groups are)

pub returns : goal.returns
returns c = λ groups are.
    let table = c.args.notes.now.table.now in
    numbered-all (HasLabels groups table) table.atoms c.loop-i.i (rw c.as_slice-atoms.ensures at c.loop-i-test.false) (c.loop-i.invariant groups are)
