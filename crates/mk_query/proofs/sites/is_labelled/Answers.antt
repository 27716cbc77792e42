use Rattle.mk_text.proofs.ForCallers.{not_false, not_true}
use Rattle.mk_query.proofs.LabelLemmas.{labelled_is, unlabelled_is}
use Rattle.mk_query.proofs.sites.is_labelled.Goals as goal

pub returns-then-not-labels : goal.returns-then-not-labels
returns-then-not-labels c = λ groups those served known are.
    rw (← c.is_site.ensures) at (unlabelled_is groups those c.args.labels c.args.atom.now are (not_true c.args.labels.some c.if-not-labels.true))

pub returns : goal.returns
returns c = λ groups those served known are.
    rw (c.all_three.ensures, c.is_site-2.ensures)
    (labelled_is groups c.args.served.now those c.args.labels c.args.atom.now c.are_served.result served known are (not_false c.args.labels.some c.if-not-labels.false) c.are_served.ensures)
