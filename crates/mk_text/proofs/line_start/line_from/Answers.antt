use Rattle.std.proofs.Common.{sym}
use Rattle.mk_text.proofs.LineStartLemmas.{next_by, none_left}
use Rattle.mk_text.proofs.line_start.line_from.Goals as goal

pub returns-then-start-text-clause-none : goal.returns-then-start-text-clause-none
returns-then-start-text-clause-none c = none_left c.args.text.now c.args.start c.requires c.if-start-text.true

pub returns-clause-there : goal.returns-clause-there
returns-clause-there c =
    let lf = c.first_from-lf.ensures in
    (next_by c.args.text.now c.args.start c.first_from-lf.result c.end_of_line-to.result c.behind_lf.result c.requires
    c.if-start-text.false lf.order lf.within lf.none lf.found c.end_of_line-to.ensures.line
    c.behind_lf.ensures).there

pub returns-clause-line : goal.returns-clause-line
returns-clause-line c =
    let lf = c.first_from-lf.ensures in
    sym (next_by c.args.text.now c.args.start c.first_from-lf.result c.end_of_line-to.result c.behind_lf.result c.requires
    c.if-start-text.false lf.order lf.within lf.none lf.found c.end_of_line-to.ensures.line c.behind_lf.ensures).is

pub returns-clause-start : goal.returns-clause-start
returns-clause-start c =
    let lf = c.first_from-lf.ensures in
    (next_by c.args.text.now c.args.start c.first_from-lf.result c.end_of_line-to.result c.behind_lf.result c.requires
    c.if-start-text.false lf.order lf.within lf.none lf.found c.end_of_line-to.ensures.line
    c.behind_lf.ensures).start_is
