use Rattle.std.proofs.Common.{◌∙◌, None, refl, subst}
use Rattle.mk_text.specs.Rising.{IsLeastFrom}
use Rattle.mk_model.specs.Logic.{IsValid}
use Rattle.mk_model.specs.Queries.{QueryView}
use Rattle.mk_search.proofs.OpenLemmas.{none_left}
use Rattle.mk_search.proofs.PassingLemmas.{shown_opened}
use Rattle.mk_search.proofs.occurrences.Occurrences.open_next.Goals as goal

pub returns-in_default-clause-opened : goal.returns-in_default-clause-opened
returns-in_default-clause-opened g c =
    let self = c.args.self.now in
    let next = rw c.in_default.is at c.next.follows.holds-at-none in
    let none : IsLeastFrom self.codes.place (IsValid self.query.now) None = subst (λ (q : QueryView). IsLeastFrom self.codes.place (IsValid q) None) c.requires.left.query_is next.0 in
    none_left self.query.now c.args.row.mol.now c.args.place.now self.codes c.next.follows.lender-at-none c.args.steps.now (rw c.requires.shut at c.requires.left.by) none next.1

pub returns-clause-opened : goal.returns-clause-opened
returns-clause-opened g c =
    let self = c.args.self.now in
    let next = rw c.in-Some.is at c.next.follows.holds-at-none in
    shown_opened self.query.now c.templates-fits.ensures.kept c.args.row.mol.now c.args.place.now self.codes c.next.follows.lender-at-none c.open_code.new.self.codes c.open_code.new.self.open
    c.args.steps.now c.open_code.new.steps c.in_ok-_bare._bare (rw c.requires.shut at c.requires.left) c.in-Some._code.now next c.in_ok-_bare.ensures.shown
