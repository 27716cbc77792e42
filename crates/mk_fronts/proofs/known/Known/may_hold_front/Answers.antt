use Rattle.std.proofs.Common.{◌≡◌, ap, ◌∙◌, subst}
use Rattle.mk_model.specs.Queries.{QueryView}
use Rattle.mk_model.specs.QueryFits.{QueryFits}
use Rattle.mk_fronts.specs.Asks.{HoldsNoGraph}
use Rattle.mk_fronts.specs.Fronts.{FrontsView}
use Rattle.mk_fronts.proofs.known.Known.may_hold_front.Goals as goal

pub returns-clause-none : goal.returns-clause-none
returns-clause-none c = λ no.
    let fits = subst QueryFits c.query.ensures c.templates-fits.ensures.kept in
    let same : c.self.inside.stores ≡ c.args.self.now.query = ap (λ (v : FrontsView). v.query) c.self.view_is ∙ c.counts-there.ensures.query in
    let none = subst (λ (q : QueryView). HoldsNoGraph q c.args.mol.now c.args.front.now) same (c.in_ok-may.ensures.none no) in
    c.fronts_hold_none.ensures c.args.self.now.query c.args.mol.now c.args.front.now none.of.code none.part fits c.requires.front none.of.is none.of.made none.none
