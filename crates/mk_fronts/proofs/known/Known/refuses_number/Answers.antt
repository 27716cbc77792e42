use Rattle.std.proofs.Common.{◌≡◌, true, subst}
use Rattle.mk_model.specs.QueryFits.{QueryFits}
use Rattle.mk_fronts.proofs.FrontsLemmas.{none_alone, not_true}
use Rattle.mk_fronts.proofs.known.Known.refuses_number.Goals as goal

pub returns-clause-none : goal.returns-clause-none
returns-clause-none c = λ refused.
    let fits = subst QueryFits c.query.ensures c.templates-fits.ensures.kept in
    let here : c.is_place.result ≡ true = cc in
    none_alone c.alone_fronts_hold_none.ensures c.args.self.now.query c.args.mol.now c.args.code.now c.args.places.now c.args.slot c.args.n c.number_at.result
    fits c.requires.code c.requires.places (c.is_place.ensures here) c.requires.within c.number_at.ensures (c.in_ok-may.ensures.none (not_true c.in_ok-may.may refused))
