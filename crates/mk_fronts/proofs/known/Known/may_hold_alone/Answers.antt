use Rattle.std.proofs.Common.{◌≡◌, ap, subst, sym}
use Rattle.std.specs.Prelude.{All}
use Rattle.mk_model.specs.Queries.{QueryView}
use Rattle.mk_open_codes.specs.Alone.{HoldsNoneAlone}
use Rattle.mk_fronts.specs.Fronts.{FrontsView, IsKnownOf}
use Rattle.mk_fronts.specs.Told.{IsSo}
use Rattle.mk_fronts.proofs.known.Known.may_hold_alone.Goals as goal

pub returns-in-Some-told_at-clause-none : goal.returns-in-Some-told_at-clause-none
returns-in-Some-told_at-clause-none c = λ no.
    let known = subst (IsKnownOf c.args.mol.now) (sym c.self.view_is) c.requires.known in
    let same : c.self.inside.stores ≡ c.args.self.now.query = ap (λ (v : FrontsView). v.query) c.self.view_is in
    let told : All (IsSo c.self.inside.stores c.args.mol.now) c.deref-2.result.now = rw c.deref-2.ensures.value known.told in
    subst (λ (q : QueryView). HoldsNoneAlone q c.args.mol.now c.args.slot c.args.number) same
    (c.in-Some-told_at.ensures c.self.inside.stores c.args.mol.now told no)

pub returns-clause-known : goal.returns-clause-known
returns-clause-known c =
    let known = subst (IsKnownOf c.args.mol.now) (sym c.self-2.view_is) c.counts-there.ensures.known in
    let told : All (IsSo c.self-2.inside.stores c.args.mol.now) c.put.new.told.items =
    c.put.ensures c.self-2.inside.stores c.args.mol.now known.told c.in_ok-may.ensures.none in
    record {
      there = known.there;
      told = subst (λ (q : QueryView). All (IsSo q c.args.mol.now) c.put.new.told.items) (sym c.in_ok-may.ensures.query) told;
    }

pub returns-in_err-put-clause-known : goal.returns-in_err-put-clause-known
returns-in_err-put-clause-known c =
    let known = subst (IsKnownOf c.args.mol.now) (sym c.self-2.view_is) c.counts-there.ensures.known in
    let told : All (IsSo c.self-2.inside.stores c.args.mol.now) c.put.new.told.items =
    c.put.ensures c.self-2.inside.stores c.args.mol.now known.told c.in_ok-may.ensures.none in
    record {
      there = known.there;
      told = subst (λ (q : QueryView). All (IsSo q c.args.mol.now) c.put.new.told.items) (sym c.in_ok-may.ensures.query) told;
    }
