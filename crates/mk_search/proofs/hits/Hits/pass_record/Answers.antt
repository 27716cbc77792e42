use Rattle.std.proofs.Common.{◌≡◌, ◌∷◌, [], ℕ, List, slice_set, ap, sym, ◌∙◌}
use Rattle.mk_search.proofs.HitsLemmas.{place_of_number}
use Rattle.mk_search.proofs.StagesLemmas.{at_first}
use Rattle.mk_search.proofs.hits.Hits.pass_record.Goals as goal

pub invariant_of-self : goal.invariant_of-self
invariant_of-self c =
    let self = c.self.inside in
    let above = c.in-Some.above in
    let key = rw (sym c.self.view_is) at c.requires.key in
    let place : slice_set c.truncate.new.self.items 0 above ≡ above ∷ [] =
    ap (λ (zs : List ℕ). slice_set zs 0 above) c.truncate.ensures.items ∙ place_of_number self.place.items above key in
    rw place (record {
      belongs = c.self.invariant.belongs;
      need_is = c.self.invariant.need_is;
      ready = at_first self.shelf.now.rows self.all.query.now (above ∷ []);
    })
