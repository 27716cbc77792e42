use Rattle.std.proofs.Common.{◌≡◌, ◌+◌, ◌-◌, ◌≤◌, ◌∷◌, ◌++◌, [], ℕ, List, length, take, refl, sym, subst, ap, ◌∙◌, arith, length-append}
use Rattle.std.proofs.lemmas.List.{length-take-le, take-take, take_at}
use Rattle.mk_match.specs.Maps.{MapsLeft, IsNext}
use Rattle.mk_match.proofs.maps.Maps.next.Goals as goal

-- a list without its last number
before_last : (place hit : List ℕ) (len : ℕ) → len ≤ length place → take len place ≡ hit ++ (0 ∷ []) → take (len - 1) place ≡ hit
before_last place hit len within is =
    let long : length hit + 1 ≡ len = omega (arith, length-take-le len place within, ap length is, length-append hit (0 ∷ [])) in
    let fewer : len - 1 ≤ len = omega arith in
    let same : length hit ≡ len - 1 = omega (arith, long) in
    sym (take-take (len - 1) len place fewer) ∙ ap (take (len - 1)) is ∙ take_at hit (0 ∷ []) (len - 1) same

pub returns : goal.returns
returns c =
    let taken = c.if-not-take.ensures in
    let inside = c.self.inside in
    let next : IsNext c.args.self.now (record { graph = inside.graph; mol = inside.mol.now; place = take inside.len inside.place.items; debt = inside.debt }) taken.0 =
    subst (λ (left : MapsLeft). IsNext c.args.self.now left taken.0) (sym c.self.view_is) taken.1 in
    let is = before_last inside.place.items taken.0 inside.len c.self.invariant.within next.place in
    ((refl, λ _. tt, rw (c.deref.ensures.value, is) next), record { lends = tt })
