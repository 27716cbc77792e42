use Rattle.std.proofs.Common.{◌≡◌, ◌+◌, ◌-◌, ◌≤◌, ◌∷◌, ◌++◌, [], ℕ, List, length, take, refl, sym, subst, ap, ◌∙◌, arith, length-append}
use Rattle.std.proofs.lemmas.List.{length-take-le, take-take, take_at}
use Rattle.mk_choice.specs.Codes.{CodesLeft, IsNext}
use Rattle.mk_choice.proofs.codes.Codes.next.Goals as goal

-- a list without its last number
before_last : (front code : List ℕ) (len : ℕ) → len ≤ length front → take len front ≡ code ++ (0 ∷ []) → take (len - 1) front ≡ code
before_last front code len within is =
    let long : length code + 1 ≡ len = omega (arith, length-take-le len front within, ap length is, length-append code (0 ∷ [])) in
    let fewer : len - 1 ≤ len = omega arith in
    let same : length code ≡ len - 1 = omega (arith, long) in
    sym (take-take (len - 1) len front fewer) ∙ ap (take (len - 1)) is ∙ take_at code (0 ∷ []) (len - 1) same

pub returns : goal.returns
returns c =
    let taken = c.if-not-take.ensures in
    let next : IsNext c.args.self.now (record { query = c.self.inside.query.now; place = take c.self.inside.len c.self.inside.place.items; debt = c.self.inside.debt }) taken.0 =
    subst (λ (left : CodesLeft). IsNext c.args.self.now left taken.0) (sym c.self.view_is) taken.1 in
    let is = before_last c.self.inside.place.items taken.0 c.self.inside.len c.self.invariant.within next.place in
    ((refl, λ _. tt, rw (c.deref.ensures.value, is) next), record { lends = tt })
