use Rattle.std.proofs.Common.{◌≡◌, ◌<◌, ◌≤◌, ◌∙◌, ℕ, List, sym, subst, ⊎_elim, length, get_or, arith}
use Rattle.std.proofs.lemmas.Bool.{cases_lt, cases_order, true≢false}
use Rattle.std.proofs.lemmas.Option.{slice_get_within, get_or_from_slice_get}
use Rattle.mk_model.specs.declared.edge.Edge.{Edge}
use Rattle.mk_model.specs.Edges.{HasEnds, Joins}
use Rattle.mk_fixtures.proofs.checks.are_apart.Invariants.{AreApart}
use Rattle.mk_fixtures.proofs.checks.are_apart.Goals as goal

-- bonds that join one pair have each other's ends
shared : (e f : Edge) (x y : ℕ) → HasEnds e x y → HasEnds f x y → HasEnds e f.first f.second
shared e f x y at_e at_f = grind (arith, at_e, at_f)

pub loop-c-preserved : goal.loop-c-preserved
loop-c-preserved c = λ q below.
    ⊎_elim
    (λ earlier. c.loop-c.invariant q earlier)
    (λ last.
    let is : c.loop-c.c ≡ q = omega arith in
    let none : Edge = record { first = 0; second = 0; kind = 0 } in
    let later : Edge = get_or c.args.bonds.now c.loop-b.b none in
    let earlier : Edge = get_or c.args.bonds.now c.loop-c.c none in
    let P : ℕ → Type 0 = λ k. AreApart c.args.bonds.now c.loop-b.b k in
    subst P is (λ x y first second. true≢false (sym (c.is_same_pair.ensures.1 (shared later earlier x y first second)) ∙ c.if-is_same_pair.false)))
    (cases_lt q c.loop-c.c)

pub loop-b-preserved : goal.loop-b-preserved
loop-b-preserved c = λ p q below before.
    ⊎_elim
    (λ earlier. c.loop-b.invariant p q earlier before)
    (λ last.
    let is : c.loop-b.b ≡ p = omega arith in
    let P : ℕ → Type 0 = λ k. AreApart c.args.bonds.now k q in
    subst P is (c.loop-c.invariant q (omega arith)))
    (cases_lt p c.loop-b.b)

-- places that are apart join one pair only where they are one
once : (bonds : List Edge) (n b c x y : ℕ) → length bonds ≤ n → ((p q : ℕ) → p < n → q < p → AreApart bonds p q) → Joins bonds b x y → Joins bonds c x y → b ≡ c
once bonds n b c x y all apart j k =
    let d : Edge = record { first = 0; second = 0; kind = 0 } in
    let P : Edge → Type 0 = λ e. HasEnds e x y in
    let at_b = subst P (sym (get_or_from_slice_get bonds b j.edge d j.at)) j.ends in
    let at_c = subst P (sym (get_or_from_slice_get bonds c k.edge d k.at)) k.ends in
    let b_within = slice_get_within bonds b j.edge j.at in
    let c_within = slice_get_within bonds c k.edge k.at in
    ⊎_elim
    (λ same. same)
    (λ ne. ⊎_elim
    (λ below. absurd (apart c b (omega arith) below x y at_c at_b))
    (λ above. absurd (apart b c (omega arith) above x y at_b at_c))
    ne)
    (cases_order b c)

pub returns : goal.returns
returns c = λ _ b d x y. once c.args.bonds.now c.loop-b.b b d x y c.loop-b-test.false c.loop-b.invariant
