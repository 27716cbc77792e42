-- What the logic of a query allows, and its test.
--     some_passes, passes_some, all_pass, passes_all      some and all of a list, by places
--     allows_is, is_allowed       what passes the test is allowed, and the other way round
--     allowed_same                what is allowed depends on the counts alone
use Rattle.std.proofs.Common.{◌≡◌, ℕ, zero, suc, ◌+◌, ◌-◌, ◌<◌, ◌≤◌, inl, inr, Bool, true, false, not, ◌&&◌, ◌||◌, List, [], ◌∷◌, Some, refl, ap, sym, ◌∙◌, arith}
use Rattle.std.specs.Prelude.{◌==◌, nat_lt, slice_get}
use Rattle.std.specs.List.{list_all, list_any}
use Rattle.std.proofs.lemmas.Bool.Decides.{nat_tests}
use Rattle.mk_text.proofs.ForCallers.{both, and_true, or_left, or_right}
use Rattle.mk_model.specs.declared.group.Group.{Group}
use Rattle.mk_model.specs.Queries.{QueryView}
use Rattle.mk_model.specs.Logic.{IsAllowed, IsAsked, IsGroupAt, Names, is_in_range}
use Rattle.mk_model.specs.PlainCodes.{allows, is_asked_of, numbered}

-- ---- some of a list

-- an element that passes, at its place
pub record IsPassed {X : Type 0} (p : X → Bool) (xs : List X) : Type 0 where
  pub place : ℕ
  pub item : X
  pub at : slice_get xs place ≡ Some item
  pub passes : p item ≡ true

pub some_passes : {X : Type 0} (p : X → Bool) (xs : List X) → list_any p xs ≡ true → IsPassed p xs
some_passes p [] any = absurd cc
some_passes p (x ∷ xs) any = by_first (p x) refl any (some_passes p xs)
  where
    by_first : (b : Bool) → p x ≡ b → (b || list_any p xs) ≡ true → (list_any p xs ≡ true → IsPassed p xs) → IsPassed p (x ∷ xs)
    by_first true e any there = record { place = 0; item = x; at = refl; passes = e }
    by_first false e any there = (let found = there any in record { place = suc found.place; item = found.item; at = found.at; passes = found.passes })

pub passes_some : {X : Type 0} (p : X → Bool) (xs : List X) (k : ℕ) (x : X) → slice_get xs k ≡ Some x → p x ≡ true → list_any p xs ≡ true
passes_some p [] k x at passes = absurd cc
passes_some p (y ∷ xs) zero x at passes = (let same : y ≡ x = cc in or_left (p y) (list_any p xs) (ap p same ∙ passes))
passes_some p (y ∷ xs) (suc k) x at passes = or_right (p y) (list_any p xs) (passes_some p xs k x at passes)

-- ---- all of a list

pub all_pass : {X : Type 0} (p : X → Bool) (xs : List X) (k : ℕ) (x : X) → list_all p xs ≡ true → slice_get xs k ≡ Some x → p x ≡ true
all_pass p [] k x all at = absurd cc
all_pass p (y ∷ xs) zero x all at = (let same : y ≡ x = cc in ap p (sym same) ∙ (both (p y) (list_all p xs) all).0)
all_pass p (y ∷ xs) (suc k) x all at = all_pass p xs k x (both (p y) (list_all p xs) all).1 at

pub passes_all : {X : Type 0} (p : X → Bool) (xs : List X) → ((k : ℕ) (x : X) → slice_get xs k ≡ Some x → p x ≡ true) → list_all p xs ≡ true
passes_all p [] each = refl
passes_all p (y ∷ xs) each = and_true (p y) (list_all p xs) (each 0 y refl) (passes_all p xs (λ k x at. each (suc k) x at))

-- ---- numbered groups

pub at_numbered : (g : ℕ) (groups : List Group) (k : ℕ) (group : Group) → slice_get groups k ≡ Some group → slice_get (numbered g groups) k ≡ Some (g + k, group)
at_numbered g [] k group at = absurd cc
at_numbered g (x ∷ groups) zero group at = (let same : x ≡ group = cc in let sum : g + 0 ≡ g = omega arith in rw (sum, same) refl)
at_numbered g (x ∷ groups) (suc k) group at = (let sum : g + suc k ≡ g + 1 + k = omega arith in rw sum (at_numbered (g + 1) groups k group at))

pub numbered_at : (g : ℕ) (groups : List Group) (k : ℕ) (p : ℕ × Group) → slice_get (numbered g groups) k ≡ Some p → (p.0 ≡ g + k) × (slice_get groups k ≡ Some p.1)
numbered_at g [] k p at = absurd cc
numbered_at g (x ∷ groups) zero p at =
    let same : (g, x) ≡ p = cc in
    (omega (arith, ap (λ (q : ℕ × Group). q.0) same), ap (λ (q : ℕ × Group). Some q.1) same)
numbered_at g (x ∷ groups) (suc k) p at = (let is = numbered_at (g + 1) groups k p at in (omega (arith, is.0), is.1))

module _ (query : QueryView) where
  -- the group at a place among the numbered ones has that number
  group_of : (k : ℕ) (p : ℕ × Group) → slice_get (numbered 1 query.groups) k ≡ Some p → IsGroupAt query p.0 p.1
  group_of k p at =
      let is = numbered_at 1 query.groups k p at in
      let place : p.0 - 1 ≡ k = omega (arith, is.0) in
      (omega (arith, is.0), rw place is.1)

  -- and the group of a number is at its place
  place_of : (g : ℕ) (group : Group) → IsGroupAt query g group → slice_get (numbered 1 query.groups) (g - 1) ≡ Some (g, group)
  place_of g group at =
      let number : 1 + (g - 1) ≡ g = omega (arith, at.0) in
      rw number at (at_numbered 1 query.groups (g - 1) group at.1)

  module _ (filled_in : ℕ → ℕ) (g : ℕ) where
    abbrev names_it : ℕ × Group → Bool
    names_it (h, group) = group.then_group == g

    abbrev wants_it : ℕ × Group → Bool
    wants_it (h, group) = (group.then_group == g) && nat_lt 0 (filled_in h)

    named : (k : ℕ) (p : ℕ × Group) → slice_get (numbered 1 query.groups) k ≡ Some p → names_it p ≡ true → Names query p.0 g
    named k p at test = (p.1, group_of k p at, grind (arith, nat_tests))

    asks : list_any names_it (numbered 1 query.groups) ≡ true → list_any wants_it (numbered 1 query.groups) ≡ true → IsAsked query filled_in g
    asks some wanted =
        let found = some_passes wants_it (numbered 1 query.groups) wanted in
        let tests = both (found.item.1.then_group == g) (nat_lt 0 (filled_in found.item.0)) found.passes in
        let less : 0 < filled_in found.item.0 = (let test = tests.1 in grind (arith, nat_tests)) in
        inr (found.item.0, named found.place found.item found.at tests.0, less)

    never : list_any names_it (numbered 1 query.groups) ≡ false → (h : ℕ) → Names query h g → ⊥
    never none h (group, at, names) =
        let some : list_any names_it (numbered 1 query.groups) ≡ true = passes_some names_it (numbered 1 query.groups) (h - 1) (h, group) (place_of h group at) (grind (arith, nat_tests)) in
        absurd cc

    pub asked_if : is_asked_of query.groups filled_in g ≡ true → IsAsked query filled_in g
    asked_if asked = by_names (list_any names_it (numbered 1 query.groups)) refl asked
      where
        by_names : (b : Bool) → list_any names_it (numbered 1 query.groups) ≡ b → (not b || list_any wants_it (numbered 1 query.groups)) ≡ true → IsAsked query filled_in g
        by_names false e asked = inl (never e)
        by_names true e asked = asks e asked

    pub if_asked : IsAsked query filled_in g → is_asked_of query.groups filled_in g ≡ true
    if_asked (inl none) = by_names (list_any names_it (numbered 1 query.groups)) refl
      where
        by_names : (b : Bool) → list_any names_it (numbered 1 query.groups) ≡ b → (not b || list_any wants_it (numbered 1 query.groups)) ≡ true
        by_names false e = refl
        by_names true e =
            let found = some_passes names_it (numbered 1 query.groups) e in
            absurd (none found.item.0 (named found.place found.item found.at found.passes))
    if_asked (inr (h, names, some)) =
        let test : nat_lt 0 (filled_in h) ≡ true = grind (arith, nat_tests) in
        let same : (names.0.then_group == g) ≡ true = (let is = names.2 in grind (arith, nat_tests)) in
        or_right (not (list_any names_it (numbered 1 query.groups))) _
        (passes_some wants_it (numbered 1 query.groups) (h - 1) (h, names.0) (place_of h names.0 names.1) (and_true _ _ same test))

  -- ---- what is allowed

  module _ (sites_in filled_in : ℕ → ℕ) where
    -- what a group with its number has to meet
    abbrev meets : ℕ × Group → Bool
    meets (g, group) = not (nat_lt 0 (sites_in g)) || (not (is_asked_of query.groups filled_in g) || is_in_range group.range (filled_in g))

    -- a test that has to hold only where others do
    where_both : (a b c : Bool) → a ≡ true → b ≡ true → (not a || (not b || c)) ≡ true → c ≡ true
    where_both true true c e e' holds = holds
    where_both false b c e e' holds = absurd cc
    where_both true false c e e' holds = absurd cc

    if_both : (a b c : Bool) → (a ≡ true → b ≡ true → c ≡ true) → (not a || (not b || c)) ≡ true
    if_both true true c holds = holds refl refl
    if_both false b c holds = refl
    if_both true false c holds = refl

    pub allows_is : allows query.groups sites_in filled_in ≡ true → IsAllowed query sites_in filled_in
    allows_is all g group at some asked =
        let passes = all_pass meets (numbered 1 query.groups) (g - 1) (g, group) all (place_of g group at) in
        let test : nat_lt 0 (sites_in g) ≡ true = (let less = some in grind (arith, nat_tests)) in
        where_both (nat_lt 0 (sites_in g)) (is_asked_of query.groups filled_in g) (is_in_range group.range (filled_in g)) test (if_asked filled_in g asked) passes

    pub is_allowed : IsAllowed query sites_in filled_in → allows query.groups sites_in filled_in ≡ true
    is_allowed allowed =
        passes_all meets (numbered 1 query.groups) (λ k p at.
        if_both (nat_lt 0 (sites_in p.0)) (is_asked_of query.groups filled_in p.0) (is_in_range p.1.range (filled_in p.0))
        (λ some asked. allowed p.0 p.1 (group_of k p at) (let test = some in grind (arith, nat_tests)) (asked_if filled_in p.0 asked)))

-- ---- the same counts

-- what is asked depends on the filled sites alone
asked_same : (query : QueryView) (filled other : ℕ → ℕ) (g : ℕ) → ((h : ℕ) → 1 ≤ h → filled h ≡ other h) → IsAsked query other g → IsAsked query filled g
asked_same query filled other g same (inl none) = inl none
asked_same query filled other g same (inr (h, names, some)) = inr (h, names, rw (same h names.1.0) some)

-- what is allowed depends on the counts alone
pub allowed_same : (query : QueryView) (sites filled sites' filled' : ℕ → ℕ) → ((g : ℕ) → 1 ≤ g → sites g ≡ sites' g) → ((g : ℕ) → 1 ≤ g → filled g ≡ filled' g)
    → IsAllowed query sites filled → IsAllowed query sites' filled'
allowed_same query sites filled sites' filled' same same' allowed g group at some asked =
    rw (sym (same' g at.0)) (allowed g group at (rw (same g at.0) some) (asked_same query filled filled' g same' asked))
