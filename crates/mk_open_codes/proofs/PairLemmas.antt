-- Pairs that all stand in another list.
--     counted_within      of distinct pairs no more pass a test than of those
use Rattle.std.proofs.Common.{◌≡◌, ◌≢◌, ◌∙◌, ℕ, ◌≤◌, Bool, true, ◌&&◌, eqb, List, refl, sym, ap, arith, AllPairs, Contains}
use Rattle.std.specs.Cmp.{IsEquivalence}
use Rattle.std.specs.Bool.{Decides}
use Rattle.std.specs.Prelude.{count_by, filter}
use Rattle.std.specs.Set.{is_member}
use Rattle.std.proofs.lemmas.Bool.Decides.{nat_tests}
use Rattle.std.proofs.lemmas.List.Kept.{AllPairs-filter}
use Rattle.std.proofs.lemmas.List.Sums.{length-filter}
use Rattle.std.proofs.lemmas.Map.Made.{IsDistinct-from_AllPairs, is_member-Decides, is_member-filter, length-le_from_is_member}
use Rattle.mk_text.proofs.ForCallers.{both as both_parts}

-- two numbers, as the ends of a bond
pub record Ends : Type 0 where
  pub first : ℕ
  pub second : ℕ

abbrev pub with_ends : ℕ → ℕ → Ends
with_ends x y = record { first = x; second = y }

abbrev same_ends : Ends → Ends → Bool
same_ends a b = eqb a.first b.first && eqb a.second b.second

ends_are : (a b : Ends) → Decides (same_ends a b) (a ≡ b)
ends_are a b = (forth, back)
  where
    forth : (eqb a.first b.first && eqb a.second b.second) ≡ true → a ≡ b
    forth e =
        let p : a.first ≡ b.first = grind (arith, nat_tests, e) in
        let q : a.second ≡ b.second = grind (arith, nat_tests, e) in
        ap (λ (x : ℕ). with_ends x a.second) p ∙ ap (λ (y : ℕ). with_ends b.first y) q

    back : a ≡ b → (eqb a.first b.first && eqb a.second b.second) ≡ true
    back e = (let p : a.first ≡ b.first = ap (λ (c : Ends). c.first) e in let q : a.second ≡ b.second = ap (λ (c : Ends). c.second) e in grind (arith, nat_tests))

ends_equal : IsEquivalence same_ends
ends_equal = record {
  refl = λ a. (ends_are a a).1 refl;
  symm = λ a b. (grind (arith, nat_tests));
  congr = λ a b c same. (let is = (ends_are a b).0 same in ap (λ (x : Ends). same_ends x c) is);
}

-- of distinct pairs that all stand in another list no more pass a test than of that
pub counted_within : (p : Ends → Bool) (xs ys : List Ends) → AllPairs (λ a b. a ≢ b) xs → ((a : Ends) → Contains xs a → Contains ys a) → count_by p xs ≤ count_by p ys
counted_within p xs ys distinct all =
    let within = length-le_from_is_member ends_equal (filter p xs) (filter p ys) (IsDistinct-from_AllPairs ends_are (filter p xs) (AllPairs-filter (λ a b. a ≢ b) p xs distinct)) member in
    omega (arith, within, length-filter p xs, length-filter p ys)
  where
    same_test : (a b : Ends) → same_ends a b ≡ true → p a ≡ p b
    same_test a b same = ap p ((ends_are a b).0 same)

    member : (q : Ends) → is_member same_ends (filter p xs) q ≡ true → is_member same_ends (filter p ys) q ≡ true
    member q is =
        let both = both_parts (is_member same_ends xs q) (p q) (sym (is_member-filter ends_equal p q (λ x. same_test q x) xs) ∙ is) in
        let there : is_member same_ends ys q ≡ true = (is_member-Decides ends_are ys q).1 (all q ((is_member-Decides ends_are xs q).0 both.0)) in
        is_member-filter ends_equal p q (λ x. same_test q x) ys ∙ rw (there, both.1) refl
