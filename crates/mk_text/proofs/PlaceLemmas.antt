-- The place behind a list: the list with 0 behind it.
--     below_after         a list is below it
--     not_below_after     what isn't below it is above the list
--     between_none        between the two is the list alone
use Rattle.std.proofs.Common.{◌≡◌, ℕ, inl, inr, List, [], ◌∷◌, ◌++◌, refl, sym, arith}
use Rattle.std.proofs.lemmas.Bool.{cases_lt, cases_eq}
use Rattle.mk_text.specs.Rising.{IsBelow}

pub below_after : (xs : List ℕ) → IsBelow xs (xs ++ (0 ∷ []))
below_after [] = tt
below_after (x ∷ xs) = inr (refl, below_after xs)

pub not_below_after : (xs ys : List ℕ) → (IsBelow ys (xs ++ (0 ∷ [])) → ⊥) → IsBelow xs ys
not_below_after [] [] not = absurd (not tt)
not_below_after [] (y ∷ ys) not = tt
not_below_after (x ∷ xs) [] not = absurd (not tt)
not_below_after (x ∷ xs) (y ∷ ys) not =
    elim (cases_lt x y) [
      | inl less ↦ inl less
      | inr more ↦ elim (cases_eq x y) [
        | inl same ↦ inr (same, not_below_after xs ys (λ below. not (inr (sym same, below))))
        | inr other ↦ absurd (not (inl (omega (arith, more, other))))
      ]
    ]

pub between_none : (xs ys : List ℕ) → (IsBelow ys xs → ⊥) → IsBelow ys (xs ++ (0 ∷ [])) → xs ≡ ys
between_none [] [] not below = refl
between_none [] (y ∷ ys) not (inl less) = absurd (omega arith)
between_none [] (y ∷ ys) not (inr h) = absurd h.1
between_none (x ∷ xs) [] not below = absurd (not tt)
between_none (x ∷ xs) (y ∷ ys) not (inl less) = absurd (not (inl less))
between_none (x ∷ xs) (y ∷ ys) not (inr h) =
    let rest : xs ≡ ys = between_none xs ys (λ below. not (inr (h.0, below))) h.1 in
    let first : x ≡ y = sym h.0 in
    cc
