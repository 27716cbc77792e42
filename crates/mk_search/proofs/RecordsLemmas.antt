-- The records of a shelf, and keys made of them.
--     held_number, one_molecule, held_either      numbers that are held
--     records_apart             no record's number begins another
--     passed_up, passed_down    the place behind a number
--     key_made, made_key        a key from the place on is a record's number, and an occurrence behind it
use Rattle.std.proofs.Common.{◌≡◌, ℕ, ◌+◌, ◌⊎◌, inl, inr, Bool, true, false, nat_eq, List, [], ◌∷◌, ◌++◌, Some, None, refl, sym, ap, ◌∙◌, subst, arith}
use Rattle.std.proofs.lemmas.Bool.{cases_eq, cond_both, eqb-true}
use Rattle.std.proofs.lemmas.Grind.{common_steps}
use Rattle.mk_text.specs.Rising.{IsBelow}
use Rattle.mk_model.specs.Keys.{IsOccurrence, Remains}
use Rattle.mk_model.specs.Molecules.{Molecule}
use Rattle.mk_model.specs.Queries.{QueryView}
use Rattle.mk_rows.specs.declared.by_number.Numbered.{Numbered}
use Rattle.mk_rows.specs.Rows.{holds, item_at}
use Rattle.mk_rows.proofs.ForCallers.{no_item}
use Rattle.mk_search.specs.Pages.{IsHeldIn}
use Rattle.mk_search.specs.Stages.{IsRecord}
use Rattle.mk_expansions.proofs.ListingLemmas.{IsMade}

-- an occurrence in the molecule of the record, and both together aren't below the place
pub record IsFoundBehind (rows : List (Numbered Molecule)) (query : QueryView) (place front back : List ℕ) : Type 0 where
  pub of : IsRecord rows front
  pub occurs : IsOccurrence query of.mol back
  pub from : IsBelow (front ++ back) place → ⊥

-- ---- rows

-- a number under which a molecule is held
pub held_number : (rows : List (Numbered Molecule)) (n : ℕ) (mol : Molecule) → IsHeldIn rows n mol → holds n rows ≡ true
held_number rows n mol held = by_test (holds n rows) refl
  where
    by_test : (b : Bool) → holds n rows ≡ b → holds n rows ≡ true
    by_test true e = e
    by_test false e = (let none : item_at n rows ≡ None = no_item n rows e in absurd cc)

-- one molecule is held under a number
pub one_molecule : (rows : List (Numbered Molecule)) (n m : ℕ) (mol other : Molecule) → n ≡ m → IsHeldIn rows n mol → IsHeldIn rows m other → mol ≡ other
one_molecule rows n m mol other same held its =
    let here : item_at n rows ≡ Some other = subst (λ (k : ℕ). item_at k rows ≡ Some other) (sym same) its in
    let one : Some mol ≡ Some other = sym held ∙ here in
    cc

-- a number that is held is the first one, or behind it
pub held_either : (n : ℕ) (x : Numbered Molecule) (rows : List (Numbered Molecule)) → holds n (x ∷ rows) ≡ true → (x.number ≡ n) ⊎ (holds n rows ≡ true)
held_either n x rows held =
    cond_both (nat_eq x.number n) true (holds n rows) (λ b. b ≡ true → (x.number ≡ n) ⊎ (holds n rows ≡ true))
    (λ e. λ _. inl (eqb-true x.number n e)) (λ e. λ later. inr later) (grind (arith, common_steps, held))

-- ---- the records

module _ (rows : List (Numbered Molecule)) where
  pub records_apart : (front more : List ℕ) → IsRecord rows front → IsRecord rows (front ++ more) → more ≡ []
  records_apart front more is longer =
      let whole : is.number ∷ more ≡ longer.number ∷ [] = ap (λ (zs : List ℕ). zs ++ more) (sym is.is) ∙ longer.is in
      cc

  -- the place behind a number is the number above it
  pub passed_up : (n : ℕ) (front : List ℕ) → IsRecord rows front → IsBelow front (n ∷ 0 ∷ []) → IsBelow front ((n + 1) ∷ [])
  passed_up n front is below =
      subst (λ (zs : List ℕ). IsBelow zs ((n + 1) ∷ [])) (sym is.is)
      (elim (subst (λ (zs : List ℕ). IsBelow zs (n ∷ 0 ∷ [])) is.is below) [ inl less ↦ inl (omega (arith, less)) | inr h ↦ inl (omega (arith, h.0)) ])

  pub passed_down : (n : ℕ) (front : List ℕ) → IsRecord rows front → IsBelow front ((n + 1) ∷ []) → IsBelow front (n ∷ 0 ∷ [])
  passed_down n front is below =
      subst (λ (zs : List ℕ). IsBelow zs (n ∷ 0 ∷ [])) (sym is.is) (by_place is.number (subst (λ (zs : List ℕ). IsBelow zs ((n + 1) ∷ [])) is.is below))
    where
      by_place : (m : ℕ) → IsBelow (m ∷ []) ((n + 1) ∷ []) → IsBelow (m ∷ []) (n ∷ 0 ∷ [])
      by_place m (inl less) = elim (cases_eq m n) [ inl same ↦ inr (same, tt) | inr other ↦ inl (omega (arith, less, other)) ]
      by_place m (inr h) = absurd h.1

  -- ---- keys

  module _ (query : QueryView) (place : List ℕ) where
    pub made_key : (xs : List ℕ) → IsMade (IsRecord rows) (IsFoundBehind rows query place) xs → Remains (IsHeldIn rows) query place xs
    made_key xs made =
        let of = made.is_back.of in (
          record { number = of.number; mol = of.mol; numbers = made.back; held = of.held; occurs = made.is_back.occurs; whole = made.whole ∙ ap (λ (zs : List ℕ). zs ++ made.back) of.is },
          subst (λ (zs : List ℕ). IsBelow zs place → ⊥) (sym made.whole) made.is_back.from,
        )

    pub key_made : (xs : List ℕ) → Remains (IsHeldIn rows) query place xs → IsMade (IsRecord rows) (IsFoundBehind rows query place) xs
    key_made xs is =
        let key = is.0 in
        let of : IsRecord rows (key.number ∷ []) = record { number = key.number; mol = key.mol; held = key.held; is = refl } in
        record {
          front = key.number ∷ [];
          back = key.numbers;
          is_front = of;
          is_back = record { of = of; occurs = key.occurs; from = subst (λ (zs : List ℕ). IsBelow zs place → ⊥) key.whole is.1 };
          whole = key.whole;
        }
