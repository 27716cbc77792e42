-- The keys of a shelf, record by record.
--     at_first                          no record is open at the start
--     ready_in, found_key, found_none   a record is opened, the next key in it, or none
--     at_next, no_key                   the next record, or none
--     no_record_held, none_above        numbers that aren't held
use Rattle.std.proofs.Common.{◌≡◌, ℕ, ◌+◌, ◌≤◌, inl, inr, Bool, true, false, cond, eqb, List, [], ◌∷◌, ◌++◌, None, refl, sym, ap, subst, ◌∙◌, arith}
use Rattle.std.proofs.lemmas.Bool.{cases_eq, cases_lt, eqb-true}
use Rattle.std.proofs.lemmas.Bool.Decides.{nat_tests}
use Rattle.mk_text.specs.Rising.{IsBelow, IsLeast, IsLeastFrom}
use Rattle.mk_text.proofs.ForCallers.{not_below_itself}
use Rattle.mk_model.specs.Keys.{IsKey, IsOccurrence}
use Rattle.mk_model.specs.Molecules.{Molecule}
use Rattle.mk_model.specs.Queries.{QueryView}
use Rattle.mk_rows.specs.declared.by_number.Numbered.{Numbered}
use Rattle.mk_rows.specs.Rows.{holds, IsGreatest, NoneFrom}
use Rattle.mk_search.specs.Begins.{IsLeftBy}
use Rattle.mk_search.specs.Levels.{AtBacks, AtFronts, IsPair}
use Rattle.mk_expansions.specs.Starts.{first_number, rest_in}
use Rattle.mk_search.specs.Pages.{IsHeldIn}
use Rattle.mk_search.specs.Records.{HasKeys, IsNextRecord, NoRecord}
use Rattle.mk_search.specs.Stages.{IsRecord, OccursIn}
use Rattle.mk_expansions.specs.Starts.{IsBehind}
use Rattle.mk_search.proofs.LevelLemmas.{at_back, closes, goes_up, none_behind, opens, takes_least}
use Rattle.mk_search.proofs.RecordsLemmas.{held_number, one_molecule, passed_down, passed_up, records_apart}

-- ---- the order

-- a number that isn't below another, as lists
pub number_from : (from n : ℕ) → from ≤ n → IsBelow (n ∷ []) (from ∷ []) → ⊥
number_from from n up (inl less) = omega (arith, less, up)
number_from from n up (inr h) = h.1

-- what a number leaves of the place
pub behind_number : (place : List ℕ) (n : ℕ) → IsBehind (n ∷ []) place (rest_in place n)
behind_number [] n = inr (refl, λ behind e. absurd cc)
behind_number (p ∷ place) n = by_test (eqb p n) refl
  where
    by_test : (b : Bool) → eqb p n ≡ b → IsBehind (n ∷ []) (p ∷ place) (cond b place [])
    by_test true same = inl (ap (λ (m : ℕ). m ∷ place) (eqb-true p n same))
    by_test false other = inr (refl, λ behind e. absurd (let same : p ≡ n = cc in grind (arith, nat_tests)))

-- behind its own number a place leaves what stands there
pub rest_same : (n : ℕ) (xs : List ℕ) → rest_in (n ∷ xs) n ≡ xs
rest_same n xs = (let test : eqb n n ≡ true = grind (arith, nat_tests) in rw test refl)

lower_number : (m n : ℕ) (xs ys : List ℕ) → IsBelow (m ∷ xs) (n ∷ ys) → m ≤ n
lower_number m n xs ys (inl less) = omega arith
lower_number m n xs ys (inr h) = omega (arith, h.0)

module _ (rows : List (Numbered Molecule)) (query : QueryView) where
  -- ---- at the start

  pub at_first : (place : List ℕ) → AtFronts (IsRecord rows) (OccursIn rows query) place (first_number place ∷ [])
  at_first place = record {
    below = λ front back is _ not under. below_place place is.number back (subst (λ (zs : List ℕ). IsBelow (zs ++ back) place → ⊥) is.is not)
        (subst (λ (zs : List ℕ). IsBelow zs (first_number place ∷ [])) is.is under);
    above = λ front back is _ not apart below. above_place place is.number back (subst (λ (zs : List ℕ). IsBelow zs (first_number place ∷ []) → ⊥) is.is not)
        (subst (λ (zs : List ℕ). (behind : List ℕ) → place ≡ zs ++ behind → ⊥) is.is apart) (subst (λ (zs : List ℕ). IsBelow (zs ++ back) place) is.is below);
    first = λ front behind is e over. first_place place is.number behind (subst (λ (zs : List ℕ). place ≡ zs ++ behind) is.is e)
        (subst (λ (zs : List ℕ). IsBelow (first_number place ∷ []) zs) is.is over);
    fronts = λ front is not. subst (IsLeftBy place) (sym is.is) (from_place place is.number (subst (λ (zs : List ℕ). IsBelow zs (first_number place ∷ []) → ⊥) is.is not));
  }
    where
      below_place : (place : List ℕ) (n : ℕ) (back : List ℕ) → (IsBelow (n ∷ back) place → ⊥) → IsBelow (n ∷ []) (first_number place ∷ []) → ⊥
      below_place [] n back not (inl less) = omega (arith, less)
      below_place [] n back not (inr h) = h.1
      below_place (p ∷ place) n back not (inl less) = not (inl less)
      below_place (p ∷ place) n back not (inr h) = h.1

      above_place : (place : List ℕ) (n : ℕ) (back : List ℕ) → (IsBelow (n ∷ []) (first_number place ∷ []) → ⊥) → ((behind : List ℕ) → place ≡ n ∷ behind → ⊥) → IsBelow (n ∷ back) place → ⊥
      above_place [] n back not apart below = below
      above_place (p ∷ place) n back not apart (inl less) = not (inl less)
      above_place (p ∷ place) n back not apart (inr h) = apart place (ap (λ (m : ℕ). m ∷ place) (sym h.0))

      from_place : (place : List ℕ) (n : ℕ) → (IsBelow (n ∷ []) (first_number place ∷ []) → ⊥) → IsLeftBy place (n ∷ [])
      from_place [] n not = inl (λ below. below)
      from_place (p ∷ place) n not =
          elim (cases_eq p n) [
            | inl same ↦ inr (place, ap (λ (m : ℕ). m ∷ place) same)
            | inr other ↦ inl (λ below. elim below [ inl less ↦ not (inl less) | inr h ↦ other (sym h.0) ])
          ]

      first_place : (place : List ℕ) (n : ℕ) (behind : List ℕ) → place ≡ n ∷ behind → IsBelow (first_number place ∷ []) (n ∷ []) → ⊥
      first_place [] n behind e over = absurd cc
      first_place (p ∷ place) n behind e (inl less) = absurd (let same : p ≡ n = cc in omega (arith, same, less))
      first_place (p ∷ place) n behind e (inr h) = h.1

  -- ---- keys as pairs

  pub key_pair : (xs : List ℕ) → IsKey (IsHeldIn rows) query xs → IsPair (IsRecord rows) (OccursIn rows query) xs
  key_pair xs key = record {
    front = key.number ∷ [];
    back = key.numbers;
    is_front = record { number = key.number; mol = key.mol; held = key.held; is = refl };
    is_back = record { of = record { number = key.number; mol = key.mol; held = key.held; is = refl }; occurs = key.occurs };
    whole = key.whole;
  }

  pair_key : (xs : List ℕ) → IsPair (IsRecord rows) (OccursIn rows query) xs → IsKey (IsHeldIn rows) query xs
  pair_key xs pair =
      let of = pair.is_back.of in
      record { number = of.number; mol = of.mol; numbers = pair.back; held = of.held; occurs = pair.is_back.occurs; whole = pair.whole ∙ ap (λ (zs : List ℕ). zs ++ pair.back) of.is }

  -- a list that isn't below a number, as numbers
  up_from : (from n : ℕ) → (IsBelow (n ∷ []) (from ∷ []) → ⊥) → from ≤ n
  up_from from n not = elim (cases_lt n from) [ inl less ↦ absurd (not (inl less)) | inr up ↦ up ]

  -- what is found behind a record from a number on is a key from there on
  has_keys : (from : ℕ) (front back : List ℕ) → OccursIn rows query front back → (IsBelow front (from ∷ []) → ⊥) → (n : ℕ) × (from ≤ n) × (front ≡ n ∷ []) × HasKeys rows query n
  has_keys from front back is not = (
    is.of.number,
    up_from from is.of.number (subst (λ (zs : List ℕ). IsBelow zs (from ∷ []) → ⊥) is.of.is not),
    is.of.is,
    record { mol = is.of.mol; numbers = back; held = is.of.held; occurs = is.occurs },
  )

  pub no_key : (place : List ℕ) (from : ℕ) → AtFronts (IsRecord rows) (OccursIn rows query) place (from ∷ []) → NoRecord rows query from
      → IsLeastFrom place (IsKey (IsHeldIn rows) query) None
  no_key place from at none other has not =
      none_behind (IsRecord rows) (OccursIn rows query) place (from ∷ []) at
      (λ front back is its up. (let k = has_keys from front back its up in none k.0 k.1 k.3))
      other (key_pair other has) not

  -- where no number is held, there is no record
  pub no_record_held : (from : ℕ) → NoneFrom from rows → NoRecord rows query from
  no_record_held from none n up has = (let held : holds n rows ≡ true = held_number rows n has.mol has.held in let none' = none n up in absurd cc)

  -- ---- a record

  module _ (n : ℕ) (mol : Molecule) (held : IsHeldIn rows n mol) where
    is_record : IsRecord rows (n ∷ [])
    is_record = record { number = n; mol = mol; held = held; is = refl }

    occurs_in : (back : List ℕ) → IsOccurrence query mol back → OccursIn rows query (n ∷ []) back
    occurs_in back occurs = record { of = record { number = n; mol = mol; held = held; is = refl }; occurs = occurs }

    in_occurs : (back : List ℕ) → OccursIn rows query (n ∷ []) back → IsOccurrence query mol back
    in_occurs back is =
        let same : is.of.number ≡ n = (let e : n ∷ [] ≡ is.of.number ∷ [] = is.of.is in cc) in
        subst (λ (m : Molecule). IsOccurrence query m back) (one_molecule rows is.of.number n is.of.mol mol same is.of.held held) is.occurs

    pub ready_in : (place : List ℕ) (from : ℕ) → AtFronts (IsRecord rows) (OccursIn rows query) place (from ∷ []) → IsNextRecord rows query from n
        → AtBacks (IsRecord rows) (OccursIn rows query) place (n ∷ []) (rest_in place n)
    ready_in place from at next =
        opens (IsRecord rows) (OccursIn rows query) place (n ∷ [])
        (goes_up (IsRecord rows) (OccursIn rows query) place (from ∷ []) (n ∷ []) at (number_from from n next.not_below) nothing)
        (n ∷ []) (rest_in place n) (record { has = is_record; from = not_below_itself (n ∷ []); least = λ other is not. not }) (behind_number place n)
      where
        nothing : (front back : List ℕ) → IsRecord rows front → OccursIn rows query front back → (IsBelow front (from ∷ []) → ⊥) → IsBelow front (n ∷ []) → ⊥
        nothing front back is its not under =
            let k = has_keys from front back its not in
            let least : n ≤ k.0 = next.least k.0 k.1 k.3 in
            number_from n k.0 least (subst (λ (zs : List ℕ). IsBelow zs (n ∷ [])) k.2 under)

    module _ (place : List ℕ) (at : AtBacks (IsRecord rows) (OccursIn rows query) place (n ∷ []) (rest_in place n)) where
      pub found_key : (numbers : List ℕ) → IsLeast (rest_in place n) (IsOccurrence query mol) numbers → IsLeast place (IsKey (IsHeldIn rows) query) (n ∷ numbers)
      found_key numbers least =
          let pair = takes_least (IsRecord rows) (OccursIn rows query) (records_apart rows) place (n ∷ []) (rest_in place n) at numbers
          (record { has = occurs_in numbers least.has; from = least.from; least = λ other has not. least.least other (in_occurs other has) not }) in
          record { has = pair_key (n ∷ numbers) pair.has; from = pair.from; least = λ other has not. pair.least other (key_pair other has) not }

      pub found_none : IsLeastFrom (rest_in place n) (IsOccurrence query mol) None → AtFronts (IsRecord rows) (OccursIn rows query) place (n ∷ 0 ∷ [])
      found_none none = closes (IsRecord rows) (OccursIn rows query) (records_apart rows) place (n ∷ []) (rest_in place n) at (λ back is not. none back (in_occurs back is) not)

    -- at a place that begins with the number the record is open
    pub found_at : (rest : List ℕ) → AtBacks (IsRecord rows) (OccursIn rows query) (n ∷ rest) (n ∷ []) (rest_in (n ∷ rest) n)
    found_at rest = rw (rest_same n rest) (at_back (IsRecord rows) (OccursIn rows query) (records_apart rows) (n ∷ []) rest is_record)

  -- ---- the next record

  pub at_next : (place : List ℕ) (n : ℕ) → AtFronts (IsRecord rows) (OccursIn rows query) place (n ∷ 0 ∷ []) → AtFronts (IsRecord rows) (OccursIn rows query) place ((n + 1) ∷ [])
  at_next place n at = record {
    below = λ front back is its not under. at.below front back is its not (passed_down rows n front is under);
    above = λ front back is its not apart. at.above front back is its (λ under. not (passed_up rows n front is under)) apart;
    first = λ front behind is e over. at.first front behind is e (later front is over);
    fronts = λ front is not. at.fronts front is (λ under. not (passed_up rows n front is under));
  }
    where
      later : (front : List ℕ) → IsRecord rows front → IsBelow ((n + 1) ∷ []) front → IsBelow (n ∷ 0 ∷ []) front
      later front is over = subst (λ (zs : List ℕ). IsBelow (n ∷ 0 ∷ []) zs) (sym is.is) (by_number (subst (λ (zs : List ℕ). IsBelow ((n + 1) ∷ []) zs) is.is over))
        where
          by_number : IsBelow ((n + 1) ∷ []) (is.number ∷ []) → IsBelow (n ∷ 0 ∷ []) (is.number ∷ [])
          by_number (inl less) = inl (omega (arith, less))
          by_number (inr h) = absurd h.1

-- ---- numbers that aren't held

-- no number is held above the greatest
pub none_above : (rows : List (Numbered Molecule)) (n last : ℕ) → IsGreatest rows last → last ≤ n → NoneFrom (n + 1) rows
none_above rows n last greatest over m up = by_test (holds m rows) refl
  where
    by_test : (b : Bool) → holds m rows ≡ b → holds m rows ≡ false
    by_test true e = absurd (omega (arith, up, over, greatest.most m e))
    by_test false e = e

-- and none where there are no rows
pub none_held : (rows : List (Numbered Molecule)) (n : ℕ) → rows ≡ [] → NoneFrom n rows
none_held rows n none m up = rw none refl
