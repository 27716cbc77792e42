-- The bits that are listed around all bonds are those that some path has.
--     are_bits      a bit stands in the lists exactly where some path has it
use Rattle.std.proofs.Common.{◌≡◌, ◌≢◌, ℕ, zero, suc, ◌+◌, ◌<◌, ◌≤◌, ◌-◌, ◌⊎◌, inl, inr, Bool, true, false, not, cond, ◌||◌, ◌&&◌, eqb, List, [], ◌∷◌, ◌++◌, length, get_or, map, take, Option, Some, None, refl, sym, ap, subst, ◌∙◌, arith, All, AllPairs}
use Rattle.std.specs.Prelude.{nat_le, slice_get, ◌↔◌}
use Rattle.std.specs.List.{flat_map, list_any}
use Rattle.std.proofs.lemmas.Bool.{and_from, and_parts, cases_lt, cases_Bool, eq-eqb, eqb-false, eqb-true, le-leb, leb-true, ne_eqb, or_cases, or_left, or_right}
use Rattle.std.proofs.lemmas.List.Elements.{All-cons, All-nil}
use Rattle.std.proofs.lemmas.List.Kept.{AllPairs-cons}
use Rattle.mk_model.specs.declared.edge.Edge.{Edge}
use Rattle.mk_model.specs.Edges.{HasEnds, Joins, numbers_at}
use Rattle.mk_model.proofs.ForCallers.{at_place, numbers_at-each, place_is, place_within}
use Rattle.mk_model.specs.Screens.{AreJoined, IsBitOf, IsNamed, IsPath, Shown, element_at, path_bit}
use Rattle.mk_screen.specs.Paths.{bits_all_before, bits_all_behind, bits_around, bits_before, bits_behind, bits_of_atom, bits_of_atoms, bits_of_bond, bits_of_bonds, bits_of_edge, differ, end_at, is_named}
use Rattle.mk_screen.proofs.AddsLemmas.{any_append}
use Rattle.mk_screen.proofs.EndsLemmas.{end_joined, joined_end}

-- ---- some item of lists

module _ (p : ℕ → Bool) where
  -- the number passes in a list
  abbrev In : List ℕ → Type 0
  In xs = list_any p xs ≡ true

  record IsFoundIn (f : ℕ → List ℕ) (xs : List ℕ) : Type 0 where
    place : ℕ
    within : place < length xs
    passes : In (f (get_or xs place 0))

  found_in : (f : ℕ → List ℕ) (xs : List ℕ) → In (flat_map f xs) → IsFoundIn f xs
  found_in f [] any = absurd cc
  found_in f (x ∷ xs) any =
      elim (or_cases (list_any p (f x)) (list_any p (flat_map f xs)) (sym (any_append p (f x) (flat_map f xs)) ∙ any)) [
        | inl here ↦ record { place = 0; within = omega arith; passes = here }
        | inr there ↦
            (let found = found_in f xs there in
            record { place = suc found.place; within = (let below = found.within in omega arith); passes = found.passes })
      ]

  given_in : (f : ℕ → List ℕ) (xs : List ℕ) (k : ℕ) → k < length xs → In (f (get_or xs k 0)) → In (flat_map f xs)
  given_in f [] k below passes = absurd (omega arith)
  given_in f (x ∷ xs) zero below passes = any_append p (f x) (flat_map f xs) ∙ or_left (list_any p (f x)) (list_any p (flat_map f xs)) passes
  given_in f (x ∷ xs) (suc k) below passes =
      any_append p (f x) (flat_map f xs) ∙ or_right (list_any p (f x)) (list_any p (flat_map f xs)) (given_in f xs k (omega arith) passes)

  in_left : (xs ys : List ℕ) → In xs → In (xs ++ ys)
  in_left xs ys is = any_append p xs ys ∙ or_left (list_any p xs) (list_any p ys) is

  in_right : (xs ys : List ℕ) → In ys → In (xs ++ ys)
  in_right xs ys is = any_append p xs ys ∙ or_right (list_any p xs) (list_any p ys) is

  in_either : (xs ys : List ℕ) → In (xs ++ ys) → In xs ⊎ In ys
  in_either xs ys is = or_cases (list_any p xs) (list_any p ys) (sym (any_append p xs ys) ∙ is)

  in_first : (x : ℕ) (xs : List ℕ) → p x ≡ true → In (x ∷ xs)
  in_first x xs is = or_left (p x) (list_any p xs) is

  in_later : (x : ℕ) (xs : List ℕ) → In xs → In (x ∷ xs)
  in_later x xs is = or_right (p x) (list_any p xs) is

  in_cases : (x : ℕ) (xs : List ℕ) → In (x ∷ xs) → (p x ≡ true) ⊎ In xs
  in_cases x xs is = or_cases (p x) (list_any p xs) is

  -- in a list that is there only where a test passes
  in_where : (b : Bool) (xs : List ℕ) → In (cond b xs []) → (b ≡ true) × In xs
  in_where true xs is = (refl, is)
  in_where false xs is = absurd cc

-- ---- tests

module _ (shown : Shown) where
  named_true : (x : ℕ) → IsNamed shown x → is_named shown x ≡ true
  named_true x named = and_from (nat_le 1 x) (nat_le 2 (element_at shown.elements x)) (le-leb 1 x named.0) (le-leb 2 (element_at shown.elements x) named.1)

  true_named : (x : ℕ) → is_named shown x ≡ true → IsNamed shown x
  true_named x is =
      let parts = and_parts (nat_le 1 x) (nat_le 2 (element_at shown.elements x)) is in
      (leb-true 1 x parts.0, leb-true 2 (element_at shown.elements x) parts.1)

  differ_true : (x y : ℕ) → x ≢ y → differ x y ≡ true
  differ_true x y other = rw (ne_eqb x y other) refl

  true_differ : (x y : ℕ) → differ x y ≡ true → x ≢ y
  true_differ x y is = elim (cases_Bool (eqb x y)) [
    | inl same ↦ absurd (let none = rw same at is in cc)
    | inr other ↦ eqb-false x y other
  ]

  -- ---- paths from their parts

  -- the ends of a bond in the other order
  joined_back : (x y : ℕ) → AreJoined shown.bonds x y → AreJoined shown.bonds y x
  joined_back x y joined = (joined.0, record { edge = joined.1.edge; at = joined.1.at; ends = elim joined.1.ends [ inl h ↦ inr h | inr h ↦ inl h ] })

  end_is_joined : (x k : ℕ) → k < length (numbers_at shown.bonds x) → AreJoined shown.bonds x (end_at shown.bonds (get_or (numbers_at shown.bonds x) k 0) x)
  end_is_joined x k within =
      let number = get_or (numbers_at shown.bonds x) k 0 in
      (number - 1, end_joined shown.bonds x number (numbers_at-each shown.bonds x k within))

  pub path_1 : (a : ℕ) → IsNamed shown a → IsPath shown (a ∷ [])
  path_1 a named = record {
    some = omega arith;
    few = omega arith;
    named = λ i below. each i below;
    distinct = λ i j d order below. absurd (omega arith);
    joined = λ i below. absurd (omega arith);
  }
    where
      each : (i : ℕ) → i < 1 → IsNamed shown (get_or (a ∷ []) i 0)
      each zero below = named
      each (suc i) below = absurd (omega arith)

  pub path_2 : (a b : ℕ) → IsNamed shown a → IsNamed shown b → a ≢ b → AreJoined shown.bonds a b → IsPath shown (a ∷ b ∷ [])
  path_2 a b named_a named_b ab joined_ab = record {
    some = omega arith;
    few = omega arith;
    named = each;
    distinct = AllPairs-cons (λ (x y : ℕ). x ≢ y) a (b ∷ []) (All-cons (λ (y : ℕ). a ≢ y) b [] ab (All-nil (λ (y : ℕ). a ≢ y))) (λ i j d order below. absurd (omega arith));
    joined = next;
  }
    where
      each : (i : ℕ) → i < 2 → IsNamed shown (get_or (a ∷ b ∷ []) i 0)
      each zero below = named_a
      each (suc zero) below = named_b
      each (suc (suc i)) below = absurd (omega arith)

      next : (i : ℕ) → i + 1 < 2 → AreJoined shown.bonds (get_or (a ∷ b ∷ []) i 0) (get_or (a ∷ b ∷ []) (i + 1) 0)
      next zero below = joined_ab
      next (suc i) below = absurd (omega arith)

  pub path_3 : (a b c : ℕ) → IsNamed shown a → IsNamed shown b → IsNamed shown c → a ≢ b → a ≢ c → b ≢ c → AreJoined shown.bonds a b → AreJoined shown.bonds b c → IsPath shown (a ∷ b ∷ c ∷ [])
  path_3 a b c named_a named_b named_c ab ac bc joined_ab joined_bc = record {
    some = omega arith;
    few = omega arith;
    named = each;
    distinct = AllPairs-cons (λ (x y : ℕ). x ≢ y) a (b ∷ c ∷ [])
        (All-cons (λ (y : ℕ). a ≢ y) b (c ∷ []) ab (All-cons (λ (y : ℕ). a ≢ y) c [] ac (All-nil (λ (y : ℕ). a ≢ y))))
        (path_2 b c named_b named_c bc joined_bc).distinct;
    joined = next;
  }
    where
      each : (i : ℕ) → i < 3 → IsNamed shown (get_or (a ∷ b ∷ c ∷ []) i 0)
      each zero below = named_a
      each (suc zero) below = named_b
      each (suc (suc zero)) below = named_c
      each (suc (suc (suc i))) below = absurd (omega arith)

      next : (i : ℕ) → i + 1 < 3 → AreJoined shown.bonds (get_or (a ∷ b ∷ c ∷ []) i 0) (get_or (a ∷ b ∷ c ∷ []) (i + 1) 0)
      next zero below = joined_ab
      next (suc zero) below = joined_bc
      next (suc (suc i)) below = absurd (omega arith)

  pub path_4 : (a b c d : ℕ) → IsNamed shown a → IsNamed shown b → IsNamed shown c → IsNamed shown d → a ≢ b → a ≢ c → a ≢ d → b ≢ c → b ≢ d → c ≢ d
      → AreJoined shown.bonds a b → AreJoined shown.bonds b c → AreJoined shown.bonds c d → IsPath shown (a ∷ b ∷ c ∷ d ∷ [])
  path_4 a b c d named_a named_b named_c named_d ab ac ad bc bd cd joined_ab joined_bc joined_cd = record {
    some = omega arith;
    few = omega arith;
    named = each;
    distinct = AllPairs-cons (λ (x y : ℕ). x ≢ y) a (b ∷ c ∷ d ∷ [])
        (All-cons (λ (y : ℕ). a ≢ y) b (c ∷ d ∷ []) ab (All-cons (λ (y : ℕ). a ≢ y) c (d ∷ []) ac (All-cons (λ (y : ℕ). a ≢ y) d [] ad (All-nil (λ (y : ℕ). a ≢ y)))))
        (path_3 b c d named_b named_c named_d bc bd cd joined_bc joined_cd).distinct;
    joined = next;
  }
    where
      each : (i : ℕ) → i < 4 → IsNamed shown (get_or (a ∷ b ∷ c ∷ d ∷ []) i 0)
      each zero below = named_a
      each (suc zero) below = named_b
      each (suc (suc zero)) below = named_c
      each (suc (suc (suc zero))) below = named_d
      each (suc (suc (suc (suc i)))) below = absurd (omega arith)

      next : (i : ℕ) → i + 1 < 4 → AreJoined shown.bonds (get_or (a ∷ b ∷ c ∷ d ∷ []) i 0) (get_or (a ∷ b ∷ c ∷ d ∷ []) (i + 1) 0)
      next zero below = joined_ab
      next (suc zero) below = joined_bc
      next (suc (suc zero)) below = joined_cd
      next (suc (suc (suc i))) below = absurd (omega arith)

  -- ---- each bit in the lists is one of a path

  module _ (bit : ℕ) where
    p : ℕ → Bool
    p c = eqb c bit

    made : (path : List ℕ) → IsPath shown path → p (path_bit shown path) ≡ true → IsBitOf shown bit
    unfolding p
    made path is same = record { path = path; is = is; bit = eqb-true (path_bit shown path) bit same }

    module _ (b c : ℕ) (named_b : IsNamed shown b) (named_c : IsNamed shown c) (bc : b ≢ c) (joined_bc : AreJoined shown.bonds b c) where
      cb : c ≢ b
      cb same = bc (sym same)

      around_made : (a d : ℕ) → IsNamed shown a → a ≢ b → a ≢ c → AreJoined shown.bonds a b → AreJoined shown.bonds c d → In p (bits_around shown a b c d) → IsBitOf shown bit
      unfolding bits_around
      around_made a d named_a ab ac joined_ab joined_cd any =
          let is = in_where p (is_named shown d && (differ d a && (differ d b && differ d c))) (path_bit shown (a ∷ b ∷ c ∷ d ∷ []) ∷ path_bit shown (d ∷ c ∷ b ∷ a ∷ []) ∷ []) any in
          let one = and_parts (is_named shown d) (differ d a && (differ d b && differ d c)) is.0 in
          let two = and_parts (differ d a) (differ d b && differ d c) one.1 in
          let three = and_parts (differ d b) (differ d c) two.1 in
          let named_d = true_named d one.0 in
          let da = true_differ d a two.0 in
          let db = true_differ d b three.0 in
          let dc = true_differ d c three.1 in
          elim (in_cases p (path_bit shown (a ∷ b ∷ c ∷ d ∷ [])) (path_bit shown (d ∷ c ∷ b ∷ a ∷ []) ∷ []) is.1) [
            | inl here ↦ made (a ∷ b ∷ c ∷ d ∷ []) (path_4 a b c d named_a named_b named_c named_d ab ac (λ e. da (sym e)) bc (λ e. db (sym e)) (λ e. dc (sym e)) joined_ab joined_bc joined_cd) here
            | inr later ↦ elim (in_cases p (path_bit shown (d ∷ c ∷ b ∷ a ∷ [])) [] later) [
              | inl here ↦ made (d ∷ c ∷ b ∷ a ∷ []) (path_4 d c b a named_d named_c named_b named_a dc db da cb
                  (λ e. ac (sym e)) (λ e. ab (sym e)) (joined_back c d joined_cd) (joined_back b c joined_bc)
                  (joined_back a b joined_ab)) here
              | inr nothing ↦ absurd cc
            ]
          ]

      before_made : (a : ℕ) → AreJoined shown.bonds b a → In p (bits_before shown a b c) → IsBitOf shown bit
      unfolding bits_before
      before_made a joined_ba any =
          let f = λ (number : ℕ). bits_around shown a b c (end_at shown.bonds number c) in
          let is = in_where p (is_named shown a && (differ a b && differ a c)) (path_bit shown (a ∷ b ∷ c ∷ []) ∷ path_bit shown (c ∷ b ∷ a ∷ []) ∷ flat_map f (numbers_at shown.bonds c)) any in
          let one = and_parts (is_named shown a) (differ a b && differ a c) is.0 in
          let two = and_parts (differ a b) (differ a c) one.1 in
          let named_a = true_named a one.0 in
          let ab = true_differ a b two.0 in
          let ac = true_differ a c two.1 in
          let joined_ab = joined_back b a joined_ba in
          elim (in_cases p (path_bit shown (a ∷ b ∷ c ∷ [])) (path_bit shown (c ∷ b ∷ a ∷ []) ∷ flat_map f (numbers_at shown.bonds c)) is.1) [
            | inl here ↦ made (a ∷ b ∷ c ∷ []) (path_3 a b c named_a named_b named_c ab ac bc joined_ab joined_bc) here
            | inr later ↦ elim (in_cases p (path_bit shown (c ∷ b ∷ a ∷ [])) (flat_map f (numbers_at shown.bonds c)) later) [
              | inl here ↦ made (c ∷ b ∷ a ∷ []) (path_3 c b a named_c named_b named_a cb (λ e. ac (sym e)) (λ e. ab (sym e)) (joined_back b c joined_bc) joined_ba) here
              | inr there ↦
                  (let found = found_in p f (numbers_at shown.bonds c) there in
                  let number = get_or (numbers_at shown.bonds c) found.place 0 in
                  around_made a (end_at shown.bonds number c) named_a ab ac joined_ab (end_is_joined c found.place found.within) found.passes)
            ]
          ]

      behind_made : (d : ℕ) → AreJoined shown.bonds c d → In p (bits_behind shown b c d) → IsBitOf shown bit
      unfolding bits_behind
      behind_made d joined_cd any =
          let is = in_where p (is_named shown d && (differ d b && differ d c)) (path_bit shown (b ∷ c ∷ d ∷ []) ∷ path_bit shown (d ∷ c ∷ b ∷ []) ∷ []) any in
          let one = and_parts (is_named shown d) (differ d b && differ d c) is.0 in
          let two = and_parts (differ d b) (differ d c) one.1 in
          let named_d = true_named d one.0 in
          let db = true_differ d b two.0 in
          let dc = true_differ d c two.1 in
          elim (in_cases p (path_bit shown (b ∷ c ∷ d ∷ [])) (path_bit shown (d ∷ c ∷ b ∷ []) ∷ []) is.1) [
            | inl here ↦ made (b ∷ c ∷ d ∷ []) (path_3 b c d named_b named_c named_d bc (λ e. db (sym e)) (λ e. dc (sym e)) joined_bc joined_cd) here
            | inr later ↦ elim (in_cases p (path_bit shown (d ∷ c ∷ b ∷ [])) [] later) [
              | inl here ↦ made (d ∷ c ∷ b ∷ []) (path_3 d c b named_d named_c named_b dc db cb (joined_back c d joined_cd) (joined_back b c joined_bc)) here
              | inr nothing ↦ absurd cc
            ]
          ]

      all_before_made : In p (bits_all_before shown b c) → IsBitOf shown bit
      unfolding bits_all_before
      all_before_made any =
          let found = found_in p (λ number. bits_before shown (end_at shown.bonds number b) b c) (numbers_at shown.bonds b) any in
          before_made (end_at shown.bonds (get_or (numbers_at shown.bonds b) found.place 0) b) (end_is_joined b found.place found.within) found.passes

      all_behind_made : In p (bits_all_behind shown b c) → IsBitOf shown bit
      unfolding bits_all_behind
      all_behind_made any =
          let found = found_in p (λ number. bits_behind shown b c (end_at shown.bonds number c)) (numbers_at shown.bonds c) any in
          behind_made (end_at shown.bonds (get_or (numbers_at shown.bonds c) found.place 0) c) (end_is_joined c found.place found.within) found.passes

    bond_made : (b c : ℕ) → AreJoined shown.bonds b c → In p (bits_of_bond shown b c) → IsBitOf shown bit
    unfolding bits_of_bond
    bond_made b c joined_bc any =
        let rest = bits_all_before shown b c ++ bits_all_behind shown b c in
        let is = in_where p (is_named shown b && (is_named shown c && differ b c)) (path_bit shown (b ∷ c ∷ []) ∷ path_bit shown (c ∷ b ∷ []) ∷ rest) any in
        let one = and_parts (is_named shown b) (is_named shown c && differ b c) is.0 in
        let two = and_parts (is_named shown c) (differ b c) one.1 in
        let named_b = true_named b one.0 in
        let named_c = true_named c two.0 in
        let bc = true_differ b c two.1 in
        elim (in_cases p (path_bit shown (b ∷ c ∷ [])) (path_bit shown (c ∷ b ∷ []) ∷ rest) is.1) [
          | inl here ↦ made (b ∷ c ∷ []) (path_2 b c named_b named_c bc joined_bc) here
          | inr later ↦ elim (in_cases p (path_bit shown (c ∷ b ∷ [])) rest later) [
            | inl here ↦ made (c ∷ b ∷ []) (path_2 c b named_c named_b (λ e. bc (sym e)) (joined_back b c joined_bc)) here
            | inr there ↦ elim (in_either p (bits_all_before shown b c) (bits_all_behind shown b c) there) [
              | inl before ↦ all_before_made b c named_b named_c bc joined_bc before
              | inr behind ↦ all_behind_made b c named_b named_c bc joined_bc behind
            ]
          ]
        ]

    edge_made : (n : ℕ) → In p (bits_of_edge shown (slice_get shown.bonds n)) → IsBitOf shown bit
    edge_made n any = by_edge (slice_get shown.bonds n) refl any
      where
        by_edge : (found : Option Edge) → slice_get shown.bonds n ≡ found → In p (bits_of_edge shown found) → IsBitOf shown bit
        by_edge None is any' = absurd cc
        by_edge (Some edge) is any' = bond_made edge.first edge.second (n, record { edge = edge; at = is; ends = inl (refl, refl) }) any'

    bonds_made : (n : ℕ) → In p (bits_of_bonds shown n) → IsBitOf shown bit
    unfolding bits_of_bonds
    bonds_made zero any = absurd cc
    bonds_made (suc n) any = elim (in_either p (bits_of_bonds shown n) (bits_of_edge shown (slice_get shown.bonds n)) any) [
      | inl earlier ↦ bonds_made n earlier
      | inr here ↦ edge_made n here
    ]

    atom_made : (a : ℕ) → In p (bits_of_atom shown a) → IsBitOf shown bit
    unfolding bits_of_atom
    atom_made a any =
        let is = in_where p (is_named shown a) (path_bit shown (a ∷ []) ∷ []) any in
        elim (in_cases p (path_bit shown (a ∷ [])) [] is.1) [
          | inl here ↦ made (a ∷ []) (path_1 a (true_named a is.0)) here
          | inr nothing ↦ absurd cc
        ]

    atoms_made : (n : ℕ) → In p (bits_of_atoms shown n) → IsBitOf shown bit
    unfolding bits_of_atoms
    atoms_made zero any = absurd cc
    atoms_made (suc n) any = elim (in_either p (bits_of_atoms shown n) (bits_of_atom shown (suc n)) any) [
      | inl earlier ↦ atoms_made n earlier
      | inr here ↦ atom_made (suc n) here
    ]

    -- ---- each path has its bit in the lists

    there : (path : List ℕ) → path_bit shown path ≡ bit → p (path_bit shown path) ≡ true
    unfolding p
    there path same = eq-eqb (path_bit shown path) bit same

    -- in the list of an atom's bonds, by one of its ends
    by_end : (f : ℕ → List ℕ) (x y : ℕ) → AreJoined shown.bonds x y → In p (f y) → In p (flat_map (λ number. f (end_at shown.bonds number x)) (numbers_at shown.bonds x))
    by_end f x y joined is =
        let end = joined_end shown.bonds x y joined.0 joined.1 in
        given_in p (λ number. f (end_at shown.bonds number x)) (numbers_at shown.bonds x) end.place end.within (rw end.is is)

    module _ (b c : ℕ) (named_b : IsNamed shown b) (named_c : IsNamed shown c) (bc : b ≢ c) where
      pair_true : (is_named shown b && (is_named shown c && differ b c)) ≡ true
      pair_true = and_from (is_named shown b) (is_named shown c && differ b c) (named_true b named_b) (and_from (is_named shown c) (differ b c) (named_true c named_c) (differ_true b c bc))

      -- around the bond, behind the bits of its ends
      in_bond : In p (bits_all_before shown b c) ⊎ In p (bits_all_behind shown b c) → In p (bits_of_bond shown b c)
      unfolding bits_of_bond
      in_bond either =
          rw pair_true
          (in_later p (path_bit shown (b ∷ c ∷ [])) (path_bit shown (c ∷ b ∷ []) ∷ (bits_all_before shown b c ++ bits_all_behind shown b c))
          (in_later p (path_bit shown (c ∷ b ∷ [])) (bits_all_before shown b c ++ bits_all_behind shown b c)
          (elim either [
            | inl before ↦ in_left p (bits_all_before shown b c) (bits_all_behind shown b c) before
            | inr behind ↦ in_right p (bits_all_before shown b c) (bits_all_behind shown b c) behind
          ])))

      ends_in : (path_bit shown (b ∷ c ∷ []) ≡ bit) ⊎ (path_bit shown (c ∷ b ∷ []) ≡ bit) → In p (bits_of_bond shown b c)
      unfolding bits_of_bond
      ends_in either =
          rw pair_true
          (elim either [
            | inl same ↦ in_first p (path_bit shown (b ∷ c ∷ [])) (path_bit shown (c ∷ b ∷ []) ∷ (bits_all_before shown b c ++ bits_all_behind shown b c)) (there (b ∷ c ∷ []) same)
            | inr same ↦ in_later p (path_bit shown (b ∷ c ∷ [])) (path_bit shown (c ∷ b ∷ []) ∷ (bits_all_before shown b c ++ bits_all_behind shown b c))
                (in_first p (path_bit shown (c ∷ b ∷ [])) (bits_all_before shown b c ++ bits_all_behind shown b c) (there (c ∷ b ∷ []) same))
          ])

      behind_in : (d : ℕ) → IsNamed shown d → d ≢ b → d ≢ c → AreJoined shown.bonds c d
          → (path_bit shown (b ∷ c ∷ d ∷ []) ≡ bit) ⊎ (path_bit shown (d ∷ c ∷ b ∷ []) ≡ bit)
          → In p (bits_of_bond shown b c)
      unfolding bits_behind bits_all_behind
      behind_in d named_d db dc joined either =
          in_bond (inr (by_end (bits_behind shown b c) c d joined
          (rw (and_from (is_named shown d) (differ d b && differ d c) (named_true d named_d) (and_from (differ d b) (differ d c) (differ_true d b db) (differ_true d c dc)))
          (elim either [
            | inl same ↦ in_first p (path_bit shown (b ∷ c ∷ d ∷ [])) (path_bit shown (d ∷ c ∷ b ∷ []) ∷ []) (there (b ∷ c ∷ d ∷ []) same)
            | inr same ↦ in_later p (path_bit shown (b ∷ c ∷ d ∷ [])) (path_bit shown (d ∷ c ∷ b ∷ []) ∷ []) (in_first p (path_bit shown (d ∷ c ∷ b ∷ [])) [] (there (d ∷ c ∷ b ∷ []) same))
          ]))))

      module _ (a : ℕ) (named_a : IsNamed shown a) (ab : a ≢ b) (ac : a ≢ c) (joined : AreJoined shown.bonds b a) where
        before_true : (is_named shown a && (differ a b && differ a c)) ≡ true
        before_true = and_from (is_named shown a) (differ a b && differ a c) (named_true a named_a) (and_from (differ a b) (differ a c) (differ_true a b ab) (differ_true a c ac))

        in_before : In p (bits_before shown a b c) → In p (bits_of_bond shown b c)
        unfolding bits_all_before
        in_before is = in_bond (inl (by_end (λ x. bits_before shown x b c) b a joined is))

        before_in : (path_bit shown (a ∷ b ∷ c ∷ []) ≡ bit) ⊎ (path_bit shown (c ∷ b ∷ a ∷ []) ≡ bit) → In p (bits_of_bond shown b c)
        unfolding bits_before
        before_in either =
            let f = λ (number : ℕ). bits_around shown a b c (end_at shown.bonds number c) in
            in_before (rw before_true (elim either [
              | inl same ↦ in_first p (path_bit shown (a ∷ b ∷ c ∷ [])) (path_bit shown (c ∷ b ∷ a ∷ []) ∷ flat_map f (numbers_at shown.bonds c)) (there (a ∷ b ∷ c ∷ []) same)
              | inr same ↦ in_later p (path_bit shown (a ∷ b ∷ c ∷ []))
                  (path_bit shown (c ∷ b ∷ a ∷ []) ∷ flat_map f (numbers_at shown.bonds c))
                  (in_first p (path_bit shown (c ∷ b ∷ a ∷ [])) (flat_map f (numbers_at shown.bonds c))
                  (there (c ∷ b ∷ a ∷ []) same))
            ]))

        around_in : (d : ℕ) → IsNamed shown d → d ≢ a → d ≢ b → d ≢ c → AreJoined shown.bonds c d
            → (path_bit shown (a ∷ b ∷ c ∷ d ∷ []) ≡ bit) ⊎ (path_bit shown (d ∷ c ∷ b ∷ a ∷ []) ≡ bit)
            → In p (bits_of_bond shown b c)
        unfolding bits_before bits_around
        around_in d named_d da db dc joined_cd either =
            let f = λ (number : ℕ). bits_around shown a b c (end_at shown.bonds number c) in
            let test = and_from (is_named shown d) (differ d a && (differ d b && differ d c)) (named_true d named_d)
            (and_from (differ d a) (differ d b && differ d c) (differ_true d a da)
            (and_from (differ d b) (differ d c) (differ_true d b db) (differ_true d c dc))) in
            in_before (rw before_true
            (in_later p (path_bit shown (a ∷ b ∷ c ∷ [])) (path_bit shown (c ∷ b ∷ a ∷ []) ∷ flat_map f (numbers_at shown.bonds c))
            (in_later p (path_bit shown (c ∷ b ∷ a ∷ [])) (flat_map f (numbers_at shown.bonds c))
            (by_end (bits_around shown a b c) c d joined_cd
            (rw test (elim either [
              | inl same ↦ in_first p (path_bit shown (a ∷ b ∷ c ∷ d ∷ [])) (path_bit shown (d ∷ c ∷ b ∷ a ∷ []) ∷ []) (there (a ∷ b ∷ c ∷ d ∷ []) same)
              | inr same ↦ in_later p (path_bit shown (a ∷ b ∷ c ∷ d ∷ [])) (path_bit shown (d ∷ c ∷ b ∷ a ∷ []) ∷ [])
                  (in_first p (path_bit shown (d ∷ c ∷ b ∷ a ∷ [])) [] (there (d ∷ c ∷ b ∷ a ∷ []) same))
            ]))))))

    -- around the bond that joins two atoms, in either order of its ends
    in_bonds : (n k : ℕ) → k < n → In p (bits_of_edge shown (slice_get shown.bonds k)) → In p (bits_of_bonds shown n)
    unfolding bits_of_bonds
    in_bonds zero k below is = absurd (omega arith)
    in_bonds (suc n) k below is = elim (cases_lt k n) [
      | inl earlier ↦ in_left p (bits_of_bonds shown n) (bits_of_edge shown (slice_get shown.bonds n)) (in_bonds n k earlier is)
      | inr last ↦ (let same : k ≡ n = omega arith in in_right p (bits_of_bonds shown n) (bits_of_edge shown (slice_get shown.bonds n)) (rw same at is))
    ]

    by_bond : (x y : ℕ) → AreJoined shown.bonds x y → In p (bits_of_bond shown x y) → In p (bits_of_bond shown y x) → In p (bits_of_bonds shown (length shown.bonds))
    by_bond x y joined one other =
        let within = place_within shown.bonds joined.0 joined.1.edge joined.1.at in
        in_bonds (length shown.bonds) joined.0 within
        (rw joined.1.at (by_ends joined.1.edge joined.1.ends))
      where
        by_ends : (edge : Edge) → HasEnds edge x y → In p (bits_of_bond shown edge.first edge.second)
        by_ends edge (inl h) = rw (h.0, h.1) one
        by_ends edge (inr h) = rw (h.0, h.1) other

    in_atoms : (n a : ℕ) → 1 ≤ a → a ≤ n → In p (bits_of_atom shown a) → In p (bits_of_atoms shown n)
    unfolding bits_of_atoms
    in_atoms zero a least most is = absurd (omega arith)
    in_atoms (suc n) a least most is = elim (cases_lt a (suc n)) [
      | inl earlier ↦ in_left p (bits_of_atoms shown n) (bits_of_atom shown (suc n)) (in_atoms n a least (omega arith) is)
      | inr last ↦ (let same : a ≡ suc n = omega arith in in_right p (bits_of_atoms shown n) (bits_of_atom shown (suc n)) (rw same at is))
    ]

    within_named : (elements : List ℕ) (i : ℕ) → 2 ≤ get_or elements i 0 → i < length elements
    within_named [] i some = absurd (omega arith)
    within_named (z ∷ elements) zero some = omega arith
    within_named (z ∷ elements) (suc i) some = (let below = within_named elements i some in omega arith)

    -- the bit of a path
    has : (path : List ℕ) → IsPath shown path → path_bit shown path ≡ bit → In p (bits_of_atoms shown (length shown.elements)) ⊎ In p (bits_of_bonds shown (length shown.bonds))
    unfolding bits_of_atom
    has [] is same = absurd (let some = is.some in omega arith)
    has (a ∷ []) is same =
        let named = is.named 0 (omega arith) in
        let below = within_named shown.elements (a - 1) named.1 in
        inl (in_atoms (length shown.elements) a named.0 (omega (arith, named.0)) (rw (named_true a named) (in_first p (path_bit shown (a ∷ [])) [] (there (a ∷ []) same))))
    has (a ∷ b ∷ []) is same =
        let named_a = is.named 0 (omega arith) in
        let named_b = is.named 1 (omega arith) in
        let ab = is.distinct 0 1 0 (omega arith) (omega arith) in
        inr (by_bond a b (is.joined 0 (omega arith)) (ends_in a b named_a named_b ab (inl same)) (ends_in b a named_b named_a (λ e. ab (sym e)) (inr same)))
    has (a ∷ b ∷ c ∷ []) is same =
        let named_a = is.named 0 (omega arith) in
        let named_b = is.named 1 (omega arith) in
        let named_c = is.named 2 (omega arith) in
        let ab = is.distinct 0 1 0 (omega arith) (omega arith) in
        let ac = is.distinct 0 2 0 (omega arith) (omega arith) in
        let bc = is.distinct 1 2 0 (omega arith) (omega arith) in
        let back = joined_back a b (is.joined 0 (omega arith)) in
        inr (by_bond b c (is.joined 1 (omega arith)) (before_in b c named_b named_c bc a named_a ab ac back (inl same))
        (behind_in c b named_c named_b (λ e. bc (sym e)) a named_a ac ab back (inr same)))
    has (a ∷ b ∷ c ∷ d ∷ []) is same =
        let named_a = is.named 0 (omega arith) in
        let named_b = is.named 1 (omega arith) in
        let named_c = is.named 2 (omega arith) in
        let named_d = is.named 3 (omega arith) in
        let ab = is.distinct 0 1 0 (omega arith) (omega arith) in
        let ac = is.distinct 0 2 0 (omega arith) (omega arith) in
        let ad = is.distinct 0 3 0 (omega arith) (omega arith) in
        let bc = is.distinct 1 2 0 (omega arith) (omega arith) in
        let bd = is.distinct 1 3 0 (omega arith) (omega arith) in
        let cd = is.distinct 2 3 0 (omega arith) (omega arith) in
        let back = joined_back a b (is.joined 0 (omega arith)) in
        let on = is.joined 2 (omega arith) in
        inr (by_bond b c (is.joined 1 (omega arith))
        (around_in b c named_b named_c bc a named_a ab ac back d named_d (λ e. ad (sym e)) (λ e. bd (sym e)) (λ e. cd (sym e)) on (inl same))
        (around_in c b named_c named_b (λ e. bc (sym e)) d named_d (λ e. cd (sym e)) (λ e. bd (sym e)) on a named_a ad ac ab back (inr same)))
    has (a ∷ b ∷ c ∷ d ∷ e ∷ path) is same = absurd (let few = is.few in omega arith)

    -- a bit stands in the lists exactly where some path has it
    pub are_bits : (list_any (λ c. eqb c bit) (bits_of_atoms shown (length shown.elements) ++ bits_of_bonds shown (length shown.bonds)) ≡ true) ↔ IsBitOf shown bit
    unfolding p
    are_bits = (
      (λ any. elim (in_either p (bits_of_atoms shown (length shown.elements)) (bits_of_bonds shown (length shown.bonds)) any) [
        | inl atom ↦ atoms_made (length shown.elements) atom
        | inr bond ↦ bonds_made (length shown.bonds) bond
      ]),
      (λ is. elim (has is.path is.is is.bit) [
        | inl atom ↦ in_left p (bits_of_atoms shown (length shown.elements)) (bits_of_bonds shown (length shown.bonds)) atom
        | inr bond ↦ in_right p (bits_of_atoms shown (length shown.elements)) (bits_of_bonds shown (length shown.bonds)) bond
      ]),
    )
