-- Rows by rising number: where a number's row stands, and what is put in, replaced and taken out there.
use Rattle.std.proofs.Common.{◌≡◌, ℕ, zero, suc, ◌+◌, ◌-◌, ◌<◌, ◌≤◌, ◌⊎◌, inl, inr, true, false, not, List, [], ◌∷◌, ◌++◌, length, take, drop, get_or, slice_set, nat_eq, nat_lt, if◌then◌else◌, Some, None, arith, refl, sym, ap, ◌∙◌, subst}
use Rattle.std.specs.Prelude.{Result, Ok, Err, IsOk, is_ok, slice_get}
use Rattle.std.specs.List.{AllByRecursion}
use Rattle.std.specs.List.Sorted.{IsNonDecreasingBy, IsPartitionPoint}
use Rattle.std.proofs.lemmas.Bool.{cond_both, eqb-true, ltb-true, ltb-false}
use Rattle.std.proofs.lemmas.Grind.{common_steps}
use Rattle.mk_rows.specs.declared.by_number.Numbered.{Numbered}
use Rattle.mk_rows.specs.Rows.{holds, item_at, IsGreatest, IsLeastFrom, NoneFrom, IsRising, number_of, place_of, put_in_order, replaced, without}

below_other : (a b : ℕ) → a ≤ b → nat_eq a b ≡ false → a < b
below_other a b le differ = grind (arith, common_steps)

module _ {T : Type 0} where
  -- ---- numbers above others

  -- above a number that is above another, all are
  above_through : (n m : ℕ) (rows : List (Numbered T)) → n ≤ m → AllByRecursion (λ later. m < later.number) rows → AllByRecursion (λ later. n < later.number) rows
  above_through n m [] le h = tt
  above_through n m (row ∷ rows) le h = (omega (arith, le, h.0), above_through n m rows le h.1)

  -- rows above a number don't hold it
  pub none_above : (n : ℕ) (rows : List (Numbered T)) → AllByRecursion (λ later. n < later.number) rows → holds n rows ≡ false
  none_above n [] h = refl
  none_above n (row ∷ rows) h =
      let more : n < row.number = h.0 in
      grind (arith, common_steps, none_above n rows h.1)

  -- nor any below it
  pub place_above : (n : ℕ) (rows : List (Numbered T)) → AllByRecursion (λ later. n < later.number) rows → place_of n rows ≡ 0
  place_above n [] h = refl
  place_above n (row ∷ rows) h =
      let more : n < row.number = h.0 in
      grind (arith, common_steps)

  -- a row that stands before all
  without_above : (n : ℕ) (rows : List (Numbered T)) → AllByRecursion (λ later. n < later.number) rows → without n rows ≡ rows
  without_above n [] h = refl
  without_above n (row ∷ rows) h =
      let more : n < row.number = h.0 in
      grind (arith, common_steps, without_above n rows h.1)

  -- ---- the place of a number

  pub place_within : (n : ℕ) (rows : List (Numbered T)) → place_of n rows ≤ length rows
  place_within n [] = omega arith
  place_within n (row ∷ rows) = grind (arith, common_steps, place_within n rows)

  -- the rows before the place are below the number, and none from there on is
  pub place_is : (n : ℕ) (rows : List (Numbered T)) (at : ℕ) → at ≤ length rows → ((k : ℕ) (d : Numbered T) → k < at → (get_or rows k d).number < n)
      → ((k : ℕ) (d : Numbered T) → at ≤ k → k < length rows → n ≤ (get_or rows k d).number) → at ≡ place_of n rows
  place_is n [] at within below above = omega arith
  place_is n (row ∷ rows) zero within below above =
      let least : n ≤ row.number = above 0 row (omega arith) (omega arith) in
      grind (arith, common_steps)
  place_is n (row ∷ rows) (suc at) within below above =
      let less : row.number < n = below 0 row (omega arith) in
      let rest : at ≡ place_of n rows = place_is n rows at (omega arith) (λ k d lt. below (suc k) d (omega arith)) (λ k d le lt. above (suc k) d (omega arith) (omega arith)) in
      grind (arith, common_steps, rest)

  later_above : (n : ℕ) (rows : List (Numbered T)) (k : ℕ) (d : Numbered T) → AllByRecursion (λ later. n < later.number) rows → k < length rows → n < (get_or rows k d).number
  later_above n [] k d h lt = absurd (omega arith)
  later_above n (x ∷ rows) zero d h lt = h.0
  later_above n (x ∷ rows) (suc k) d h lt = later_above n rows k d h.1 (omega arith)

  -- no later number is lower
  pub rising_order : (rows : List (Numbered T)) → IsRising rows → IsNonDecreasingBy (λ (row : Numbered T). row.number) rows
  rising_order [] rising i j d le lt = absurd (omega arith)
  rising_order (x ∷ rows) rising zero zero d le lt = omega arith
  rising_order (x ∷ rows) rising zero (suc j) d le lt = let later = later_above x.number rows j d rising.0 (omega arith) in omega (arith, later)
  rising_order (x ∷ rows) rising (suc i) zero d le lt = absurd (omega arith)
  rising_order (x ∷ rows) rising (suc i) (suc j) d le lt = rising_order rows rising.1 i j d (omega arith) (omega arith)

  -- a partition point by the number is its place
  pub place_found : (n : ℕ) (rows : List (Numbered T)) (at : ℕ) → at ≤ length rows
      → IsPartitionPoint (λ (y : Numbered T). nat_lt y.number n ≡ true) (λ (y : Numbered T). nat_lt y.number n ≡ false) rows at → at ≡ place_of n rows
  place_found n rows at within point =
      place_is n rows at within (λ k d lt. ltb-true _ _ (point.0 k d (omega arith) lt)) (λ k d le lt. ltb-false _ _ (point.1 k d le lt))

  -- the number is held exactly where the row at its place has it
  pub held_at : (n : ℕ) (rows : List (Numbered T)) (d : Numbered T) → IsRising rows → place_of n rows < length rows
      → holds n rows ≡ nat_eq (get_or rows (place_of n rows) d).number n
  held_at n [] d rising lt = absurd (omega arith)
  held_at n (row ∷ rows) d rising lt =
      cond_both (nat_lt row.number n) (place_of n rows + 1) 0 (λ at. at < suc (length rows) → holds n (row ∷ rows) ≡ nat_eq (get_or (row ∷ rows) at d).number n)
      (λ e. λ within.
      let less : row.number < n = ltb-true _ _ e in
      let rest : holds n rows ≡ nat_eq (get_or rows (place_of n rows) d).number n = held_at n rows d rising.1 (omega arith) in
      grind (arith, common_steps, rest))
      (λ e. λ within.
      let least : n ≤ row.number = ltb-false _ _ e in
      let none : n < row.number → holds n rows ≡ false = λ more. none_above n rows (above_through n row.number rows (omega arith) rising.0) in
      let others : AllByRecursion (λ later. row.number < later.number) rows = rising.0 in
      grind (arith, common_steps, none))
      lt

  pub not_held_past : (n : ℕ) (rows : List (Numbered T)) → length rows ≤ place_of n rows → holds n rows ≡ false
  not_held_past n [] le = refl
  not_held_past n (row ∷ rows) le = grind (arith, common_steps, not_held_past n rows)

  -- the item under a number that is held is the one at its place
  pub item_there : (n : ℕ) (rows : List (Numbered T)) (d : Numbered T) → IsRising rows → holds n rows ≡ true → item_at n rows ≡ Some (get_or rows (place_of n rows) d).item
  item_there n [] d rising held = cc
  item_there n (row ∷ rows) d rising held =
      let none : n < row.number → holds n rows ≡ false = λ more. none_above n rows (above_through n row.number rows (omega arith) rising.0) in
      grind (arith, common_steps, none, item_there n rows d rising.1)

  pub held_within : (n : ℕ) (rows : List (Numbered T)) → holds n rows ≡ true → place_of n rows < length rows
  held_within n [] held = cc
  held_within n (row ∷ rows) held = grind (arith, common_steps, held_within n rows)

  pub no_item : (n : ℕ) (rows : List (Numbered T)) → holds n rows ≡ false → item_at n rows ≡ None
  no_item n [] held = refl
  no_item n (row ∷ rows) held = grind (arith, common_steps, no_item n rows)

  -- ---- putting in

  pub put_there : (row : Numbered T) (rows : List (Numbered T)) → IsRising rows → holds row.number rows ≡ false
      → take (place_of row.number rows) rows ++ row ∷ drop (place_of row.number rows) rows ≡ put_in_order row rows
  put_there row [] rising new = refl
  put_there row (x ∷ rows) rising new = grind (arith, common_steps, put_there row rows rising.1)

  -- neither the first row nor a later one has the number
  pub none_of : (n : ℕ) (x : Numbered T) (rows : List (Numbered T)) → holds n (x ∷ rows) ≡ false → (nat_eq x.number n ≡ false) × (holds n rows ≡ false)
  none_of n x rows new = grind (arith, common_steps)

  above_put : (n : ℕ) (row : Numbered T) (rows : List (Numbered T)) → n < row.number → AllByRecursion (λ later. n < later.number) rows
      → AllByRecursion (λ later. n < later.number) (put_in_order row rows)
  above_put n row [] more h = (more, tt)
  above_put n row (x ∷ rows) more h =
      cond_both (nat_lt row.number x.number) (row ∷ x ∷ rows) (x ∷ put_in_order row rows) (AllByRecursion (λ later. n < later.number))
      (λ e. (more, h)) (λ e. (h.0, above_put n row rows more h.1))

  pub put_rising : (row : Numbered T) (rows : List (Numbered T)) → IsRising rows → holds row.number rows ≡ false → IsRising (put_in_order row rows)
  put_rising row [] rising new = (tt, tt)
  put_rising row (x ∷ rows) rising new =
      cond_both (nat_lt row.number x.number) (row ∷ x ∷ rows) (x ∷ put_in_order row rows) IsRising
      (λ e. let less : row.number < x.number = ltb-true _ _ e in
      ((less, above_through row.number x.number rows (omega arith) rising.0), rising))
      (λ e. let least : x.number ≤ row.number = ltb-false _ _ e in
      let apart : (nat_eq x.number row.number ≡ false) × (holds row.number rows ≡ false) = none_of row.number x rows new in
      let more : x.number < row.number = below_other x.number row.number least apart.0 in
      (above_put x.number row rows more rising.0, put_rising row rows rising.1 apart.1))

  -- ---- replacing

  pub replaced_there : (row : Numbered T) (rows : List (Numbered T)) → IsRising rows → holds row.number rows ≡ true
      → slice_set rows (place_of row.number rows) row ≡ replaced row rows
  replaced_there row [] rising held = cc
  replaced_there row (x ∷ rows) rising held =
      let none : row.number < x.number → holds row.number rows ≡ false = λ more. none_above row.number rows (above_through row.number x.number rows (omega arith) rising.0) in
      grind (arith, common_steps, none, replaced_there row rows rising.1)

  above_replaced : (n : ℕ) (row : Numbered T) (rows : List (Numbered T)) → AllByRecursion (λ later. n < later.number) rows
      → AllByRecursion (λ later. n < later.number) (replaced row rows)
  above_replaced n row [] h = tt
  above_replaced n row (x ∷ rows) h =
      cond_both (nat_eq x.number row.number) (row ∷ rows) (x ∷ replaced row rows) (AllByRecursion (λ later. n < later.number))
      (λ e. let same : x.number ≡ row.number = eqb-true _ _ e in (omega (arith, same, h.0), h.1))
      (λ e. (h.0, above_replaced n row rows h.1))

  pub replaced_rising : (row : Numbered T) (rows : List (Numbered T)) → IsRising rows → IsRising (replaced row rows)
  replaced_rising row [] rising = tt
  replaced_rising row (x ∷ rows) rising =
      cond_both (nat_eq x.number row.number) (row ∷ rows) (x ∷ replaced row rows) IsRising
      (λ e. let same : x.number ≡ row.number = eqb-true _ _ e in (above_through row.number x.number rows (omega arith) rising.0, rising.1))
      (λ e. (above_replaced x.number row rows rising.0, replaced_rising row rows rising.1))

  -- ---- taking out

  pub without_there : (n : ℕ) (rows : List (Numbered T)) → IsRising rows → holds n rows ≡ true
      → take (place_of n rows) rows ++ drop (suc (place_of n rows)) rows ≡ without n rows
  without_there n [] rising held = cc
  without_there n (x ∷ rows) rising held =
      let none : n < x.number → holds n rows ≡ false = λ more. none_above n rows (above_through n x.number rows (omega arith) rising.0) in
      let rest : n ≤ x.number → without n rows ≡ rows = λ le. without_above n rows (above_through n x.number rows le rising.0) in
      grind (arith, common_steps, none, rest, without_there n rows rising.1)

  pub without_none : (n : ℕ) (rows : List (Numbered T)) → holds n rows ≡ false → without n rows ≡ rows
  without_none n [] held = refl
  without_none n (x ∷ rows) held = grind (arith, common_steps, without_none n rows)

  above_without : (n m : ℕ) (rows : List (Numbered T)) → AllByRecursion (λ later. n < later.number) rows → AllByRecursion (λ later. n < later.number) (without m rows)
  above_without n m [] h = tt
  above_without n m (x ∷ rows) h =
      cond_both (not (nat_eq x.number m)) (x ∷ without m rows) (without m rows) (AllByRecursion (λ later. n < later.number))
      (λ e. (h.0, above_without n m rows h.1)) (λ e. above_without n m rows h.1)

  pub without_rising : (n : ℕ) (rows : List (Numbered T)) → IsRising rows → IsRising (without n rows)
  without_rising n [] rising = tt
  without_rising n (x ∷ rows) rising =
      cond_both (not (nat_eq x.number n)) (x ∷ without n rows) (without n rows) IsRising
      (λ e. (above_without x.number n rows rising.0, without_rising n rows rising.1)) (λ e. without_rising n rows rising.1)

  -- ---- the next number

  above_least : (n other : ℕ) (rows : List (Numbered T)) → AllByRecursion (λ later. n < later.number) rows → holds other rows ≡ true → n < other
  above_least n other [] h held = cc
  above_least n other (x ∷ rows) h held =
      cond_both (nat_eq x.number other) true (holds other rows) (λ b. b ≡ true → n < other)
      (λ e. λ _. let same : x.number ≡ other = eqb-true _ _ e in omega (arith, same, h.0))
      (λ e. λ later. above_least n other rows h.1 later)
      (grind (arith, common_steps, held))

  pub none_from : (from : ℕ) (rows : List (Numbered T)) → length rows ≤ place_of from rows → NoneFrom from rows
  none_from from [] le = λ n not_below. refl
  none_from from (x ∷ rows) le = λ n not_below.
      let rest : length rows ≤ place_of from rows → holds n rows ≡ false = λ within. none_from from rows within n not_below in
      grind (arith, common_steps, rest)

  pub least_from : (from : ℕ) (rows : List (Numbered T)) (d : Numbered T) → IsRising rows → place_of from rows < length rows
      → IsLeastFrom from rows (get_or rows (place_of from rows) d).number
  least_from from [] d rising lt = absurd (omega arith)
  least_from from (x ∷ rows) d rising lt =
      cond_both (nat_lt x.number from) (place_of from rows + 1) 0 (λ at. at < suc (length rows) → IsLeastFrom from (x ∷ rows) (get_or (x ∷ rows) at d).number)
      (λ e. λ within.
      let less : x.number < from = ltb-true _ _ e in
      let rest : IsLeastFrom from rows (get_or rows (place_of from rows) d).number = least_from from rows d rising.1 (omega arith) in
      record {
        held = grind (arith, common_steps, rest.held);
        not_below = grind (arith, common_steps, rest.not_below);
        least = λ other le held. let later : holds other rows ≡ true = grind (arith, common_steps) in
            let over : (get_or rows (place_of from rows) d).number ≤ other = rest.least other le later in grind (arith, common_steps, over);
      })
      (λ e. λ within.
      let not_less : from ≤ x.number = ltb-false _ _ e in
      record {
        held = grind (arith, common_steps);
        not_below = not_less;
        least = λ other le held. first_least other held;
      })
      lt
    where
      first_least : (other : ℕ) → holds other (x ∷ rows) ≡ true → x.number ≤ other
      first_least other held =
          cond_both (nat_eq x.number other) true (holds other rows) (λ b. b ≡ true → x.number ≤ other)
          (λ e. λ _. let same : x.number ≡ other = eqb-true _ _ e in omega (arith, same))
          (λ e. λ later. let more : x.number < other = above_least x.number other rows rising.0 later in omega arith)
          (grind (arith, common_steps, held))

  -- ---- for the code: the same at a place that was found, in the rows of which these are the view

  pub row_held : (n at : ℕ) (row : Numbered T) (inside rows : List (Numbered T)) → inside ≡ rows → at ≡ place_of n rows → at < length rows → IsRising rows
      → row ≡ get_or inside at row → nat_eq row.number n ≡ holds n rows
  row_held n at row inside rows e p lt rising is =
      let here : row ≡ get_or rows at row = subst (λ (xs : List (Numbered T)). row ≡ get_or xs at row) e is in
      let less : place_of n rows < length rows = rw (sym p) lt in
      ap (λ (r : Numbered T). nat_eq r.number n) here ∙ ap (λ i. nat_eq (get_or rows i row).number n) p ∙ sym (held_at n rows row rising less)

  pub row_item : (n at : ℕ) (row : Numbered T) (inside rows : List (Numbered T)) → inside ≡ rows → at ≡ place_of n rows → IsRising rows
      → holds n rows ≡ true → row ≡ get_or inside at row → item_at n rows ≡ Some row.item
  row_item n at row inside rows e p rising held is =
      let here : row ≡ get_or rows at row = subst (λ (xs : List (Numbered T)). row ≡ get_or xs at row) e is in
      item_there n rows row rising held ∙ ap (λ i. Some (get_or rows i row).item) (sym p) ∙ ap (λ (r : Numbered T). Some r.item) (sym here)

  pub row_least : (from at : ℕ) (row : Numbered T) (inside rows : List (Numbered T)) → inside ≡ rows → at ≡ place_of from rows → at < length rows → IsRising rows
      → row ≡ get_or inside at row → IsLeastFrom from rows row.number
  row_least from at row inside rows e p lt rising is =
      let here : row ≡ get_or rows at row = subst (λ (xs : List (Numbered T)). row ≡ get_or xs at row) e is in
      let there : get_or rows (place_of from rows) row ≡ row = ap (λ i. get_or rows i row) (sym p) ∙ sym here in
      let less : place_of from rows < length rows = rw (sym p) lt in
      subst (λ (r : Numbered T). IsLeastFrom from rows r.number) there (least_from from rows row rising less)

  pub row_put : (at : ℕ) (row : Numbered T) (inside rows after : List (Numbered T)) → inside ≡ rows → at ≡ place_of row.number rows → IsRising rows
      → holds row.number rows ≡ false → after ≡ take at inside ++ row ∷ drop at inside → after ≡ put_in_order row rows
  row_put at row inside rows after e p rising new is =
      is ∙ ap (λ (xs : List (Numbered T)). take at xs ++ row ∷ drop at xs) e ∙ ap (λ i. take i rows ++ row ∷ drop i rows) p ∙ put_there row rows rising new

  pub row_replaced : (at : ℕ) (row : Numbered T) (inside rows : List (Numbered T)) → inside ≡ rows → at ≡ place_of row.number rows → IsRising rows
      → holds row.number rows ≡ true → slice_set inside at row ≡ replaced row rows
  row_replaced at row inside rows e p rising held =
      ap (λ (xs : List (Numbered T)). slice_set xs at row) e ∙ ap (λ i. slice_set rows i row) p ∙ replaced_there row rows rising held

  pub row_without : (n at : ℕ) (inside rows after : List (Numbered T)) → inside ≡ rows → at ≡ place_of n rows → IsRising rows
      → holds n rows ≡ true → after ≡ take at inside ++ drop (suc at) inside → after ≡ without n rows
  row_without n at inside rows after e p rising held is =
      is ∙ ap (λ (xs : List (Numbered T)). take at xs ++ drop (suc at) xs) e ∙ ap (λ i. take i rows ++ drop (suc i) rows) p ∙ without_there n rows rising held

  -- the row at the place of a number that is held has it
  pub row_number : (n at : ℕ) (row : Numbered T) (inside rows : List (Numbered T)) → inside ≡ rows → at ≡ place_of n rows → IsRising rows
      → holds n rows ≡ true → row ≡ get_or inside at row → row.number ≡ n
  row_number n at row inside rows e p rising held is =
      let less : place_of n rows < length rows = held_within n rows held in
      eqb-true _ _ (row_held n at row inside rows e p (rw p less) rising is ∙ held)

  -- the number of the row at a place
  pub number_is : (rows : List (Numbered T)) (i : ℕ) (d : Numbered T) → i < length rows → number_of rows i ≡ (get_or rows i d).number
  number_is [] i d within = absurd (omega arith)
  number_is (row ∷ rows) zero d within = refl
  number_is (row ∷ rows) (suc i) d within = number_is rows i d (omega arith)

  pub number_read : (at : ℕ) (row : Numbered T) (inside rows : List (Numbered T)) → inside ≡ rows → at < length rows → row ≡ get_or inside at row → row.number ≡ number_of rows at
  number_read at row inside rows e within is =
      let here : row ≡ get_or rows at row = subst (λ (xs : List (Numbered T)). row ≡ get_or xs at row) e is in
      ap (λ (r : Numbered T). r.number) here ∙ sym (number_is rows at row within)

-- ---- the last row

module _ {T : Type 0} where
  -- a number that is held is the first one, or behind it
  held_either : (n : ℕ) (x : Numbered T) (rows : List (Numbered T)) → holds n (x ∷ rows) ≡ true → (x.number ≡ n) ⊎ (holds n rows ≡ true)
  held_either n x rows held =
      cond_both (nat_eq x.number n) true (holds n rows) (λ b. b ≡ true → (x.number ≡ n) ⊎ (holds n rows ≡ true))
      (λ e. λ _. inl (eqb-true x.number n e)) (λ e. λ later. inr later) (grind (arith, common_steps, held))

  first_held : (x : Numbered T) (rows : List (Numbered T)) → holds x.number (x ∷ rows) ≡ true
  first_held x rows = grind (arith, common_steps)

  later_held : (n : ℕ) (x : Numbered T) (rows : List (Numbered T)) → holds n rows ≡ true → holds n (x ∷ rows) ≡ true
  later_held n x rows held = grind (arith, common_steps, held)

  -- the last of rising numbers is the greatest
  last_at : (rows : List (Numbered T)) (k : ℕ) (last : Numbered T) → IsRising rows → k + 1 ≡ length rows → slice_get rows k ≡ Some last → IsGreatest rows last.number
  last_at [] k last rising end is = absurd cc
  last_at (x ∷ []) zero last rising end is =
      let same : x ≡ last = cc in
      subst (λ (row : Numbered T). IsGreatest (x ∷ []) row.number) same (record {
        held = first_held x [];
        most = λ other held. elim (held_either other x [] held) [ inl e ↦ omega (arith, e) | inr none ↦ absurd cc ];
      })
  last_at (x ∷ []) (suc k) last rising end is = absurd (omega (arith, end))
  last_at (x ∷ y ∷ rows) zero last rising end is = absurd (omega (arith, end))
  last_at (x ∷ y ∷ rows) (suc k) last rising end is =
      let end' : k + 1 ≡ length (y ∷ rows) = omega (arith, end) in
      let rest : IsGreatest (y ∷ rows) last.number = last_at (y ∷ rows) k last rising.1 end' is in
      record {
        held = later_held last.number x (y ∷ rows) rest.held;
        most = λ other held. elim (held_either other x (y ∷ rows) held) [
          | inl e ↦
              let next : y.number ≤ last.number = rest.most y.number (first_held y rows) in
              let less : x.number < y.number = rising.0.0 in
              omega (arith, e, next, less)
          | inr later ↦ rest.most other later
        ];
      }

  last_is_greatest : (rows : List (Numbered T)) (last : Numbered T) → IsRising rows → slice_get rows (length rows - 1) ≡ Some last → IsGreatest rows last.number
  last_is_greatest [] last rising is = absurd cc
  last_is_greatest (x ∷ rows) last rising is = last_at (x ∷ rows) (length (x ∷ rows) - 1) last rising (omega arith) is

  pub last_read : (last : Numbered T) (inside rows : List (Numbered T)) → inside ≡ rows → IsRising inside → slice_get inside (length inside - 1) ≡ Some last → IsGreatest rows last.number
  last_read last inside rows same rising is = subst (λ (xs : List (Numbered T)). IsGreatest xs last.number) same (last_is_greatest inside last rising is)

-- a call that had room did what it does
pub took : {A B E : Type 0} (r : Result B E) (xs ys zs : List A) → IsOk r → zs ≡ (if is_ok r then xs else ys) → zs ≡ xs
took (Ok b) xs ys zs h e = e
took (Err x) xs ys zs h e = cc
