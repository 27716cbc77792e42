-- Rising rows stay rising.
use Rattle.std.proofs.Common.{◌≡◌, ◌≢◌, ℕ, suc, ◌<◌, ◌≤◌, false, List, [], ◌∷◌, nat_eq, nat_lt, arith, subst, All}
use Rattle.std.specs.Prelude.{AllPairs}
use Rattle.std.specs.List.{list_any}
use Rattle.std.proofs.lemmas.Bool.{cond_both, eqb-true, ltb-true, ltb-false}
use Rattle.std.proofs.lemmas.List.Elements.{All-cons, All-head, All-tail, All-weaker}
use Rattle.std.proofs.lemmas.List.Kept.{AllPairs-cons, AllPairs-filter}
use Rattle.std.proofs.lemmas.Grind.{common_steps}
use Rattle.mk_outside.specs.Rows.{put, without, in_place, in_order}

module _ {R : Type 0} (number : R → ℕ) where
  -- the first of rising rows is below the others, and these rise
  first_below : (x : R) (rows : List R) → AllPairs (λ a b. number a < number b) (x ∷ rows) → All (λ b. number x < number b) rows
  first_below x rows h = λ k d within. h 0 (suc k) d (omega arith) (omega arith)

  others_rise : (x : R) (rows : List R) → AllPairs (λ a b. number a < number b) (x ∷ rows) → AllPairs (λ a b. number a < number b) rows
  others_rise x rows h = λ i j d lt within. h (suc i) (suc j) d (omega arith) (omega arith)

  -- ---- a row in place of another of its number

  in_place_all : (Q : ℕ → Type 0) (row : R) (rows : List R) → All (λ r. Q (number r)) rows → All (λ r. Q (number r)) (in_place number row rows)
  in_place_all Q row [] h = h
  in_place_all Q row (x ∷ rows) h =
      cond_both (nat_eq (number x) (number row)) (row ∷ rows) (x ∷ in_place number row rows) (All (λ r. Q (number r)))
      (λ e. All-cons (λ r. Q (number r)) row rows (subst Q (eqb-true _ _ e) (All-head (λ r. Q (number r)) x rows h)) (All-tail (λ r. Q (number r)) x rows h))
      (λ e. All-cons (λ r. Q (number r)) x (in_place number row rows) (All-head (λ r. Q (number r)) x rows h) (in_place_all Q row rows (All-tail (λ r. Q (number r)) x rows h)))

  in_place_rising : (row : R) (rows : List R) → AllPairs (λ a b. number a < number b) rows → AllPairs (λ a b. number a < number b) (in_place number row rows)
  in_place_rising row [] h = h
  in_place_rising row (x ∷ rows) h =
      cond_both (nat_eq (number x) (number row)) (row ∷ rows) (x ∷ in_place number row rows) (AllPairs (λ a b. number a < number b))
      (λ e. AllPairs-cons (λ a b. number a < number b) row rows (subst (λ n. All (λ b. n < number b) rows) (eqb-true _ _ e) (first_below x rows h)) (others_rise x rows h))
      (λ e. AllPairs-cons (λ a b. number a < number b) x (in_place number row rows)
      (in_place_all (λ n. number x < n) row rows (first_below x rows h))
      (in_place_rising row rows (others_rise x rows h)))

  -- ---- a row of a number of its own

  in_order_all : (P : R → Type 0) (row : R) (rows : List R) → P row → All P rows → All P (in_order number row rows)
  in_order_all P row [] p h = All-cons P row [] p h
  in_order_all P row (x ∷ rows) p h =
      cond_both (nat_lt (number row) (number x)) (row ∷ x ∷ rows) (x ∷ in_order number row rows) (All P)
      (λ e. All-cons P row (x ∷ rows) p h)
      (λ e. All-cons P x (in_order number row rows) (All-head P x rows h) (in_order_all P row rows p (All-tail P x rows h)))

  -- no row has the number: neither the first nor the others
  none_of : (n : ℕ) (x : R) (rows : List R) → list_any (λ r. nat_eq (number r) n) (x ∷ rows) ≡ false
      → (number x ≢ n) × (list_any (λ r. nat_eq (number r) n) rows ≡ false)
  none_of n x rows h = grind (arith, common_steps)

  in_order_rising : (row : R) (rows : List R) → list_any (λ r. nat_eq (number r) (number row)) rows ≡ false
      → AllPairs (λ a b. number a < number b) rows → AllPairs (λ a b. number a < number b) (in_order number row rows)
  in_order_rising row [] none h = AllPairs-cons (λ a b. number a < number b) row [] (λ k d within. absurd (omega arith)) h
  in_order_rising row (x ∷ rows) none h =
      let apart = none_of (number row) x rows none in
      cond_both (nat_lt (number row) (number x)) (row ∷ x ∷ rows) (x ∷ in_order number row rows) (AllPairs (λ a b. number a < number b))
      (λ e. let below : number row < number x = ltb-true _ _ e in
      AllPairs-cons (λ a b. number a < number b) row (x ∷ rows)
      (All-cons (λ b. number row < number b) x rows below (All-weaker (λ b. number x < number b) (λ b. number row < number b) (λ b above. omega arith) rows (first_below x rows h))) h)
      (λ e. let least : number x ≤ number row = ltb-false _ _ e in
      let differ : number x ≢ number row = apart.0 in
      let below : number x < number row = omega arith in
      AllPairs-cons (λ a b. number a < number b) x (in_order number row rows)
      (in_order_all (λ b. number x < number b) row rows below (first_below x rows h))
      (in_order_rising row rows apart.1 (others_rise x rows h)))

  -- a row that is put leaves rising rows rising
  pub put_rising : (row : R) (rows : List R) → AllPairs (λ a b. number a < number b) rows → AllPairs (λ a b. number a < number b) (put number row rows)
  unfolding put
  put_rising row rows h =
      cond_both (list_any (λ x. nat_eq (number x) (number row)) rows) (in_place number row rows) (in_order number row rows) (AllPairs (λ a b. number a < number b))
      (λ e. in_place_rising row rows h) (λ e. in_order_rising row rows e h)

  -- so do rows that are taken away
  pub without_rising : (n : ℕ) (rows : List R) → AllPairs (λ a b. number a < number b) rows → AllPairs (λ a b. number a < number b) (without number n rows)
  unfolding without
  without_rising n rows h = AllPairs-filter (λ a b. number a < number b) _ rows h
