-- What the edits of a tree make of the rows that are read from it.
use Rattle.std.proofs.Common.{◌≡◌, ◌&&◌, ◌||◌, ℕ, ◌<◌, ◌≤◌, ℤ, pos, Bool, true, false, not, cond, eqb, List, [], ◌∷◌}
use Rattle.std.proofs.Common.{map, filter, Option, Some, None, refl, sym, ap, subst, ◌∙◌, arith, Ordering, Less, Equal, Greater, is_eq, int_cmp, true≢false}
use Rattle.std.specs.Prelude.{nat_lt, nat_eq}
use Rattle.std.specs.List.{AllZip, AllByRecursion, list_any}
use Rattle.std.specs.Ordering.{match_ordering}
use Rattle.std.proofs.lemmas.Bool.{cases_Bool, ltb-true, ltb-false, eqb-true, false_from_ne_true}
use Rattle.std.proofs.lemmas.Bool.Decides.{nat_tests}
use Rattle.std.proofs.lemmas.Grind.{common_steps}
use Rattle.std.proofs.lemmas.Int.{ints}
use Rattle.sqlite_value.specs.declared.value.Value.TheVariants.{Int}
use Rattle.sqlite_value.specs.Order.{Row, value_cmp}
use Rattle.sqlite_value.proofs.OrderLemmas.{value_cmp-Int}
use Rattle.sqlite_trees.specs.Tree.{rowid, IsAscending, IsTable, has_rowid, put_row, without_rowid}
use Rattle.sqlite_trees.specs.View.{is_int}
use Rattle.mk_outside.specs.Rows.{put, without, in_place, in_order}
use Rattle.mk_sqlite.specs.Told.{AreRead}

-- the numbers rise
abbrev pub Rise : {X : Type 0} → (X → ℕ) → List X → Type 0
Rise number = IsAscending (λ a b. number a < number b)

-- ---- numbers as rowids

-- a row of a lower number is below
pub below : (r s : Row) (m n : ℕ) → rowid r ≡ Int (pos m) → rowid s ≡ Int (pos n) → m < n → value_cmp (rowid r) (rowid s) ≡ Less
below r s m n p q h = rw (p, q, value_cmp-Int (pos m) (pos n)) (grind (arith, ints))

-- rows of one number tie
pub level : (r s : Row) (m n : ℕ) → rowid r ≡ Int (pos m) → rowid s ≡ Int (pos n) → m ≡ n → value_cmp (rowid r) (rowid s) ≡ Equal
level r s m n p q h = rw (p, q, value_cmp-Int (pos m) (pos n)) (grind (arith, ints))

-- a row of a greater number is above
pub above : (r s : Row) (m n : ℕ) → rowid r ≡ Int (pos m) → rowid s ≡ Int (pos n) → n < m → value_cmp (rowid r) (rowid s) ≡ Greater
above r s m n p q h = rw (p, q, value_cmp-Int (pos m) (pos n)) (grind (arith, ints))

-- a row that is below has a lower number
pub lower : (r s : Row) (m n : ℕ) → rowid r ≡ Int (pos m) → rowid s ≡ Int (pos n) → value_cmp (rowid r) (rowid s) ≡ Less → m < n
lower r s m n p q h = let e = rw (p, q, value_cmp-Int (pos m) (pos n)) at h in grind (arith, ints)

-- the test of a rowid is that of the number
pub rowid_test : (r : Row) (m n : ℕ) → rowid r ≡ Int (pos m) → has_rowid (pos n) r ≡ nat_eq m n
rowid_test r m n p = rw (p, value_cmp-Int (pos m) (pos n)) (grind (arith, ints, nat_tests))

-- ---- a row that is put among rising rows

module _ {X : Type 0} (number : X → ℕ) where
  -- a row is put among rows that rise
  abbrev pub put_sorted : X → List X → List X
  put_sorted new [] = new ∷ []
  put_sorted new (x ∷ xs) = cond (nat_lt (number x) (number new)) (x ∷ put_sorted new xs) (cond (nat_eq (number x) (number new)) (new ∷ xs) (new ∷ x ∷ xs))

  none_above : (n : ℕ) (x : X) (xs : List X) → n < number x → AllByRecursion (λ y. number x < number y) xs → list_any (λ y. nat_eq (number y) n) xs ≡ false
  none_above n x [] h all = refl
  none_above n x (y ∷ xs) h all = let first = all.0 in grind (arith, common_steps, none_above n x xs h all.1)

  in_order_first : (new x : X) (xs : List X) → number new < number x → in_order number new (x ∷ xs) ≡ new ∷ x ∷ xs
  in_order_first new x xs h = grind (arith, common_steps)

  -- among rows that rise a row is put in order
  pub put-sorted : (new : X) (xs : List X) → Rise number xs → put number new xs ≡ put_sorted new xs
  unfolding put
  put-sorted new [] up = refl
  put-sorted new (x ∷ xs) up = go (nat_lt (number x) (number new)) (nat_eq (number x) (number new)) refl refl (put-sorted new xs up.1)
    where
      go : (a b : Bool) → nat_lt (number x) (number new) ≡ a → nat_eq (number x) (number new) ≡ b
          → cond (list_any (λ y. nat_eq (number y) (number new)) xs) (in_place number new xs) (in_order number new xs) ≡ put_sorted new xs
          → cond (nat_eq (number x) (number new) || list_any (λ y. nat_eq (number y) (number new)) xs) (in_place number new (x ∷ xs)) (in_order number new (x ∷ xs))
          ≡ cond a (x ∷ put_sorted new xs) (cond b (new ∷ xs) (new ∷ x ∷ xs))
      go true true p q more = absurd (let l = ltb-true _ _ p in let e = eqb-true _ _ q in omega arith)
      go true false p q more =
          let low : number x < number new = ltb-true _ _ p in
          let not_above : nat_lt (number new) (number x) ≡ false = grind (arith, nat_tests) in
          rw (q, not_above) (there (list_any (λ y. nat_eq (number y) (number new)) xs) more)
        where
          there : (c : Bool) → cond c (in_place number new xs) (in_order number new xs) ≡ put_sorted new xs
              → cond c (x ∷ in_place number new xs) (x ∷ in_order number new xs) ≡ x ∷ put_sorted new xs
          there true e = ap (λ l. x ∷ l) e
          there false e = ap (λ l. x ∷ l) e
      go false true p q more = rw q refl
      go false false p q more =
          let low = ltb-false _ _ p in
          let high : number new < number x = grind (arith, nat_tests) in
          rw (q, none_above (number new) x xs high up.0) (in_order_first new x xs high)

module _ {X : Type 0} (f : Row → Option X) (number : X → ℕ) (keyed : (r : Row) (x : X) → f r ≡ Some x → rowid r ≡ Int (pos (number x))) where
  all_above : (r : Row) (x : X) (rows : List Row) (xs : List X) → f r ≡ Some x → AreRead f rows xs → AllByRecursion (λ s. value_cmp (rowid r) (rowid s) ≡ Less) rows
      → AllByRecursion (λ y. number x < number y) xs
  all_above r x [] [] is read all = tt
  all_above r x [] (y ∷ xs) is read all = absurd read
  all_above r x (s ∷ rows) [] is read all = absurd read
  all_above r x (s ∷ rows) (y ∷ xs) is read all = (lower r s _ _ (keyed r x is) (keyed s y read.0) all.0, all_above r x rows xs is read.1 all.1)

  -- rows of a tree are read as rising ones
  pub rise_from_table : (rows : List Row) (xs : List X) → AreRead f rows xs → IsTable rows → Rise number xs
  rise_from_table [] [] read up = tt
  rise_from_table [] (x ∷ xs) read up = absurd read
  rise_from_table (r ∷ rows) [] read up = absurd read
  rise_from_table (r ∷ rows) (x ∷ xs) read up = (all_above r x rows xs read.0 read.1 up.0, rise_from_table rows xs read.1 up.1)

  -- a row that is put in the tree is put among what is read of it, in order
  pub read_sorted : (new : Row) (x : X) → f new ≡ Some x → (rows : List Row) (xs : List X) → AreRead f rows xs → AreRead f (put_row new rows) (put_sorted number x xs)
  read_sorted new x is [] [] read = (is, tt)
  read_sorted new x is [] (y ∷ xs) read = absurd read
  read_sorted new x is (r ∷ rows) [] read = absurd read
  read_sorted new x is (r ∷ rows) (y ∷ xs) read = go (nat_lt (number y) (number x)) (nat_eq (number y) (number x)) refl refl (read_sorted new x is rows xs read.1)
    where
      go : (a b : Bool) → nat_lt (number y) (number x) ≡ a → nat_eq (number y) (number x) ≡ b → AreRead f (put_row new rows) (put_sorted number x xs)
          → AreRead f (put_row new (r ∷ rows)) (cond a (y ∷ put_sorted number x xs) (cond b (x ∷ xs) (x ∷ y ∷ xs)))
      go true b p q more = rw (below r new _ _ (keyed r y read.0) (keyed new x is) (ltb-true _ _ p)) (read.0, more)
      go false true p q more = rw (level r new _ _ (keyed r y read.0) (keyed new x is) (eqb-true _ _ q)) (is, read.1)
      go false false p q more =
          let low = ltb-false _ _ p in
          let high : number x < number y = grind (arith, nat_tests) in
          rw (above r new _ _ (keyed r y read.0) (keyed new x is) high) (is, read)

  -- a row that is put is read as one that is put
  pub read_put : (new : Row) (x : X) → f new ≡ Some x → (rows : List Row) (xs : List X) → AreRead f rows xs → Rise number xs → AreRead f (put_row new rows) (put number x xs)
  read_put new x is rows xs read up = rw (put-sorted number x xs up) (read_sorted new x is rows xs read)

  -- so are rows that are taken away by a test of what is read
  pub read_filter : (p : Row → Bool) (q : X → Bool) → ((r : Row) (x : X) → f r ≡ Some x → p r ≡ q x) → (rows : List Row) (xs : List X) → AreRead f rows xs
      → AreRead f (filter p rows) (filter q xs)
  read_filter p q same [] [] read = tt
  read_filter p q same [] (x ∷ xs) read = absurd read
  read_filter p q same (r ∷ rows) [] read = absurd read
  read_filter p q same (r ∷ rows) (x ∷ xs) read = go (q x) refl (read_filter p q same rows xs read.1)
    where
      go : (b : Bool) → q x ≡ b → AreRead f (filter p rows) (filter q xs) → AreRead f (filter p (r ∷ rows)) (cond b (x ∷ filter q xs) (filter q xs))
      go true e more = rw (same r x read.0 ∙ e) (read.0, more)
      go false e more = rw (same r x read.0 ∙ e) more

  -- rows but for one number, as they are read
  pub read_without : (n : ℕ) (rows : List Row) (xs : List X) → AreRead f rows xs → AreRead f (without_rowid (pos n) rows) (without number n xs)
  unfolding without
  read_without n rows xs read = read_filter _ _ (λ r x is. ap not (rowid_test r (number x) n (keyed r x is))) rows xs read
