-- Indexes that are counted and listed are one list: what is found in it, and where.
use Rattle.std.proofs.Common.{◌≡◌, ℕ, zero, suc, ◌+◌, ◌≤◌, ◌<◌, Bool, true, false, cond, ◌||◌, ◌&&◌, eqb, leb, ltb, Some, None, List, [], ◌∷◌, ◌++◌, length, position, refl, sym, ap, ◌∙◌, append_assoc, append-nil, arith}
use Rattle.std.specs.Prelude.{ℤ, pos, negsuc}
use Rattle.std.specs.List.{list_any, position_or_len}
use Rattle.std.specs.Ordering.{int_eq}
use Rattle.std.proofs.lemmas.Bool.{eqb-true, eqb-false, leb-true, le-leb, ltb-true, ltb-false}
use Rattle.std.proofs.lemmas.List.{length-append}
use Rattle.std.proofs.lemmas.Bool.Decides.{Decides-int_eq}
use Rattle.indexmap.specs.IndexSet.{insert_key}
use Rattle.mk_v3000.specs.Indexes.{numbers_from, is_counted, is_next}
use Rattle.mk_v3000.specs.Twin.{same_number, has_index, place_from}
use Rattle.mk_v3000.proofs.PushLemmas.{same_yes, same_no}

-- ---- one number and another

-- two tests of numbers agree, by what one of them says
same_by : (x y : ℤ) (b : Bool) → int_eq x y ≡ b → same_number y x ≡ b
same_by x y true e = ap (λ (z : ℤ). same_number y z) ((Decides-int_eq x y).0 e) ∙ same_yes y
same_by x y false e = same_no y x (λ same. absurd (let t = (Decides-int_eq x y).1 (sym same) in cc))

-- two tests of numbers agree
same_tests : (x y : ℤ) → same_number y x ≡ int_eq x y
same_tests x y = same_by x y (int_eq x y) refl

-- ---- what is counted

-- one number more
numbers_more : (k n : ℕ) → numbers_from k (n + 1) ≡ numbers_from k n ++ pos (k + n) ∷ []
numbers_more k zero = ap (λ (i : ℕ). pos i ∷ []) (let e : k ≡ k + 0 = omega arith in e)
numbers_more k (suc n) =
    let first : numbers_from k (suc n + 1) ≡ pos k ∷ numbers_from (k + 1) (n + 1) = ap (numbers_from k) (let e : suc n + 1 ≡ suc (n + 1) = omega arith in e) in
    let last : pos (k + 1 + n) ≡ pos (k + suc n) = ap pos (let e : k + 1 + n ≡ k + suc n = omega arith in e) in
    first ∙ ap (λ (xs : List ℤ). pos k ∷ xs) (numbers_more (k + 1) n ∙ ap (λ (z : ℤ). numbers_from (k + 1) n ++ z ∷ []) last)

-- as many as are counted
numbers_size : (k n : ℕ) → length (numbers_from k n) ≡ n
numbers_size k zero = refl
numbers_size k (suc n) = ap suc (numbers_size (k + 1) n)

-- the first is found, or one behind it
found_by : (k i : ℕ) (xs : List ℤ) (b : Bool) → eqb k i ≡ b → (b ≡ false → has_index xs (pos i) ≡ true) → has_index (pos k ∷ xs) (pos i) ≡ true
found_by k i xs true e behind = rw e refl
found_by k i xs false e behind = rw e (behind refl)

-- it stands first, or behind
placed_by : (k i : ℕ) (xs : List ℤ) (b : Bool) → eqb k i ≡ b → (b ≡ false → place_from (k + 1) xs (pos i) ≡ pos i) → place_from k (pos k ∷ xs) (pos i) ≡ pos i
placed_by k i xs true e behind = rw e (ap pos (eqb-true k i e))
placed_by k i xs false e behind = rw e (behind refl)

-- a number that is counted is found
has_counted : (k n : ℕ) (ks : List ℤ) (i : ℕ) → k ≤ i → i < k + n → has_index (numbers_from k n ++ ks) (pos i) ≡ true
has_counted k zero ks i least most = absurd (omega (arith, least, most))
has_counted k (suc n) ks i least most =
    found_by k i (numbers_from (k + 1) n ++ ks) (eqb k i) refl
    (λ e. has_counted (k + 1) n ks i (let other = eqb-false k i e in omega (arith, least, other)) (omega (arith, most)))

-- at its own place
place_counted : (k n : ℕ) (ks : List ℤ) (i : ℕ) → k ≤ i → i < k + n → place_from k (numbers_from k n ++ ks) (pos i) ≡ pos i
place_counted k zero ks i least most = absurd (omega (arith, least, most))
place_counted k (suc n) ks i least most =
    placed_by k i (numbers_from (k + 1) n ++ ks) (eqb k i) refl
    (λ e. place_counted (k + 1) n ks i (let other = eqb-false k i e in omega (arith, least, other)) (omega (arith, most)))

-- any other is looked for behind what is counted
has_beyond : (k n : ℕ) (ks : List ℤ) (z : ℤ) → ((j : ℕ) → k ≤ j → j < k + n → z ≡ pos j → ⊥) → has_index (numbers_from k n ++ ks) z ≡ has_index ks z
has_beyond k zero ks z other = refl
has_beyond k (suc n) ks z other =
    rw (same_no (pos k) z (λ e. other k (omega arith) (omega arith) (sym e)))
    (has_beyond (k + 1) n ks z (λ j least most. other j (omega (arith, least)) (omega (arith, most))))

place_beyond : (k n : ℕ) (ks : List ℤ) (z : ℤ) → ((j : ℕ) → k ≤ j → j < k + n → z ≡ pos j → ⊥) → place_from k (numbers_from k n ++ ks) z ≡ place_from (k + n) ks z
place_beyond k zero ks z other = ap (λ (i : ℕ). place_from i ks z) (let e : k ≡ k + 0 = omega arith in e)
place_beyond k (suc n) ks z other =
    rw (same_no (pos k) z (λ e. other k (omega arith) (omega arith) (sym e)))
    (place_beyond (k + 1) n ks z (λ j least most. other j (omega (arith, least)) (omega (arith, most)))
    ∙ ap (λ (i : ℕ). place_from i ks z) (let e : k + 1 + n ≡ k + suc n = omega arith in e))

-- ---- whether an index is counted

-- both tests are passed
both_true : (a b : Bool) → (a && b) ≡ true → (a ≡ true) × (b ≡ true)
both_true true b e = (refl, e)
both_true false b e = absurd cc

-- an index that is counted is a number from 1 on
counted_is : (n : ℕ) (z : ℤ) → is_counted n z ≡ true → (i : ℕ) × (z ≡ pos i) × (1 ≤ i) × (i ≤ n)
counted_is n (pos i) e = let both = both_true (leb 1 i) (leb i n) e in (i, refl, leb-true 1 i both.0, leb-true i n both.1)
counted_is n (negsuc i) e = absurd cc

-- one that isn't is none of them
counted_not : (n : ℕ) (z : ℤ) → is_counted n z ≡ false → (j : ℕ) → 1 ≤ j → j < 1 + n → z ≡ pos j → ⊥
counted_not n z e j least most same =
    let one = le-leb 1 j least in
    let below = le-leb j n (omega (arith, most)) in
    let yes : is_counted n (pos j) ≡ true = rw (one, below) refl in
    let here : is_counted n (pos j) ≡ false = ap (is_counted n) (sym same) ∙ e in
    absurd cc

-- the next index is the number behind the last
next_is : (n : ℕ) (z : ℤ) → is_next n z ≡ true → z ≡ pos (1 + n)
next_is n (pos i) e = ap pos (omega (arith, eqb-true i (n + 1) e))
next_is n (negsuc i) e = absurd cc

-- ---- what is listed

-- a list of no length is empty
no_items : (ks : List ℤ) → length ks ≡ 0 → ks ≡ []
no_items [] e = refl
no_items (k ∷ ks) e = absurd cc

-- the list has it
has_listed : (ks : List ℤ) (z : ℤ) → has_index ks z ≡ list_any (int_eq z) ks
has_listed [] z = refl
has_listed (k ∷ ks) z = rw (same_tests z k, has_listed ks z) (by (int_eq z k))
  where
    by : (b : Bool) → cond b true (list_any (int_eq z) ks) ≡ (b || list_any (int_eq z) ks)
    by true = refl
    by false = refl

-- it stands first, or behind
listed_by : (j : ℕ) (k : ℤ) (ks : List ℤ) (z : ℤ) (b : Bool) → int_eq z k ≡ b
    → (position_or_len (int_eq z) ks < length ks → place_from (j + 1) ks z ≡ pos ((j + 1) + position_or_len (int_eq z) ks))
    → position_or_len (int_eq z) (k ∷ ks) < length (k ∷ ks) → place_from j (k ∷ ks) z ≡ pos (j + position_or_len (int_eq z) (k ∷ ks))
listed_by j k ks z true e behind within = rw (same_tests z k, e) (ap pos (let f : j ≡ j + 0 = omega arith in f))
listed_by j k ks z false e behind within =
    let at : position_or_len (int_eq z) (k ∷ ks) ≡ 1 + position_or_len (int_eq z) ks = rw e refl in
    rw (same_tests z k, e) (behind (omega (arith, at, within)) ∙ ap pos (omega arith))

-- the place in the list
place_listed : (j : ℕ) (ks : List ℤ) (z : ℤ) → position_or_len (int_eq z) ks < length ks → place_from j ks z ≡ pos (j + position_or_len (int_eq z) ks)
place_listed j [] z within = absurd (omega (arith, within))
place_listed j (k ∷ ks) z within = listed_by j k ks z (int_eq z k) refl (place_listed (j + 1) ks z) within

-- it isn't first, nor behind
absent_by : (j : ℕ) (k : ℤ) (ks : List ℤ) (z : ℤ) (b : Bool) → int_eq z k ≡ b
    → (length ks ≤ position_or_len (int_eq z) ks → place_from (j + 1) ks z ≡ pos 0)
    → length (k ∷ ks) ≤ position_or_len (int_eq z) (k ∷ ks) → place_from j (k ∷ ks) z ≡ pos 0
absent_by j k ks z true e behind past =
    let at : position_or_len (int_eq z) (k ∷ ks) ≡ 0 = rw e refl in
    absurd (omega (arith, at, past))
absent_by j k ks z false e behind past =
    let at : position_or_len (int_eq z) (k ∷ ks) ≡ 1 + position_or_len (int_eq z) ks = rw e refl in
    rw (same_tests z k, e) (behind (omega (arith, at, past)))

-- the list hasn't got it
place_absent : (j : ℕ) (ks : List ℤ) (z : ℤ) → length ks ≤ position_or_len (int_eq z) ks → place_from j ks z ≡ pos 0
place_absent j [] z past = refl
place_absent j (k ∷ ks) z past = absent_by j k ks z (int_eq z k) refl (place_absent (j + 1) ks z) past

-- the place that is found, by whether there is one
found_at : (n m i : ℕ) (b : Bool) → ltb n m ≡ b → cond b (Some n) None ≡ Some i → (n < m) × (n ≡ i)
found_at n m i true e f = (ltb-true n m e, cc)
found_at n m i false e f = absurd cc

none_at : (n m : ℕ) (b : Bool) → ltb n m ≡ b → cond b (Some n) None ≡ None → m ≤ n
none_at n m true e f = absurd cc
none_at n m false e f = ltb-false n m e

-- ---- both

-- how many there are
pub size_is : (n : ℕ) (ks : List ℤ) → length (numbers_from 1 n ++ ks) ≡ n + length ks
size_is n ks = length-append (numbers_from 1 n) ks ∙ ap (λ (m : ℕ). m + length ks) (numbers_size 1 n)

module _ (n : ℕ) (ks : List ℤ) (z : ℤ) where
  module _ (counted : is_counted n z ≡ true) where
    -- an index that is counted is found
    pub has_by_count : true ≡ has_index (numbers_from 1 n ++ ks) z
    has_by_count =
        let is = counted_is n z counted in
        sym (ap (has_index (numbers_from 1 n ++ ks)) is.1 ∙ has_counted 1 n ks is.0 is.2 (omega (arith, is.3)))

    -- at its own place
    pub place_by_count : z ≡ place_from 1 (numbers_from 1 n ++ ks) z
    place_by_count =
        let is = counted_is n z counted in
        is.1 ∙ sym (ap (place_from 1 (numbers_from 1 n ++ ks)) is.1 ∙ place_counted 1 n ks is.0 is.2 (omega (arith, is.3)))

  module _ (other : is_counted n z ≡ false) where
    -- any other is found where it is listed
    pub has_by_list : list_any (int_eq z) ks ≡ has_index (numbers_from 1 n ++ ks) z
    has_by_list = sym (has_beyond 1 n ks z (counted_not n z other) ∙ has_listed ks z)

    -- at the place behind what is counted
    pub place_by_list : (i : ℕ) → Some i ≡ position (int_eq z) ks → pos (n + i + 1) ≡ place_from 1 (numbers_from 1 n ++ ks) z
    place_by_list i found =
        let at = found_at (position_or_len (int_eq z) ks) (length ks) i _ refl (sym found) in
        sym (place_beyond 1 n ks z (counted_not n z other) ∙ place_listed (1 + n) ks z at.0 ∙ ap pos (omega (arith, at.1)))

    -- or nowhere
    pub place_by_none : None ≡ position (int_eq z) ks → pos 0 ≡ place_from 1 (numbers_from 1 n ++ ks) z
    place_by_none none = sym (place_beyond 1 n ks z (counted_not n z other) ∙ place_absent (1 + n) ks z (none_at (position_or_len (int_eq z) ks) (length ks) _ refl (sym none)))

  -- the next number is counted, where nothing is listed
  pub count_more : length ks ≡ 0 → is_next n z ≡ true → numbers_from 1 (n + 1) ++ ks ≡ (numbers_from 1 n ++ ks) ++ z ∷ []
  count_more none next =
      let empty = no_items ks none in
      rw (empty, next_is n z next, append-nil (numbers_from 1 (n + 1)), append-nil (numbers_from 1 n)) (numbers_more 1 n)

  -- an index that isn't found is listed behind the last, by whether it is counted
  listed_behind : (b : Bool) → is_counted n z ≡ b → has_index (numbers_from 1 n ++ ks) z ≡ false → numbers_from 1 n ++ insert_key int_eq ks z ≡ (numbers_from 1 n ++ ks) ++ z ∷ []
  listed_behind true counted new = absurd (let found = has_by_count counted in cc)
  listed_behind false other new =
      let absent : list_any (int_eq z) ks ≡ false = has_by_list other ∙ new in
      rw absent (sym (append_assoc (numbers_from 1 n) ks (z ∷ [])))

  -- an index that isn't found is listed behind the last
  pub list_more : has_index (numbers_from 1 n ++ ks) z ≡ false → numbers_from 1 n ++ insert_key int_eq ks z ≡ (numbers_from 1 n ++ ks) ++ z ∷ []
  list_more new = listed_behind (is_counted n z) refl new
