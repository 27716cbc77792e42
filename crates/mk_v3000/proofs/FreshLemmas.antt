-- Some index is always free for one more atom of a table.
use Rattle.std.proofs.Common.{◌≡◌, ℕ, zero, suc, ◌+◌, ◌-◌, ◌^◌, ◌<◌, ◌≤◌, Bool, true, false, cond, not, ◌&&◌, eqb, leb, ne_eqb, List, [], ◌∷◌, ◌++◌, length, Some, refl, sym, ap, subst, ◌∙◌, append-nil, arith}
use Rattle.std.specs.Prelude.{ℤ, pos, negsuc, decimal}
use Rattle.std.specs.List.{list_all}
use Rattle.std.specs.Char.{is_ascii_digit}
use Rattle.std.proofs.lemmas.Bool.{eqb-true, leb-true}
use Rattle.std.proofs.lemmas.Fmt.{decimal_nonempty}
use Rattle.mk_text.specs.Fields.{field_of}
use Rattle.mk_text.proofs.ForCallers.{both, right_justified_is_read, decimal_digits}
use Rattle.mk_v3000.specs.LogicalLines.{Word}
use Rattle.mk_v3000.specs.Twin.{same_number, has_index}
use Rattle.mk_v3000.specs.WordLines.{number_of}
use Rattle.mk_v3000.proofs.WordLemmas.{is_other}

-- ---- a number that isn't in a list

-- the list without this number
abbrev without : ℕ → List ℤ → List ℤ
without n [] = []
without n (x ∷ xs) = cond (same_number x (pos n)) (without n xs) (x ∷ without n xs)

-- it is no longer, by whether the first number goes
without-le_by : (n : ℕ) (x : ℤ) (xs : List ℤ) → length (without n xs) ≤ length xs → (b : Bool) → same_number x (pos n) ≡ b → length (without n (x ∷ xs)) ≤ length (x ∷ xs)
without-le_by n x xs less true e = rw e (let k : length (x ∷ xs) ≡ suc (length xs) = refl in omega (arith, less))
without-le_by n x xs less false e = rw e (let k : length (x ∷ xs) ≡ suc (length xs) = refl in let j : length (x ∷ without n xs) ≡ suc (length (without n xs)) = refl in omega (arith, less))

-- it is no longer
without-le : (n : ℕ) (xs : List ℤ) → length (without n xs) ≤ length xs
without-le n [] = omega arith
without-le n (x ∷ xs) = without-le_by n x xs (without-le n xs) (same_number x (pos n)) refl

-- and shorter where the number is in it, by whether it is the first
without-lt_by : (n : ℕ) (x : ℤ) (xs : List ℤ) → (has_index xs (pos n) ≡ true → length (without n xs) < length xs)
    → (b : Bool) → same_number x (pos n) ≡ b → cond b true (has_index xs (pos n)) ≡ true
    → length (without n (x ∷ xs)) < length (x ∷ xs)
without-lt_by n x xs less true e h = rw e (let k : length (x ∷ xs) ≡ suc (length xs) = refl in omega (arith, without-le n xs))
without-lt_by n x xs less false e h = rw e (let k : length (x ∷ xs) ≡ suc (length xs) = refl in let j : length (x ∷ without n xs) ≡ suc (length (without n xs)) = refl in omega (arith, less h))

-- and shorter where the number is in it
without-lt : (n : ℕ) (xs : List ℤ) → has_index xs (pos n) ≡ true → length (without n xs) < length xs
without-lt n [] h = absurd cc
without-lt n (x ∷ xs) h = without-lt_by n x xs (without-lt n xs) (same_number x (pos n)) refl h

-- a number is one other
same_pos : (x : ℤ) (n : ℕ) → same_number x (pos n) ≡ true → x ≡ pos n
same_pos (pos m) n h = ap pos (eqb-true m n h)
same_pos (negsuc m) n h = absurd cc

-- no number is two
not_two : (x : ℤ) (i n : ℕ) → i < n → x ≡ pos n → x ≡ pos i → ⊥
not_two x i n lt a b = let same : n ≡ i = (let e = sym a ∙ b in cc) in omega (arith, same)

-- a smaller number that isn't in it isn't in the list, by what the first number is
still_none_by : (n i : ℕ) (x : ℤ) (xs : List ℤ) → i < n
    → (has_index (without n xs) (pos i) ≡ false → has_index xs (pos i) ≡ false) → (b : Bool) → same_number x (pos n) ≡ b
    → (c : Bool) → same_number x (pos i) ≡ c
    → has_index (cond b (without n xs) (x ∷ without n xs)) (pos i) ≡ false → has_index (x ∷ xs) (pos i) ≡ false
still_none_by n i x xs lt others true e true f h = absurd (not_two x i n lt (same_pos x n e) (same_pos x i f))
still_none_by n i x xs lt others true e false f h = rw f (others h)
still_none_by n i x xs lt others false e true f h = absurd (let k : true ≡ false = (let m : cond (same_number x (pos i)) true (has_index (without n xs) (pos i)) ≡ false = h in rw f at m) in cc)
still_none_by n i x xs lt others false e false f h = rw f (others (let m : cond (same_number x (pos i)) true (has_index (without n xs) (pos i)) ≡ false = h in rw f at m))

-- a smaller number that isn't in it isn't in the list
still_none : (n i : ℕ) (xs : List ℤ) → i < n → has_index (without n xs) (pos i) ≡ false → has_index xs (pos i) ≡ false
still_none n i [] lt h = refl
still_none n i (x ∷ xs) lt h = still_none_by n i x xs lt (still_none n i xs lt) (same_number x (pos n)) refl (same_number x (pos i)) refl h

-- one of the numbers from 1 to k + 1 isn't in a list of at most k
pub record Free (k : ℕ) (xs : List ℤ) : Type 0 where
  pub number : ℕ
  pub some : 1 ≤ number
  pub few : number ≤ k + 1
  pub none : has_index xs (pos number) ≡ false

-- by whether the greatest of them is in it
free_by : (k : ℕ) (xs : List ℤ) → length xs ≤ suc k → ((ys : List ℤ) → length ys ≤ k → Free k ys) → (b : Bool) → has_index xs (pos (suc (suc k))) ≡ b → Free (suc k) xs
free_by k xs few others false e = record { number = suc (suc k); some = omega arith; few = omega arith; none = e }
free_by k xs few others true e =
    let less = without-lt (suc (suc k)) xs e in
    let more = others (without (suc (suc k)) xs) (omega arith) in
    let f = more.few in
    record { number = more.number; some = more.some; few = omega arith; none = still_none (suc (suc k)) more.number xs (omega arith) more.none }

pub free : (k : ℕ) (xs : List ℤ) → length xs ≤ k → Free k xs
free zero [] few = record { number = 1; some = omega arith; few = omega arith; none = refl }
free zero (x ∷ xs) few = absurd (let k : length (x ∷ xs) ≡ suc (length xs) = refl in omega (arith, k))
free (suc k) xs few = free_by k xs few (free k) (has_index xs (pos (suc (suc k)))) refl

-- ---- a word that spells a number

-- a digit is no blank
digit_is_other : (c : ℕ) (b : Bool) → eqb c 32 ≡ b → is_ascii_digit c ≡ true → is_other c ≡ true
digit_is_other c false e h = rw e refl
digit_is_other c true e h =
    let k : c ≡ 32 = eqb-true c 32 e in
    let d : is_ascii_digit 32 ≡ true = subst (λ (x : ℕ). is_ascii_digit x ≡ true) k h in
    absurd cc

digits_are_other : (w : List ℕ) → list_all is_ascii_digit w ≡ true → list_all is_other w ≡ true
digits_are_other [] h = refl
digits_are_other (c ∷ w) h =
    let k = both (is_ascii_digit c) (list_all is_ascii_digit w) h in
    rw (digit_is_other c (eqb c 32) refl k.0, digits_are_other w k.1) refl

-- the digits of a number are a word, and its number is that one
pub record Spells (n : ℕ) (word : Word) : Type 0 where
  pub number : number_of word ≡ Some (pos n)
  pub others : list_all is_other word ≡ true
  pub some : 1 ≤ length word

-- the length of some word isn't 0
not_empty : (n : ℕ) → 1 ≤ n → eqb n 0 ≡ false
not_empty n some = ne_eqb n 0 (λ e. omega (arith, e))

pub spelt : (n : ℕ) → n < 10 ^ 9 → Spells n (decimal n)
unfolding number_of
spelt n small =
    let wide : n < 2 ^ 64 = omega arith in
    let some = decimal_nonempty n wide in
    let word : (decimal n ++ []) ≡ decimal n = append-nil (decimal n) in
    let same : length (decimal n) - length (decimal n) ≡ 0 = omega arith in
    let width : 0 + length (decimal n) ≡ length (decimal n) = omega arith in
    let read = right_justified_is_read [] [] (length (decimal n)) n small (omega arith) in
    record { number = rw (not_empty (length (decimal n)) some) (rw (same, word, width) at read); others = digits_are_other (decimal n) (decimal_digits n wide); some = some }
