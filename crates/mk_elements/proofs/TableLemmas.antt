-- The table from letters to numbers agrees with the list of symbols: each is checked against the other, entry by entry.
--     by_letters-names     what the letters give is what they name
--     Names-by_letters     what bytes name is what their letters give
--     IsSymbol-columns_of  the columns of an element are its symbol
use Rattle.std.proofs.Common.{◌≡◌, ◌≢◌, ◌≤◌, ◌<◌, ◌+◌, ◌*◌, ◌-◌, ◌/◌, ◌%◌, ℕ, zero, suc, Bool, true, false, cond, eqb, ltb, leb, List, [], ◌∷◌, length, Option, Some, None, refl, get_or, sym, arith, ap, ◌∙◌, inl, inr, ⊎_elim, add-zero, zero-add}
use Rattle.std.proofs.lemmas.Nat.{div-mul-add, mod-mul-add}
use Rattle.std.specs.Prelude.{◌&&◌, ◌||◌, ◌⊎◌, IfSome, slice_get}
use Rattle.std.proofs.lemmas.Bool.{and_parts, or_cases, eqb-true, leb-true, ltb-false, eqb-false, ne_eqb}
use Rattle.mk_elements.specs.Letters.{at_letters, by_letters, columns_of}
use Rattle.mk_elements.specs.Symbols.{symbols, IsSymbol, NamesElement}
use Rattle.mk_elements.specs.declared.symbols.TheConstants.{NUMBERS, SYMBOLS}

-- ---- lists of bytes that are equal

same : List ℕ → List ℕ → Bool
same [] [] = true
same [] (y ∷ ys) = false
same (x ∷ xs) [] = false
same (x ∷ xs) (y ∷ ys) = eqb x y && same xs ys

-- bytes that pass the test are equal
same-true : (xs ys : List ℕ) → same xs ys ≡ true → xs ≡ ys
unfolding same
same-true [] [] h = refl
same-true [] (y ∷ ys) h = cc
same-true (x ∷ xs) [] h = cc
same-true (x ∷ xs) (y ∷ ys) h =
    let both = and_parts (eqb x y) (same xs ys) h in
    let head = eqb-true x y both.0 in
    let tail = same-true xs ys both.1 in
    cc

-- a place of a list as `slice_get` reads it
slice_get-get_or : (xs : List (List ℕ)) (k : ℕ) → k < length xs → slice_get xs k ≡ Some (get_or xs k [])
slice_get-get_or [] k h = absurd (omega arith)
slice_get-get_or (x ∷ xs) zero h = refl
slice_get-get_or (x ∷ xs) (suc k) h = slice_get-get_or xs k (omega arith)

-- ---- from letters to names

-- the bytes are the symbol of z by this list, as a test
is_symbol : List (List ℕ) → List ℕ → ℕ → Bool
is_symbol all s z = leb 1 z && (leb z (length all) && same (get_or all (z - 1) []) s)

-- the bytes are `D` or `T` and z is hydrogen, as a test
is_heavy : List ℕ → ℕ → Bool
is_heavy s z = eqb z 1 && (same s (68 ∷ []) || same s (84 ∷ []))

-- bytes that pass the test are the symbol of z
is_symbol-true : (s : List ℕ) (z : ℕ) → is_symbol symbols s z ≡ true → IsSymbol s z
unfolding is_symbol
is_symbol-true s z h =
    let first = and_parts (leb 1 z) (leb z (length symbols) && same (get_or symbols (z - 1) []) s) h in
    let second = and_parts (leb z (length symbols)) (same (get_or symbols (z - 1) []) s) first.1 in
    let low : 1 ≤ z = leb-true 1 z first.0 in
    let high : z ≤ length symbols = leb-true z (length symbols) second.0 in
    let place : z - 1 < length symbols = omega arith in
    (low, slice_get-get_or symbols (z - 1) place ∙ ap Some (same-true (get_or symbols (z - 1) []) s second.1))

-- bytes that pass the test are `D` or `T`
is_heavy-true : (s : List ℕ) (z : ℕ) → is_heavy s z ≡ true → (z ≡ 1) × ((s ≡ 68 ∷ []) ⊎ (s ≡ 84 ∷ []))
unfolding is_heavy
is_heavy-true s z h =
    let first = and_parts (eqb z 1) (same s (68 ∷ []) || same s (84 ∷ [])) h in (
      eqb-true z 1 first.0,
      ⊎_elim (λ u. inl (same-true s (68 ∷ []) u)) (λ u. inr (same-true s (84 ∷ []) u)) (or_cases (same s (68 ∷ [])) (same s (84 ∷ [])) first.1),
    )

-- the letters of a row and a column, as they are written
letters : ℕ → ℕ → List ℕ
letters first second = cond (eqb second 96) (first ∷ []) (first ∷ second ∷ [])

-- the numbers of the table name by their letters, from a place on
all_name : List (List ℕ) → ℕ → List ℕ → Bool
all_name all i [] = true
all_name all i (z ∷ zs) =
    (eqb z 0 || (is_symbol all (letters (65 + i / 27) (96 + i % 27)) z || is_heavy (letters (65 + i / 27) (96 + i % 27)) z))
    && all_name all (suc i) zs

table_names : all_name symbols 0 NUMBERS.now ≡ true
unfolding all_name is_symbol is_heavy letters same symbols
table_names = refl

-- what each number of such a list names
all_name-at : (i k : ℕ) (zs : List ℕ) → all_name symbols i zs ≡ true → k < length zs → get_or zs k 0 ≢ 0 → NamesElement (letters (65 + (i + k) / 27) (96 + (i + k) % 27)) (get_or zs k 0)
unfolding all_name
all_name-at i k [] h below other = absurd (omega arith)
all_name-at i zero (z ∷ zs) h below other =
    let s = letters (65 + i / 27) (96 + i % 27) in
    let first = and_parts (eqb z 0 || (is_symbol symbols s z || is_heavy s z)) (all_name symbols (suc i) zs) h in
    rw add-zero
    (⊎_elim (λ t. absurd (other (eqb-true z 0 t)))
    (λ t. ⊎_elim (λ u. inl (is_symbol-true s z u)) (λ u. inr (is_heavy-true s z u)) (or_cases (is_symbol symbols s z) (is_heavy s z) t))
    (or_cases (eqb z 0) (is_symbol symbols s z || is_heavy s z) first.0))
all_name-at i (suc k) (z ∷ zs) h below other =
    let s = letters (65 + i / 27) (96 + i % 27) in
    let first = and_parts (eqb z 0 || (is_symbol symbols s z || is_heavy s z)) (all_name symbols (suc i) zs) h in
    let there = all_name-at (suc i) k zs first.1 (omega arith) other in
    let same_place : suc i + k ≡ i + suc k = omega arith in
    rw same_place at there

-- letters that give something are in range, and the table has their number
record IsEntry (first second z : ℕ) : Type 0 where
  row : (65 ≤ first) × (first ≤ 90)
  column : second ≤ 122
  number : get_or NUMBERS.now ((first - 65) * 27 + (second - 96)) 0 ≡ z
  other : z ≢ 0

at_letters-entry : (first second z : ℕ) → at_letters first second ≡ Some z → IsEntry first second z
unfolding at_letters
at_letters-entry first second z h = by_tests (ltb first 65) (ltb 90 first) (ltb 122 second) (eqb (get_or NUMBERS.now ((first - 65) * 27 + (second - 96)) 0) 0) refl refl refl refl h
  where
    n : ℕ
    n = get_or NUMBERS.now ((first - 65) * 27 + (second - 96)) 0

    by_tests : (p q r t : Bool) → ltb first 65 ≡ p → ltb 90 first ≡ q → ltb 122 second ≡ r → eqb n 0 ≡ t → cond (p || q || r) None (cond t None (Some n)) ≡ Some z → IsEntry first second z
    by_tests true q r t a b d e h = cc
    by_tests false true r t a b d e h = cc
    by_tests false false true t a b d e h = cc
    by_tests false false false true a b d e h = cc
    by_tests false false false false a b d e h =
        let number : get_or NUMBERS.now ((first - 65) * 27 + (second - 96)) 0 ≡ z = cc in
        record {
          row = (ltb-false first 65 a, ltb-false 90 first b);
          column = ltb-false 122 second d;
          number = number;
          other = λ zero. eqb-false (get_or NUMBERS.now ((first - 65) * 27 + (second - 96)) 0) 0 e (number ∙ zero);
        }

-- the letters of an entry name its number
letters-name : (first second z : ℕ) → 96 ≤ second → at_letters first second ≡ Some z → NamesElement (letters first second) z
letters-name first second z low h =
    let e = at_letters-entry first second z h in
    let c : second - 96 < 27 = omega (arith, e.column) in
    let below : (first - 65) * 27 + (second - 96) < length NUMBERS.now = omega (arith, e.row.0, e.row.1) in
    let there = all_name-at 0 ((first - 65) * 27 + (second - 96)) NUMBERS.now table_names below (λ q. e.other (sym e.number ∙ q)) in
    let row : 65 + (0 + ((first - 65) * 27 + (second - 96))) / 27 ≡ first = rw (zero-add, div-mul-add (first - 65) 27 (second - 96) c) (omega (arith, e.row.0)) in
    let column : 96 + (0 + ((first - 65) * 27 + (second - 96))) % 27 ≡ second = rw (zero-add, mod-mul-add (first - 65) 27 (second - 96) c) (omega arith) in
    rw (row, column, e.number) at there

-- what the letters give is what they name
pub by_letters-names : (s : List ℕ) (z : ℕ) → by_letters s ≡ Some z → NamesElement s z
unfolding by_letters letters
by_letters-names [] z h = cc
by_letters-names (first ∷ []) z h = letters-name first 96 z (omega arith) h
by_letters-names (first ∷ second ∷ []) z h = by_test (ltb second 97) refl h
  where
    by_test : (b : Bool) → ltb second 97 ≡ b → cond b None (at_letters first second) ≡ Some z → NamesElement (first ∷ second ∷ []) z
    by_test true e h = cc
    by_test false e h =
        let small = ltb-false second 97 e in
        let there = letters-name first second z (omega arith) h in
        rw (ne_eqb second 96 (λ x. omega arith)) at there
by_letters-names (first ∷ second ∷ third ∷ others) z h = cc

-- ---- from names to letters

-- a look-up gives z, as a test
gives : Option ℕ → ℕ → Bool
gives None z = false
gives (Some y) z = eqb y z

gives-true : (o : Option ℕ) (z : ℕ) → gives o z ≡ true → o ≡ Some z
unfolding gives
gives-true None z h = cc
gives-true (Some y) z h = ap Some (eqb-true y z h)

-- each symbol's letters give its number, from a number on
all_read : ℕ → List (List ℕ) → Bool
all_read z [] = true
all_read z (s ∷ rest) = gives (by_letters s) z && all_read (suc z) rest

symbols_read : all_read 1 symbols ≡ true
unfolding all_read gives symbols by_letters at_letters
symbols_read = refl

-- the letters of each symbol of such a list
all_read-at : (z k : ℕ) (all : List (List ℕ)) (s : List ℕ) → all_read z all ≡ true → slice_get all k ≡ Some s → by_letters s ≡ Some (z + k)
unfolding all_read
all_read-at z k [] s h is = cc
all_read-at z zero (x ∷ rest) s h is =
    let first = and_parts (gives (by_letters x) z) (all_read (suc z) rest) h in
    let there = gives-true (by_letters x) z first.0 in
    rw add-zero (cc)
all_read-at z (suc k) (x ∷ rest) s h is =
    let first = and_parts (gives (by_letters x) z) (all_read (suc z) rest) h in
    let there = all_read-at (suc z) k rest s first.1 is in
    let same_number : suc z + k ≡ z + suc k = omega arith in
    rw same_number at there

-- `D` and `T` are hydrogen
heavy_read : (by_letters (68 ∷ []) ≡ Some 1) × (by_letters (84 ∷ []) ≡ Some 1)
unfolding by_letters at_letters
heavy_read = (refl, refl)

-- what bytes name is what their letters give
pub Names-by_letters : (s : List ℕ) (z : ℕ) → NamesElement s z → by_letters s ≡ Some z
Names-by_letters s z names =
    ⊎_elim
    (λ is.
    let there = all_read-at 1 (z - 1) symbols s symbols_read is.1 in
    let number : 1 + (z - 1) ≡ z = omega (arith, is.0) in
    rw number at there)
    (λ is. ⊎_elim (λ d. ap by_letters d ∙ heavy_read.0 ∙ ap Some (sym is.0)) (λ t. ap by_letters t ∙ heavy_read.1 ∙ ap Some (sym is.0)) is.1)
    names

-- ---- the text of symbols

-- each symbol stands in its columns, from a number on
all_stand : List ℕ → ℕ → List (List ℕ) → Bool
all_stand text z [] = true
all_stand text z (s ∷ rest) = same (columns_of text z) s && all_stand text (suc z) rest

symbols_stand : all_stand SYMBOLS.now 1 symbols ≡ true
unfolding all_stand columns_of same symbols
symbols_stand = refl

-- the columns of each symbol of such a list
all_stand-at : (z k : ℕ) (all : List (List ℕ)) → all_stand SYMBOLS.now z all ≡ true → k < length all → slice_get all k ≡ Some (columns_of SYMBOLS.now (z + k))
unfolding all_stand
all_stand-at z k [] h below = absurd (omega arith)
all_stand-at z zero (s ∷ rest) h below =
    let first = and_parts (same (columns_of SYMBOLS.now z) s) (all_stand SYMBOLS.now (suc z) rest) h in
    rw add-zero (ap Some (sym (same-true (columns_of SYMBOLS.now z) s first.0)))
all_stand-at z (suc k) (s ∷ rest) h below =
    let first = and_parts (same (columns_of SYMBOLS.now z) s) (all_stand SYMBOLS.now (suc z) rest) h in
    let there = all_stand-at (suc z) k rest first.1 (omega arith) in
    let same_number : suc z + k ≡ z + suc k = omega arith in
    rw same_number at there

how_many : length symbols ≡ 118
unfolding symbols
how_many = refl

-- a number that a symbol names is one of the table
slice_get-below : (xs : List (List ℕ)) (k : ℕ) (x : List ℕ) → slice_get xs k ≡ Some x → k < length xs
slice_get-below [] k x is = cc
slice_get-below (y ∷ ys) zero x is = omega arith
slice_get-below (y ∷ ys) (suc k) x is = omega (arith, slice_get-below ys k x is)

-- what bytes name is an element of the table
Names-in_range : (s : List ℕ) (z : ℕ) → NamesElement s z → (1 ≤ z) × (z ≤ 118)
Names-in_range s z names =
    ⊎_elim (λ is. (is.0, omega (arith, how_many, slice_get-below symbols (z - 1) s is.1, is.0)))
    (λ is. (omega (arith, is.0), omega (arith, is.0)))
    names

-- what letters give is an element of the table
pub in_range-by_letters : (s : List ℕ) (r : Option ℕ) → r ≡ by_letters s → IfSome r (λ z. (1 ≤ z) × (z ≤ 118))
in_range-by_letters s None is = tt
in_range-by_letters s (Some z) is = Names-in_range s z (by_letters-names s z (sym is))

-- the columns of an element are its symbol
pub IsSymbol-columns_of : (z : ℕ) → 1 ≤ z → z ≤ 118 → IsSymbol (columns_of SYMBOLS.now z) z
IsSymbol-columns_of z low high =
    let place : z - 1 < length symbols = omega (arith, how_many) in
    let there = all_stand-at 1 (z - 1) symbols symbols_stand place in
    let number : 1 + (z - 1) ≡ z = omega arith in
    (low, rw number at there)
