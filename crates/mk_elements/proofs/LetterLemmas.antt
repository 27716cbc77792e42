-- What the table from letters to numbers gives, by the ranges of the letters.
use Rattle.std.proofs.Common.{◌≡◌, ◌≢◌, ◌≤◌, ◌<◌, ◌+◌, ◌*◌, ◌-◌, ℕ, Some, None, List, [], ◌∷◌, length, refl, get_or, take, drop, arith}
use Rattle.std.proofs.lemmas.Bool.{eq-eqb, ne_eqb}
use Rattle.std.proofs.lemmas.Bool.Decides.{nat_tests}
use Rattle.mk_elements.specs.Letters.{at_letters, by_letters, columns_of, some_number}
use Rattle.mk_elements.specs.declared.symbols.TheConstants.{NUMBERS}

-- a number that isn't 0 is an element
some_number-other : (z : ℕ) → z ≢ 0 → some_number z ≡ Some z
some_number-other z other = grind (arith, nat_tests)

-- letters in range are looked up
at_letters-in : (first second z : ℕ) → 65 ≤ first → first ≤ 90 → second ≤ 122 → z ≡ get_or NUMBERS.now ((first - 65) * 27 + (second - 96)) 0 → at_letters first second ≡ some_number z
unfolding at_letters
at_letters-in first second z a b d is = rw (← is) (grind (arith, nat_tests))

-- an entry of 0 is no element
pub at_letters-none : (first second z : ℕ) → 65 ≤ first → first ≤ 90 → second ≤ 122 → z ≡ get_or NUMBERS.now ((first - 65) * 27 + (second - 96)) 0 → z ≡ 0 → None ≡ at_letters first second
at_letters-none first second z a b d is none = rw (at_letters-in first second z a b d is, none) refl

-- any other entry is the element's number
pub at_letters-some : (first second z : ℕ) → 65 ≤ first → first ≤ 90 → second ≤ 122 → z ≡ get_or NUMBERS.now ((first - 65) * 27 + (second - 96)) 0 → z ≢ 0 → Some z ≡ at_letters first second
at_letters-some first second z a b d is other = rw (at_letters-in first second z a b d is, some_number-other z other) refl

-- one letter
pub by_letters-one : (s : List ℕ) → length s ≡ 1 → at_letters (get_or s 0 0) 96 ≡ by_letters s
unfolding by_letters
by_letters-one [] h = absurd (omega arith)
by_letters-one (first ∷ []) h = refl
by_letters-one (first ∷ second ∷ rest) h = absurd (omega arith)

-- no letter, or more than two
pub by_letters-many : (s : List ℕ) → length s ≢ 1 → length s ≢ 2 → None ≡ by_letters s
unfolding by_letters
by_letters-many [] one two = refl
by_letters-many (first ∷ []) one two = absurd (one refl)
by_letters-many (first ∷ second ∷ []) one two = absurd (two refl)
by_letters-many (first ∷ second ∷ third ∷ others) one two = refl

-- two letters, the second of them not small
pub by_letters-high : (s : List ℕ) → length s ≡ 2 → get_or s 1 0 < 97 → None ≡ by_letters s
unfolding by_letters
by_letters-high [] h small = absurd (omega arith)
by_letters-high (first ∷ []) h small = absurd (omega arith)
by_letters-high (first ∷ second ∷ []) h small = grind (arith, nat_tests)
by_letters-high (first ∷ second ∷ third ∷ others) h small = absurd (omega arith)

-- two letters
pub by_letters-two : (s : List ℕ) → length s ≡ 2 → 97 ≤ get_or s 1 0 → at_letters (get_or s 0 0) (get_or s 1 0) ≡ by_letters s
unfolding by_letters
by_letters-two [] h low = absurd (omega arith)
by_letters-two (first ∷ []) h low = absurd (omega arith)
by_letters-two (first ∷ second ∷ []) h low = grind (arith, nat_tests)
by_letters-two (first ∷ second ∷ third ∷ others) h low = absurd (omega arith)

-- the columns where the second is a blank
pub columns_of-one : (text : List ℕ) (z : ℕ) → get_or text (2 * (z - 1) + 1) 0 ≡ 32 → take (2 * (z - 1) + 1 - 2 * (z - 1)) (drop (2 * (z - 1)) text) ≡ columns_of text z
unfolding columns_of
columns_of-one text z blank =
    let one : 2 * (z - 1) + 1 - 2 * (z - 1) ≡ 1 = omega arith in
    rw (one, eq-eqb (get_or text (2 * (z - 1) + 1) 0) 32 blank) refl

-- the columns where the second is none
pub columns_of-two : (text : List ℕ) (z : ℕ) → get_or text (2 * (z - 1) + 1) 0 ≢ 32 → take (2 * (z - 1) + 2 - 2 * (z - 1)) (drop (2 * (z - 1)) text) ≡ columns_of text z
unfolding columns_of
columns_of-two text z letter =
    let two : 2 * (z - 1) + 2 - 2 * (z - 1) ≡ 2 = omega arith in
    rw (two, ne_eqb (get_or text (2 * (z - 1) + 1) 0) 32 letter) refl
