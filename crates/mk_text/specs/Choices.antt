-- Choices of numbers from 1 on.
--     choices n k             all lists of k numbers from 1 to n, in rising order
--     IsChoice n k xs         the list is k numbers from 1 to n
--     ChoicesThatPass         those that pass a test, in that order, are the rising list of all
--                             that do
use Rattle.std.specs.Prelude.{◌≡◌, ℕ, ◌≤◌, zero, suc, Bool, true, List, [], ◌∷◌, length, map, filter}
use Rattle.std.specs.List.{flat_map, range_with_len, AllByRecursion}
use Rattle.mk_text.specs.Rising.{IsRisingListOfAll}

-- all lists of k numbers from 1 to n, in rising order
abbrev pub choices : ℕ → ℕ → List (List ℕ)
choices n zero = [] ∷ []
choices n (suc k) = flat_map (λ a. map (λ others. a ∷ others) (choices n k)) (range_with_len 1 n)

-- k numbers from 1 to n
pub record IsChoice (n k : ℕ) (xs : List ℕ) : Type 0 where
  pub count : length xs ≡ k
  pub within : AllByRecursion (λ a. (1 ≤ a) × (a ≤ n)) xs

-- a choice that passes the test
pub record IsPassed (n k : ℕ) (test : List ℕ → Bool) (xs : List ℕ) : Type 0 where
  pub choice : IsChoice n k xs
  pub passes : test xs ≡ true

-- the choices that pass a test, in order, are the rising list of all that do
abbrev pub ChoicesThatPass : Type 0
ChoicesThatPass = (n k : ℕ) (test : List ℕ → Bool) → IsRisingListOfAll (IsPassed n k test) (filter test (choices n k))
