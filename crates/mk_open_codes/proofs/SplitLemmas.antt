-- Choices that are split at a slot.
--     first_of, rest_of        what a choice chooses at the first s slots, and at those behind them
--     first_made, rest_made, split_spelt     they are choices, and together they spell the whole
--     first_more               at one slot more
--     number_at                the number that is chosen at slot s
--     number_within            it is one of those that may stand there
--     number_is                it is the number that stands behind the first s slots
use Rattle.std.proofs.Common.{◌≡◌, ◌∙◌, ℕ, zero, suc, ◌<◌, ◌≤◌, List, [], ◌∷◌, ◌++◌, length, get_or, take, drop, refl, sym, ap, arith, append_assoc}
use Rattle.mk_model.specs.declared.template.Slot.{Slot}
use Rattle.mk_model.specs.declared.template.Slot.TheVariants.{Link, Site}
use Rattle.mk_model.specs.Codes.{Choice, IsChoice, spelling}
use Rattle.mk_model.specs.Codes.Choice.{done, repeated, unfilled, filled}
use Rattle.mk_model.specs.OpenSlots.{most_at}
use Rattle.mk_model.specs.Queries.{QueryView}
use Rattle.mk_expand.proofs.OneChoiceLemmas.{heads}

-- what a choice chooses at the first s slots
abbrev pub first_of : ℕ → Choice → Choice
first_of zero choice = done
first_of (suc s) done = done
first_of (suc s) (repeated n others) = repeated n (first_of s others)
first_of (suc s) (unfilled n others) = unfilled n (first_of s others)
first_of (suc s) (filled k inside others) = filled k inside (first_of s others)

-- what it chooses at the slots behind them
abbrev pub rest_of : ℕ → Choice → Choice
rest_of zero choice = choice
rest_of (suc s) done = done
rest_of (suc s) (repeated n others) = rest_of s others
rest_of (suc s) (unfilled n others) = rest_of s others
rest_of (suc s) (filled k inside others) = rest_of s others

-- a choice at the slots chooses at the first of them
pub first_made : (query : QueryView) (s : ℕ) (slots : List Slot) (choice : Choice) → IsChoice query slots choice → IsChoice query (take s slots) (first_of s choice)
first_made query zero slots choice is = tt
first_made query (suc s) [] done is = tt
first_made query (suc s) [] (repeated n others) is = absurd is
first_made query (suc s) [] (unfilled n others) is = absurd is
first_made query (suc s) [] (filled k inside others) is = absurd is
first_made query (suc s) (Link atom most from to ∷ slots) done is = absurd is
first_made query (suc s) (Link atom most from to ∷ slots) (repeated n others) is = (is.0, is.1, first_made query s slots others is.2)
first_made query (suc s) (Link atom most from to ∷ slots) (unfilled n others) is = absurd is
first_made query (suc s) (Link atom most from to ∷ slots) (filled k inside others) is = absurd is
first_made query (suc s) (Site atom groups first second ∷ slots) done is = absurd is
first_made query (suc s) (Site atom groups first second ∷ slots) (repeated n others) is = absurd is
first_made query (suc s) (Site atom groups first second ∷ slots) (unfilled n others) is = (is.0, first_made query s slots others is.1)
first_made query (suc s) (Site atom groups first second ∷ slots) (filled k inside others) is = (is.0, is.1, is.2, first_made query s slots others is.3)

-- and at those behind them
pub rest_made : (query : QueryView) (s : ℕ) (slots : List Slot) (choice : Choice) → IsChoice query slots choice → IsChoice query (drop s slots) (rest_of s choice)
rest_made query zero slots choice is = is
rest_made query (suc s) [] done is = tt
rest_made query (suc s) [] (repeated n others) is = absurd is
rest_made query (suc s) [] (unfilled n others) is = absurd is
rest_made query (suc s) [] (filled k inside others) is = absurd is
rest_made query (suc s) (Link atom most from to ∷ slots) done is = absurd is
rest_made query (suc s) (Link atom most from to ∷ slots) (repeated n others) is = rest_made query s slots others is.2
rest_made query (suc s) (Link atom most from to ∷ slots) (unfilled n others) is = absurd is
rest_made query (suc s) (Link atom most from to ∷ slots) (filled k inside others) is = absurd is
rest_made query (suc s) (Site atom groups first second ∷ slots) done is = absurd is
rest_made query (suc s) (Site atom groups first second ∷ slots) (repeated n others) is = absurd is
rest_made query (suc s) (Site atom groups first second ∷ slots) (unfilled n others) is = rest_made query s slots others is.1
rest_made query (suc s) (Site atom groups first second ∷ slots) (filled k inside others) is = rest_made query s slots others is.3

-- together they spell the whole
pub split_spelt : (s : ℕ) (choice : Choice) → spelling (first_of s choice) ++ spelling (rest_of s choice) ≡ spelling choice
split_spelt zero choice = refl
split_spelt (suc s) done = refl
split_spelt (suc s) (repeated n others) = ap (λ (xs : List ℕ). n ∷ xs) (split_spelt s others)
split_spelt (suc s) (unfilled n others) = ap (λ (xs : List ℕ). n ∷ xs) (split_spelt s others)
split_spelt (suc s) (filled k inside others) =
    ap (λ (xs : List ℕ). k ∷ xs) (append_assoc (spelling inside) (spelling (first_of s others)) (spelling (rest_of s others)))
    ∙ ap (λ (xs : List ℕ). k ∷ (spelling inside ++ xs)) (split_spelt s others)

-- at one slot more
pub first_more : (s : ℕ) (choice : Choice) → spelling (first_of (suc s) choice) ≡ spelling (first_of s choice) ++ spelling (first_of 1 (rest_of s choice))
first_more zero choice = refl
first_more (suc s) done = refl
first_more (suc s) (repeated n others) = ap (λ (xs : List ℕ). n ∷ xs) (first_more s others)
first_more (suc s) (unfilled n others) = ap (λ (xs : List ℕ). n ∷ xs) (first_more s others)
first_more (suc s) (filled k inside others) =
    ap (λ (xs : List ℕ). k ∷ (spelling inside ++ xs)) (first_more s others)
    ∙ ap (λ (xs : List ℕ). k ∷ xs) (sym (append_assoc (spelling inside) (spelling (first_of s others)) (spelling (first_of 1 (rest_of s others)))))

-- ---- the number at a slot

-- the number that is chosen at slot s, and 0 where there is none
abbrev pub number_at : ℕ → Choice → ℕ
number_at s done = 0
number_at zero (repeated n others) = n
number_at zero (unfilled n others) = n
number_at zero (filled k inside others) = k
number_at (suc s) (repeated n others) = number_at s others
number_at (suc s) (unfilled n others) = number_at s others
number_at (suc s) (filled k inside others) = number_at s others

-- it is one of those that may stand there
pub number_within : (query : QueryView) (s : ℕ) (slots : List Slot) (choice : Choice) → IsChoice query slots choice → s < length slots
    → (1 ≤ number_at s choice) × (number_at s choice ≤ most_at query (get_or slots s (Link 0 0 0 0)))
number_within query s [] choice is below = absurd (omega arith)
number_within query zero (Link atom most from to ∷ slots) done is below = absurd is
number_within query zero (Link atom most from to ∷ slots) (repeated n others) is below = (is.0, is.1)
number_within query zero (Link atom most from to ∷ slots) (unfilled n others) is below = absurd is
number_within query zero (Link atom most from to ∷ slots) (filled k inside others) is below = absurd is
number_within query zero (Site atom groups first second ∷ slots) done is below = absurd is
number_within query zero (Site atom groups first second ∷ slots) (repeated n others) is below = absurd is
number_within query zero (Site atom groups first second ∷ slots) (unfilled n others) is below = (omega (arith, is.0), omega (arith, is.0))
number_within query zero (Site atom groups first second ∷ slots) (filled k inside others) is below = (is.0, omega (arith, is.1))
number_within query (suc s) (Link atom most from to ∷ slots) done is below = absurd is
number_within query (suc s) (Link atom most from to ∷ slots) (repeated n others) is below = number_within query s slots others is.2 (omega (arith, below))
number_within query (suc s) (Link atom most from to ∷ slots) (unfilled n others) is below = absurd is
number_within query (suc s) (Link atom most from to ∷ slots) (filled k inside others) is below = absurd is
number_within query (suc s) (Site atom groups first second ∷ slots) done is below = absurd is
number_within query (suc s) (Site atom groups first second ∷ slots) (repeated n others) is below = absurd is
number_within query (suc s) (Site atom groups first second ∷ slots) (unfilled n others) is below = number_within query s slots others is.1 (omega (arith, below))
number_within query (suc s) (Site atom groups first second ∷ slots) (filled k inside others) is below = number_within query s slots others is.3 (omega (arith, below))

-- it is the number that stands behind the first s slots
pub number_is : (s : ℕ) (choice : Choice) (n : ℕ) (more : List ℕ) → spelling (rest_of s choice) ≡ n ∷ more → number_at s choice ≡ n
number_is zero done n more is = absurd cc
number_is zero (repeated m others) n more is = heads m n _ _ is
number_is zero (unfilled m others) n more is = heads m n _ _ is
number_is zero (filled k inside others) n more is = heads k n _ _ is
number_is (suc s) done n more is = absurd cc
number_is (suc s) (repeated m others) n more is = number_is s others n more is
number_is (suc s) (unfilled m others) n more is = number_is s others n more is
number_is (suc s) (filled k inside others) n more is = number_is s others n more is
