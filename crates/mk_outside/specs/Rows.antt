-- Rows with numbers, in any order.
--     put number row rows        the rows after a row was put
--     without number n rows      the rows of another number
-- What follows serves code alone:
--     place_of, place_above      how many rows stand before the first of a number, and before the
--                                first of a greater one
--     greatest number rows       the greatest number of a row
--     IsWithin number rows       no number is above the bound that stands beside the rows
use Rattle.std.specs.Prelude.{ℕ, ◌+◌, ◌≤◌, nat_eq, nat_lt, max, not, if◌then◌else◌, List, [], ◌∷◌, filter}
use Rattle.std.specs.List.{list_any}
use Rattle.mk_outside.specs.declared.rows.Rows.{Rows}

module _ {R : Type 0} (number : R → ℕ) where
  -- the row stands in place of the first of its number
  abbrev pub in_place : R → List R → List R
  in_place row [] = []
  in_place row (x ∷ rows) = if nat_eq (number x) (number row) then row ∷ rows else x ∷ in_place row rows

  -- the row stands before the first of a greater number, or behind all
  abbrev pub in_order : R → List R → List R
  in_order row [] = row ∷ []
  in_order row (x ∷ rows) = if nat_lt (number row) (number x) then row ∷ x ∷ rows else x ∷ in_order row rows

  -- the row replaces the first of its number, or where there is none stands before the first of a
  -- greater number
  unfoldable pub put : R → List R → List R
  put row rows = if list_any (λ x. nat_eq (number x) (number row)) rows then in_place row rows else in_order row rows

  -- the rows of another number
  unfoldable pub without : ℕ → List R → List R
  without n rows = filter (λ x. not (nat_eq (number x) n)) rows

  -- how many rows stand before the first of the number
  abbrev pub place_of : ℕ → List R → ℕ
  place_of n [] = 0
  place_of n (x ∷ rows) = if nat_eq (number x) n then 0 else place_of n rows + 1

  -- how many rows stand before the first of a greater number
  abbrev pub place_above : ℕ → List R → ℕ
  place_above n [] = 0
  place_above n (x ∷ rows) = if nat_lt n (number x) then 0 else place_above n rows + 1

  -- the greatest number of a row, and 0 where there is none
  abbrev pub greatest : List R → ℕ
  greatest [] = 0
  greatest (x ∷ rows) = max (number x) (greatest rows)

  -- no row has a number above the bound
  abbrev pub IsWithin : Rows R → Type 0
  IsWithin rows = greatest rows.rows.items ≤ rows.bound
