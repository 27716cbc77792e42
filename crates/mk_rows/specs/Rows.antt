-- Rows by rising number.
--     Rows T                       what is seen of a `ByNumber`: its rows, and how many more it has
--                                  room for
--     IsRising rows                each number is below all later ones
--     holds n rows                 some row has the number
--     item_at n rows               the item under the number
--     put_in_order row rows        the rows with a further one
--     replaced row rows            the rows with this one in place of that of its number
--     without n rows               the rows of another number
--     IsLeastFrom from rows n      the number is the least that is held, from there on
--     NoneFrom from rows           from there on none is held
--     IsGreatest rows n            the number is the greatest that is held
-- What follows serves the code, here and above:
--     place_of n rows              how many rows are below a number
--     number_of rows i             the number of the row at a place
use Rattle.std.specs.Prelude.{◌≡◌, ℕ, zero, suc, ◌+◌, ◌<◌, ◌≤◌, nat_eq, nat_lt, Bool, true, false, not, if◌then◌else◌, List, [], ◌∷◌, filter, Option, Some, None, ⊤}
use Rattle.std.specs.List.{AllByRecursion, list_any}
use Rattle.mk_rows.specs.declared.by_number.Numbered.{Numbered}

-- what is seen of a `ByNumber`
pub record Rows (T : Type 0) : Type 0 where
  pub rows : List (Numbered T)
  pub spare : ℕ

-- each number is below all later ones
abbrev pub IsRising : {T : Type 0} → List (Numbered T) → Type 0
IsRising [] = ⊤
IsRising (row ∷ rows) = AllByRecursion (λ later. row.number < later.number) rows × IsRising rows

-- some row has the number
abbrev pub holds : {T : Type 0} → ℕ → List (Numbered T) → Bool
holds n rows = list_any (λ row. nat_eq row.number n) rows

-- the item under the number, if it is held
abbrev pub item_at : {T : Type 0} → ℕ → List (Numbered T) → Option T
item_at n [] = None
item_at n (row ∷ rows) = if nat_eq row.number n then Some row.item else item_at n rows

-- the row stands before the first of a greater number, or behind all
abbrev pub put_in_order : {T : Type 0} → Numbered T → List (Numbered T) → List (Numbered T)
put_in_order row [] = row ∷ []
put_in_order row (x ∷ rows) = if nat_lt row.number x.number then row ∷ x ∷ rows else x ∷ put_in_order row rows

-- the row stands in place of the first of its number
abbrev pub replaced : {T : Type 0} → Numbered T → List (Numbered T) → List (Numbered T)
replaced row [] = []
replaced row (x ∷ rows) = if nat_eq x.number row.number then row ∷ rows else x ∷ replaced row rows

-- the rows of another number
abbrev pub without : {T : Type 0} → ℕ → List (Numbered T) → List (Numbered T)
without n rows = filter (λ row. not (nat_eq row.number n)) rows

-- the number is held and not below `from`, and so is none below it
pub record IsLeastFrom {T : Type 0} (from : ℕ) (rows : List (Numbered T)) (n : ℕ) : Type 0 where
  pub held : holds n rows ≡ true
  pub not_below : from ≤ n
  pub least : (other : ℕ) → from ≤ other → holds other rows ≡ true → n ≤ other

-- no number is held from this one on
abbrev pub NoneFrom : {T : Type 0} → ℕ → List (Numbered T) → Type 0
NoneFrom from rows = (n : ℕ) → from ≤ n → holds n rows ≡ false

-- the number is held, and none above it is
pub record IsGreatest {T : Type 0} (rows : List (Numbered T)) (n : ℕ) : Type 0 where
  pub held : holds n rows ≡ true
  pub most : (other : ℕ) → holds other rows ≡ true → other ≤ n

-- ---- for the code

-- how many rows stand before the first that isn't below the number
abbrev pub place_of : {T : Type 0} → ℕ → List (Numbered T) → ℕ
place_of n [] = 0
place_of n (x ∷ rows) = if nat_lt x.number n then place_of n rows + 1 else 0

-- the number of the row at a place, and 0 past the rows
abbrev pub number_of : {T : Type 0} → List (Numbered T) → ℕ → ℕ
number_of [] i = 0
number_of (row ∷ rows) zero = row.number
number_of (row ∷ rows) (suc i) = number_of rows i
