-- Reading lines from the left. A reading carries the lines that are left, and no counter.
--     Reading L V                        what reading some lines gives: a value, or the place where
--                                        it stops
--     and_then reading f                 where a value was read, f goes on with the lines behind it
--     TakesLines lines count v reading   the reading gave the value v and took so many of the lines
--     StopsAtLine lines named k reading  the reading stopped at line k
use Rattle.std.specs.Prelude.{◌≡◌, ℕ, ◌+◌, ◌-◌, ◌≤◌, Bool, List, length, drop}

-- what reading lines from the left gives: a value and the lines left, or the place where it stops
pub data Reading (L V : Type 0) : Type 0 where
  -- this value was read, and these lines are left
  Took : (value : V) (rest : List L) → Reading L V
  -- The first of these lines doesn't fit, or a line is wanted and none is left. A stop is named or
  -- isn't.
  Stop : (named : Bool) (rest : List L) → Reading L V

-- where a value was read, f goes on with it and the lines behind it
abbrev pub and_then : {L X V : Type 0} → Reading L X → (X → List L → Reading L V) → Reading L V
and_then (Took x rest) f = f x rest
and_then (Stop named rest) f = Stop named rest

-- the reading of these lines gave the value, and took so many of them
pub record TakesLines {L V : Type 0} (lines : List L) (count : ℕ) (value : V) (reading : Reading L V) : Type 0 where
  pub within : count ≤ length lines
  pub took : reading ≡ Took value (drop count lines)

-- The reading of these lines stopped at line k, counted from 1, or behind the last line where k is
-- their number plus 1.
pub record StopsAtLine {L V : Type 0} (lines : List L) (named : Bool) (k : ℕ) (reading : Reading L V) : Type 0 where
  pub counted : (1 ≤ k) × (k ≤ length lines + 1)
  pub stop : reading ≡ Stop named (drop (k - 1) lines)
