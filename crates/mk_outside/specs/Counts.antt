-- Counts of what went wrong. They never fall, and stand still at their last value, 2 ^ 64 - 1.
--     Rose old new             the count rose, or stands at its last value
--     Counts failed old new    what a call does to a count, by whether it failed
--     one_more n               the count after one more
use Rattle.std.specs.Prelude.{◌≡◌, ℕ, ◌+◌, ◌<◌, ◌≤◌, min, Bool, true, false}

-- the count rose, or stands at its last value
pub record Rose (old new : ℕ) : Type 0 where
  pub never_fell : old ≤ new
  pub above : new < 18446744073709551615 → old < new

-- a call that failed raises the count, and any other leaves it as it was
abbrev pub Counts : Bool → ℕ → ℕ → Type 0
Counts true old new = Rose old new
Counts false old new = new ≡ old

-- the count after one more
abbrev pub one_more : ℕ → ℕ
one_more n = min (n + 1) 18446744073709551615
