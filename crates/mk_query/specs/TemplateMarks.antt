-- What the code notes of the atoms of a table for its template. For the code alone.
--     bearers values p n        those of the first n atoms to which the values give point p
use Rattle.std.specs.Prelude.{◌-◌, ℕ, ℤ, pos, Bool, List, slice_index_or}
use Rattle.std.specs.List.{filter, range_with_len}
use Rattle.mk_query.specs.Drawn.{gives_point}

-- the values give atom x point p
abbrev pub bears_by : List ℤ → ℕ → ℕ → Bool
bears_by values p x = gives_point p (slice_index_or values (x - 1) (pos 0))

-- those of the first n atoms to which the values give point p
abbrev pub bearers : List ℤ → ℕ → ℕ → List ℕ
bearers values p n = filter (bears_by values p) (range_with_len 1 n)
