-- Indexes that are counted as long as they are 1, 2, 3 and so on. It serves the code and the proofs
-- alone.
--     numbers_from k n         so many numbers, from k on
--     is_counted n index       the index is one of 1 to n
--     is_next n index          the index is the number behind n
use Rattle.std.specs.Prelude.{ℕ, zero, suc, ◌+◌, ◌==◌, ◌&&◌, nat_le, Bool, false, List, [], ◌∷◌, ℤ, pos, negsuc}

-- k, k + 1 and so on: n numbers
abbrev pub numbers_from : ℕ → ℕ → List ℤ
numbers_from k zero = []
numbers_from k (suc n) = pos k ∷ numbers_from (k + 1) n

-- the index is one of 1 to n
abbrev pub is_counted : ℕ → ℤ → Bool
is_counted n (pos i) = nat_le 1 i && nat_le i n
is_counted n (negsuc i) = false

-- the index is the number behind n
abbrev pub is_next : ℕ → ℤ → Bool
is_next n (pos i) = i == n + 1
is_next n (negsuc i) = false
