-- Numbers of columns and entries.
--     IsWithin low high z      z is one of the numbers from low to high
--     IsAtom atoms z           z is one of so many atoms, which count from 1
--     natural z                z, where a number below 0 counts as 0
--     byte z                   z, where a number that is no byte counts as 0
use Rattle.std.specs.Prelude.{ℕ, ℤ, pos, negsuc, ◌≤ℤ◌, nat_le, if◌then◌else◌}

-- z is one of the numbers from low to high
pub record IsWithin (low high z : ℤ) : Type 0 where
  pub least : low ≤ℤ z
  pub most : z ≤ℤ high

-- the number is one of so many atoms
abbrev pub IsAtom : ℕ → ℤ → Type 0
IsAtom atoms z = IsWithin (pos 1) (pos atoms) z

-- the number, or 0 where it is below 0
abbrev pub natural : ℤ → ℕ
natural (pos n) = n
natural (negsuc n) = 0

-- the number, where one that is no byte counts as 0
abbrev pub byte : ℤ → ℕ
byte (pos n) = if nat_le n 255 then n else 0
byte (negsuc n) = 0
