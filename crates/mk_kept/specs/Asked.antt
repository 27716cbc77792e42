-- How much a command may ask for.
--     IsLimit n              so many hits, or molecules of a drill
--     IsBudget b             so many turns
--     IsStructureLimit n     so many structures
use Rattle.std.specs.Prelude.{ℕ, ◌≤◌}

-- so many hits can be asked for, or molecules drilled
abbrev pub IsLimit : ℕ → Type 0
IsLimit n = (1 ≤ n) × (n ≤ 10000)

-- so many turns can be allowed to a search
abbrev pub IsBudget : ℕ → Type 0
IsBudget b = (2048 ≤ b) × (b ≤ 999999999)

-- so many structures can be asked for
abbrev pub IsStructureLimit : ℕ → Type 0
IsStructureLimit n = (1 ≤ n) × (n ≤ 1000)
