-- Lines as the code keeps them: of each only so many bytes as show that it is over its limit. This
-- file serves code alone.
--     kept_more most line c       the line with one byte more, where there is room
--     cut_from, left_from         `whole_from` and `rest_from` of lines that are so kept
use Rattle.std.specs.Prelude.{ℕ, ◌==◌, List, [], ◌∷◌, ◌++◌, length, nat_le, if◌then◌else◌}

-- the line with one byte more, where it had at most so many
abbrev pub kept_more : ℕ → List ℕ → ℕ → List ℕ
kept_more most line c = if nat_le (length line) most then line ++ c ∷ [] else line

-- what is kept of each line that ends, where this was kept of the first
abbrev pub cut_from : ℕ → List ℕ → List ℕ → List (List ℕ)
cut_from most line [] = []
cut_from most line (c ∷ cs) = if c == 10 then line ∷ cut_from most [] cs else cut_from most (kept_more most line c) cs

-- what is kept of what stands behind the last LF
abbrev pub left_from : ℕ → List ℕ → List ℕ → List ℕ
left_from most line [] = line
left_from most line (c ∷ cs) = if c == 10 then left_from most [] cs else left_from most (kept_more most line c) cs
