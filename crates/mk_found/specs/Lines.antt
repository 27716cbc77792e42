-- Lines that the answers of several commands have.
--     numbered_line word n    a word, a number, and the end of the line
--     named_line word name    a word, a name, and the end of the line
--     no_query_text name      the refusal of a name under which no query is held
use Rattle.std.specs.Prelude.{ℕ, List, ◌++◌, codes, decimal}

-- a word, a number, and the end of the line
abbrev pub numbered_line : List ℕ → ℕ → List ℕ
numbered_line word n = word ++ (decimal n ++ codes "\n")

-- a word, a name, and the end of the line
abbrev pub named_line : List ℕ → List ℕ → List ℕ
named_line word name = word ++ (name ++ codes "\n")

-- the line for a query that isn't held
abbrev pub no_query_text : List ℕ → List ℕ
no_query_text name = named_line (codes "refused 8 query ") name
