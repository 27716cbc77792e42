-- The text of a structure, as a record of an SDfile.
--     numbers_text numbers             numbers, each behind a blank
--     structure_text code table        the text of the structure of a code, which has this table
use Rattle.std.specs.Prelude.{ℕ, List, ◌∷◌, ◌++◌, codes, decimal}
use Rattle.std.specs.List.{flat_map}
use Rattle.mk_tables.specs.declared.raw.RawTable.{RawTable}
use Rattle.mk_spelling.specs.TableSpelling.{table_spelling}

-- a number behind a blank, byte 32
abbrev pub behind_blank : ℕ → List ℕ
behind_blank n = 32 ∷ decimal n

-- numbers, each behind a blank
abbrev pub numbers_text : List ℕ → List ℕ
numbers_text numbers = flat_map behind_blank numbers

-- the line `choice` and the code's numbers, two empty lines, the table's text, and the line `$$$$`
abbrev pub structure_text : List ℕ → RawTable → List ℕ
structure_text code table =
    codes "choice" ++ (numbers_text code ++ (codes "\n\n\n" ++ (table_spelling table ++ codes "$$$$\n")))
