-- The command `enum NAME LIMIT`, with a place FROM behind these words or without.
--     comma_numbers numbers                  the numbers, with a comma between each two
--     place_line ended place                 the last line, by where the structures stop
--     IsEnum queries name limit from effect  what `enum` comes to
use Rattle.std.specs.Prelude.{◌≡◌, ℕ, Bool, false, List, [], ◌∷◌, ◌++◌, codes, decimal, if◌then◌else◌}
use Rattle.std.specs.List.{flat_map}
use Rattle.mk_model.specs.Queries.{QueryView}
use Rattle.mk_enum.specs.declared.listed.Structures.{Structures}
use Rattle.mk_enum.specs.Enumerations.{IsEnumeration}
use Rattle.mk_outside.specs.declared.tables.QueryRow.{QueryRow}
use Rattle.mk_kept.specs.Named.{IsQueryNamed}
use Rattle.mk_kept.specs.Saved.{is_named}
use Rattle.mk_found.specs.Effects.{Answers, Effect, Refuses}
use Rattle.mk_found.specs.Lines.{no_query_text}

-- each number behind a comma, byte 44
abbrev pub behind_commas : List ℕ → List ℕ
behind_commas numbers = flat_map (λ n. 44 ∷ decimal n) numbers

-- the numbers, with a comma between each two
abbrev pub comma_numbers : List ℕ → List ℕ
comma_numbers [] = []
comma_numbers (first ∷ others) = decimal first ++ behind_commas others

-- the last line: `end`, or `more` and the place from which on there may be others
abbrev pub place_line : Bool → List ℕ → List ℕ
place_line ended place = if ended then codes "end\n" else (codes "more " ++ (comma_numbers place ++ codes "\n"))

-- The first structures of the query from the place on are written, and the line that says where they
-- stop; nothing changes. There has to be a query of the name.
pub data IsEnum (queries : List QueryRow) (name : List ℕ) (limit : ℕ) (from : List ℕ) (effect : Effect) : Type 0 where
  NoQueryEnumerated : is_named name queries ≡ false → effect ≡ Refuses (no_query_text name) → IsEnum queries name limit from effect
  WritesStructures : (query : QueryView) → IsQueryNamed queries name query → (found : Structures) → IsEnumeration query from limit found
      → effect ≡ Answers [] (found.text ++ place_line found.ended found.place) → IsEnum queries name limit from effect
