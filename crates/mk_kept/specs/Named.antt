-- What is held under a name or a number.
--     IsQueryNamed rows name query     the query is that of the name
--     search_of c rows                 the saved search of the number
use Rattle.std.specs.Prelude.{◌≡◌, ℕ, nat_eq, List, [], ◌∷◌, bytes_eq, if◌then◌else◌, Option, Some, None}
use Rattle.mk_model.specs.Queries.{QueryView}
use Rattle.mk_outside.specs.declared.tables.CursorRow.{CursorRow}
use Rattle.mk_outside.specs.declared.tables.QueryRow.{QueryRow}
use Rattle.mk_kept.specs.Saved.{IsMeant}

-- the text of the query of the name, if one has it
abbrev pub text_named : List ℕ → List QueryRow → Option (List ℕ)
text_named name [] = None
text_named name (row ∷ rows) = if bytes_eq row.name name then Some row.text else text_named name rows

-- a query has the name, and its text means this query
pub record IsQueryNamed (rows : List QueryRow) (name : List ℕ) (query : QueryView) : Type 0 where
  pub text : List ℕ
  pub held : text_named name rows ≡ Some text
  pub means : IsMeant text query

-- the saved search of the number, if one has it
abbrev pub search_of : ℕ → List CursorRow → Option CursorRow
search_of c [] = None
search_of c (row ∷ rows) = if nat_eq row.number c then Some row else search_of c rows
