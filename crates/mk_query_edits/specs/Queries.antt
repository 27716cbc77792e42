-- The commands `query NAME FILE` and `forget NAME`.
--     IsFree queries name                      the name is new, and one more query may be held
--     IsKeep files queries name file effect    what `query` comes to
--     IsTurnOfKeep queries name file n         the turn of the file comes
--     IsForget queries cursors name effect     what `forget` comes to
use Rattle.std.specs.Prelude.{◌≡◌, ℕ, ◌+◌, ◌<◌, ◌≤◌, true, false, List, [], ◌∷◌, ◌++◌, length, map, filter, bytes_eq, Option, codes}
use Rattle.mk_model.specs.Queries.{QueryView}
use Rattle.mk_text.specs.KeptLines.{kept_lines}
use Rattle.mk_text.specs.Lines.{lines_of}
use Rattle.mk_outside.specs.declared.tables.Change.{Change}
use Rattle.mk_outside.specs.declared.tables.Change.TheVariants.{PutQuery, DropQuery, DropCursor}
use Rattle.mk_outside.specs.declared.tables.CursorRow.{CursorRow}
use Rattle.mk_outside.specs.declared.tables.QueryRow.{QueryRow}
use Rattle.mk_found.specs.Effects.{Answers, Effect, Refuses}
use Rattle.mk_found.specs.Files.{Look}
use Rattle.mk_found.specs.Lines.{named_line, no_query_text}
use Rattle.mk_found.specs.QueryFiles.{IsQueryHeld, IsQueryRefused}
use Rattle.mk_kept.specs.Saved.{HasRoomFor, greatest_number, is_named, most_queries}

-- ---- query NAME FILE

abbrev pub name_held_text : List ℕ → List ℕ
name_held_text name = named_line (codes "refused 7 name ") name

abbrev pub full_queries_text : List ℕ
full_queries_text = codes "refused 10 queries\n"

-- what is kept of the text of a file: its lines without the CR bytes at their ends, each with LF
-- behind it
abbrev pub kept_text : List ℕ → List ℕ
kept_text text = kept_lines (lines_of text)

-- no query has the name, and there are fewer than 1,000
pub record IsFree (queries : List QueryRow) (name : List ℕ) : Type 0 where
  pub new : is_named name queries ≡ false
  pub few : length queries < most_queries

-- The query of the file is kept under the name and the number above all. The file plays no part
-- where the name is held or there are 1,000 queries.
pub data IsKeep (files : Option Look) (queries : List QueryRow) (name file : List ℕ) (effect : Effect) : Type 0 where
  NameIsHeld : is_named name queries ≡ true → effect ≡ Refuses (name_held_text name) → IsKeep files queries name file effect
  QueriesAreFull : is_named name queries ≡ false → most_queries ≤ length queries → effect ≡ Refuses full_queries_text → IsKeep files queries name file effect
  FileIsRefused : IsFree queries name → (line : List ℕ) → IsQueryRefused files file line → effect ≡ Refuses line → IsKeep files queries name file effect
  TextsAreFull : IsFree queries name → (query : QueryView) (held : IsQueryHeld files file query) → ¬ (HasRoomFor queries (kept_text held.bytes))
      → effect ≡ Refuses full_queries_text → IsKeep files queries name file effect
  Keeps : IsFree queries name → (query : QueryView) (held : IsQueryHeld files file query) → HasRoomFor queries (kept_text held.bytes)
      → effect ≡ Answers (PutQuery (greatest_number queries + 1) name (kept_text held.bytes) ∷ []) (named_line (codes "kept ") name) → IsKeep files queries name file effect

-- the turn of the file comes where the name is new and there are fewer than 1,000 queries
pub record IsTurnOfKeep (queries : List QueryRow) (name file n : List ℕ) : Type 0 where
  pub free : IsFree queries name
  pub is : n ≡ file

-- ---- forget NAME

-- the change that drops a saved search
abbrev pub drop_of : CursorRow → Change
drop_of row = DropCursor row.number

-- the saved searches of the query are dropped, as they stand, and then the query
abbrev pub forget_changes : List ℕ → List CursorRow → List Change
forget_changes name cursors = map drop_of (filter (λ row. bytes_eq row.name name) cursors) ++ DropQuery name ∷ []

-- what `forget` of this name comes to
pub data IsForget (queries : List QueryRow) (cursors : List CursorRow) (name : List ℕ) (effect : Effect) : Type 0 where
  NoQueryForgotten : is_named name queries ≡ false → effect ≡ Refuses (no_query_text name) → IsForget queries cursors name effect
  Forgets : is_named name queries ≡ true → effect ≡ Answers (forget_changes name cursors) (named_line (codes "forgot ") name) → IsForget queries cursors name effect
