-- The commands `search NAME LIMIT` and `resume C LIMIT`, with a BUDGET behind these words or without.
--     AreListed records query place limit budget c keys stops next     the keys that are listed from a
--                                          place on, where they stop, and the next place
--     IsListing .. stops next text         such keys, and their lines
--     IsSearch t name limit budget effect  what `search` comes to
--     IsResume t c limit budget effect     what `resume` comes to
use Rattle.std.specs.Prelude.{◌≡◌, ◌≢◌, ℕ, ◌-◌, ◌≤◌, false, List, [], ◌∷◌, length, nat_lt, Option, Some, None, codes, ◌<◌}
use Rattle.mk_text.specs.Rising.{AreFirst, IsLeastFrom, place_behind}
use Rattle.mk_model.specs.Keys.{IsKey, Remains}
use Rattle.mk_model.specs.Nodes.{Ahead}
use Rattle.mk_model.specs.Queries.{QueryView}
use Rattle.mk_outside.specs.declared.tables.Change.TheVariants.{PutCursor, DropCursor}
use Rattle.mk_outside.specs.declared.tables.CursorRow.{CursorRow}
use Rattle.mk_outside.specs.declared.tables.RecordRow.{RecordRow}
use Rattle.mk_outside.specs.declared.tables.Tables.{Tables}
use Rattle.mk_library.specs.Records.{IsMoleculeAt}
use Rattle.mk_search.specs.Paced.{AreUpTo}
use Rattle.mk_effects.specs.declared.hit_lines.Stop.{Stop}
use Rattle.mk_effects.specs.declared.hit_lines.Stop.TheVariants as stop
use Rattle.mk_found.specs.Effects.{Answers, Effect, Refuses}
use Rattle.mk_effects.specs.Hits.{IsHitsText, stop_of}
use Rattle.mk_found.specs.Lines.{no_query_text}
use Rattle.mk_found.specs.Lines.{numbered_line}
use Rattle.mk_kept.specs.Saved.{is_named, longest_place, HasSearchRoom}
use Rattle.mk_kept.specs.Named.{IsQueryNamed, search_of}

-- ---- what is listed

-- Without a budget: the keys are the first so many of those that remain from the place on, over the
-- molecules of the records. There may be more, under the number c, where they are as many, and the
-- next place is that behind them.
pub record AreFirstKeys (records : List RecordRow) (query : QueryView) (place : List ℕ) (limit c : ℕ) (keys : List (List ℕ)) (stops : Stop) (next : List ℕ) : Type 0 where
  pub first : AreFirst limit (Remains (IsMoleculeAt records) query place) keys
  pub stop : stops ≡ stop_of (nat_lt (length keys) limit) c
  pub behind : next ≡ place_behind place keys

-- With a budget: the list ends where it has fewer keys than asked for and none remains; there may be
-- more where it has as many; and it may pause, with fewer, where so many nodes as the budget but 514
-- lie above the place and not above the next one.
abbrev pub StopsWithin : List RecordRow → QueryView → List ℕ → ℕ → ℕ → ℕ → List (List ℕ) → List ℕ → Stop → Type 0
StopsWithin records query place limit b c keys next stop.Ended = (length keys < limit) × IsLeastFrom next (IsKey (IsMoleculeAt records) query) None
StopsWithin records query place limit b c keys next (stop.More d) = (d ≡ c) × (length keys ≡ limit) × (next ≡ place_behind place keys)
StopsWithin records query place limit b c keys next (stop.Paused d) = (d ≡ c) × (length keys < limit) × Ahead (IsMoleculeAt records) query place next (b - 514)

-- With a budget: the keys are the first of those that remain from the place on, over the molecules of
-- the records, and exactly the others remain from the next place on. They are no more than asked for,
-- and no more than the budget.
pub record ArePacedKeys (records : List RecordRow) (query : QueryView) (place : List ℕ) (limit b c : ℕ) (keys : List (List ℕ)) (stops : Stop) (next : List ℕ) : Type 0 where
  pub up_to : AreUpTo (IsMoleculeAt records) query place keys next
  pub few : length keys ≤ limit
  pub within : length keys ≤ b
  pub stop : StopsWithin records query place limit b c keys next stops
  pub short : length next ≤ longest_place

-- the keys that are listed, with a budget or without
abbrev pub AreListed : List RecordRow → QueryView → List ℕ → ℕ → Option ℕ → ℕ → List (List ℕ) → Stop → List ℕ → Type 0
AreListed records query place limit None c keys stops next = AreFirstKeys records query place limit c keys stops next
AreListed records query place limit (Some b) c keys stops next = ArePacedKeys records query place limit b c keys stops next

-- The keys are listed from the place on. Their lines are the text, and its last line says where they
-- stop.
pub record IsListing (records : List RecordRow) (query : QueryView) (place : List ℕ) (limit : ℕ) (budget : Option ℕ) (c : ℕ) (keys : List (List ℕ)) (stops : Stop) (next text : List ℕ) : Type 0 where
  pub listed : AreListed records query place limit budget c keys stops next
  pub lines : IsHitsText query keys stops text

-- there are keys that are listed so
pub record HasListing (records : List RecordRow) (query : QueryView) (place : List ℕ) (limit : ℕ) (budget : Option ℕ) (c : ℕ) (stops : Stop) (next text : List ℕ) : Type 0 where
  pub keys : List (List ℕ)
  pub listing : IsListing records query place limit budget c keys stops next text

-- ---- search NAME LIMIT, search NAME LIMIT BUDGET

abbrev pub full_searches_text : List ℕ
full_searches_text = codes "refused 10 cursors\n"

-- The first keys of the query are listed. Where they are as many as asked for, the place behind
-- them is saved under the next number. There has to be room for that even where nothing is saved.
-- A list that pauses saves the place where it stands.
pub data IsSearch (t : Tables) (name : List ℕ) (limit : ℕ) (budget : Option ℕ) (effect : Effect) : Type 0 where
  NoQuerySearched : is_named name t.queries ≡ false → effect ≡ Refuses (no_query_text name) → IsSearch t name limit budget effect
  SearchesAreFull : (query : QueryView) → IsQueryNamed t.queries name query → ¬ (HasSearchRoom t.cursors t.next_cursor) → effect ≡ Refuses full_searches_text
      → IsSearch t name limit budget effect
  ListsAll : (query : QueryView) → IsQueryNamed t.queries name query → HasSearchRoom t.cursors t.next_cursor
      → (keys : List (List ℕ)) (next text : List ℕ) → IsListing t.records query [] limit budget t.next_cursor keys stop.Ended next text
      → effect ≡ Answers [] text → IsSearch t name limit budget effect
  SavesPlace : (query : QueryView) → IsQueryNamed t.queries name query → HasSearchRoom t.cursors t.next_cursor
      → (keys : List (List ℕ)) (stops : Stop) (next text : List ℕ) → IsListing t.records query [] limit budget t.next_cursor keys stops next text → stops ≢ stop.Ended
      → effect ≡ Answers (PutCursor t.next_cursor name next ∷ []) text → IsSearch t name limit budget effect

-- ---- resume C LIMIT, resume C LIMIT BUDGET

abbrev pub no_search_text : ℕ → List ℕ
no_search_text c = numbered_line (codes "refused 9 cursor ") c

-- The first keys from the saved place on are listed, over the molecules that are held now. Where
-- they are as many as asked for, the place behind them is saved in place of the former one, else
-- the saved search is dropped. A list that pauses saves the place where it stands.
pub data IsResume (t : Tables) (c limit : ℕ) (budget : Option ℕ) (effect : Effect) : Type 0 where
  NoSearchResumed : search_of c t.cursors ≡ None → effect ≡ Refuses (no_search_text c) → IsResume t c limit budget effect
  ListsRest : (row : CursorRow) → search_of c t.cursors ≡ Some row → (query : QueryView) → IsQueryNamed t.queries row.name query
      → (keys : List (List ℕ)) (next text : List ℕ) → IsListing t.records query row.place limit budget c keys stop.Ended next text
      → effect ≡ Answers (DropCursor c ∷ []) text → IsResume t c limit budget effect
  MovesPlace : (row : CursorRow) → search_of c t.cursors ≡ Some row → (query : QueryView) → IsQueryNamed t.queries row.name query
      → (keys : List (List ℕ)) (stops : Stop) (next text : List ℕ) → IsListing t.records query row.place limit budget c keys stops next text → stops ≢ stop.Ended
      → effect ≡ Answers (PutCursor c row.name next ∷ []) text → IsResume t c limit budget effect
