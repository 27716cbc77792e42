-- How often `search` and `resume` begin the matcher: once for each of some pairs, as BeginsOfPage and
-- BeginsOfPaced of mk_search say, over the molecules of the records.
--     BeginsOfListed records query place limit budget c stops next text old new     the count goes up
--                                            as for the page of the keys that are listed
--     BeginsOfListing t name place limit budget c batch text old new     the same of the query of the
--                                            name, with the place that is saved
--     BeginsOfRest t c limit budget batch text old new       the same from the place of a saved
--                                            search on
--     BeginsOfSearch t name limit budget effect old new      how often `search` begins it
--     BeginsOfResume t c limit budget effect old new         how often `resume` does
--     BeginsBetween t name from to old new       the count goes up as for a page of the query of the
--                                            name that begins at one place and stops at another
use Rattle.std.specs.Prelude.{◌≡◌, ◌≢◌, ℕ, List, [], ◌∷◌, length, nat_lt, Option, Some, None}
use Rattle.mk_model.specs.Queries.{QueryView}
use Rattle.mk_outside.specs.declared.tables.Change.{Change}
use Rattle.mk_outside.specs.declared.tables.Change.TheVariants.{PutCursor}
use Rattle.mk_outside.specs.declared.tables.CursorRow.{CursorRow}
use Rattle.mk_outside.specs.declared.tables.RecordRow.{RecordRow}
use Rattle.mk_outside.specs.declared.tables.Tables.{Tables}
use Rattle.mk_search.specs.declared.paced.Paced.{Paced}
use Rattle.mk_search.specs.declared.pages.Page.{Page}
use Rattle.mk_search.specs.Begins.{BeginsOfPaced, BeginsOfPage}
use Rattle.mk_kept.specs.Named.{IsQueryNamed, search_of}
use Rattle.mk_effects.specs.declared.hit_lines.Stop.{Stop}
use Rattle.mk_effects.specs.declared.hit_lines.Stop.TheVariants as stop
use Rattle.mk_found.specs.Effects.{Answers, Effect, Refuses}
use Rattle.mk_effects.specs.Hits.{stop_of_paced}
use Rattle.mk_library.specs.Records.{IsMoleculeAt}
use Rattle.mk_effects.specs.Searching.{IsListing}

-- Without a budget: the text lists a page of the first keys from the place on. The page has ended
-- where they are fewer than asked for. The count goes up by one for each of a rising list of pairs of
-- a record and a code: none is below the place but those that the place begins with, none above the
-- last key of a page that hasn't ended, and each key begins with one.
pub record BeginsOfFirst (records : List RecordRow) (query : QueryView) (place : List ℕ) (limit c : ℕ) (stops : Stop) (next text : List ℕ) (old new : ℕ) : Type 0 where
  pub page : Page
  pub listing : IsListing records query place limit None c page.hits stops next text
  pub ended : page.ended ≡ nat_lt (length page.hits) limit
  pub begins : BeginsOfPage (IsMoleculeAt records) query place page old new

-- With a budget: the text lists a page that may pause, of keys from the place on. The count goes up
-- by one for each of such pairs, none above the last key of a full page, nor above the next place
-- where it paused.
pub record BeginsOfPause (records : List RecordRow) (query : QueryView) (place : List ℕ) (limit b c : ℕ) (stops : Stop) (next text : List ℕ) (old new : ℕ) : Type 0 where
  pub paced : Paced
  pub listing : IsListing records query place limit (Some b) c paced.hits stops next text
  pub stop : stops ≡ stop_of_paced paced.stop c
  pub at : next ≡ paced.place
  pub begins : BeginsOfPaced (IsMoleculeAt records) query place paced old new

-- how often is begun for what is listed, with a budget or without
abbrev pub BeginsOfListed : List RecordRow → QueryView → List ℕ → ℕ → Option ℕ → ℕ → Stop → List ℕ → List ℕ → ℕ → ℕ → Type 0
BeginsOfListed records query place limit None c stops next text old new = BeginsOfFirst records query place limit c stops next text old new
BeginsOfListed records query place limit (Some b) c stops next text old new = BeginsOfPause records query place limit b c stops next text old new

-- The text lists keys of the query of the name, from the place on, and the count goes up as for them.
-- The next place is the one that is saved, where the list goes on; where it ends none is.
pub record BeginsOfListing (t : Tables) (name place : List ℕ) (limit : ℕ) (budget : Option ℕ) (c : ℕ) (batch : List Change) (text : List ℕ) (old new : ℕ) : Type 0 where
  pub query : QueryView
  pub named : IsQueryNamed t.queries name query
  pub stops : Stop
  pub next : List ℕ
  pub begins : BeginsOfListed t.records query place limit budget c stops next text old new
  pub saved : stops ≢ stop.Ended → batch ≡ PutCursor c name next ∷ []
  pub unsaved : stops ≡ stop.Ended → (d : ℕ) (other at : List ℕ) → batch ≢ PutCursor d other at ∷ []

-- the search is saved, and its next keys are listed from its place on
pub record BeginsOfRest (t : Tables) (c limit : ℕ) (budget : Option ℕ) (batch : List Change) (text : List ℕ) (old new : ℕ) : Type 0 where
  pub row : CursorRow
  pub saved : search_of c t.cursors ≡ Some row
  pub listed : BeginsOfListing t row.name row.place limit budget c batch text old new

-- nothing is begun for a refusal, and an answer lists keys from the first on
abbrev pub BeginsOfSearch : Tables → List ℕ → ℕ → Option ℕ → Effect → ℕ → ℕ → Type 0
BeginsOfSearch t name limit budget (Refuses line) old new = new ≡ old
BeginsOfSearch t name limit budget (Answers batch text) old new = BeginsOfListing t name [] limit budget t.next_cursor batch text old new

-- nothing is begun for a refusal, and an answer lists keys from the saved place on
abbrev pub BeginsOfResume : Tables → ℕ → ℕ → Option ℕ → Effect → ℕ → ℕ → Type 0
BeginsOfResume t c limit budget (Refuses line) old new = new ≡ old
BeginsOfResume t c limit budget (Answers batch text) old new = BeginsOfRest t c limit budget batch text old new

-- the count goes up as for a page within a budget, of the query of the name, that begins at the one
-- place and stops at the other
pub record BeginsBetween (t : Tables) (name from to : List ℕ) (before after : ℕ) : Type 0 where
  pub query : QueryView
  pub named : IsQueryNamed t.queries name query
  pub paced : Paced
  pub at : paced.place ≡ to
  pub begins : BeginsOfPaced (IsMoleculeAt t.records) query from paced before after
