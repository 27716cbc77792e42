-- `search` and `resume` without a budget come to one effect.
--     one_named                 a name has one query
--     one_search, one_resume
use Rattle.std.proofs.Common.{◌≡◌, ◌≢◌, ℕ, true, false, List, [], ◌∷◌, length, nat_lt, Some, None, refl, sym, ap, subst, ◌∙◌}
use Rattle.mk_text.specs.Rising.{place_behind}
use Rattle.mk_text.proofs.ForCallers.{one_list_is_first}
use Rattle.mk_model.specs.Keys.{Remains}
use Rattle.mk_model.specs.Queries.{QueryView}
use Rattle.mk_outside.specs.declared.tables.Change.{Change}
use Rattle.mk_outside.specs.declared.tables.Change.TheVariants.{PutCursor, DropCursor}
use Rattle.mk_outside.specs.declared.tables.CursorRow.{CursorRow}
use Rattle.mk_outside.specs.declared.tables.QueryRow.{QueryRow}
use Rattle.mk_outside.specs.declared.tables.Tables.{Tables}
use Rattle.mk_effects.specs.declared.hit_lines.Stop.{Stop}
use Rattle.mk_effects.specs.declared.hit_lines.Stop.TheVariants as stop
use Rattle.mk_found.specs.Effects.{Answers, Effect, Refuses}
use Rattle.mk_effects.specs.Hits.{IsHitsText, stop_of}
use Rattle.mk_found.specs.Lines.{no_query_text}
use Rattle.mk_kept.specs.QueryText.{IsQueryOfText}
use Rattle.mk_kept.specs.Saved.{is_named, HasSearchRoom}
use Rattle.mk_library.specs.Records.{IsMoleculeAt}
use Rattle.mk_effects.specs.Searching.{IsListing, IsResume, IsSearch, ListsAll, ListsRest, MovesPlace, NoQuerySearched, NoSearchResumed, SavesPlace, SearchesAreFull, full_searches_text, no_search_text}
use Rattle.mk_kept.specs.Named.{IsQueryNamed, search_of}
use Rattle.mk_effects.proofs.HitLinesLemmas.{one_hits_text}
use Rattle.mk_kept.proofs.ForCallers.{HasQueryLaws, one_query_of_text, named_of}

-- ---- what is listed

-- a name has one query
pub one_named : HasQueryLaws → (rows : List QueryRow) (name : List ℕ) (a b : QueryView) → IsQueryNamed rows name a → IsQueryNamed rows name b → a ≡ b
one_named laws rows name a b p q =
    let held = sym p.held ∙ q.held in
    let same : q.text ≡ p.text = cc in
    one_query_of_text laws p.text a b p.means.is (subst (λ (text : List ℕ). IsQueryOfText text b) same q.means.is)

-- the first keys of the query of a name are listed, and the effect goes by where they stop
record HasListed (t : Tables) (name place : List ℕ) (limit c : ℕ) (batch : Stop → List ℕ → List Change) (effect : Effect) : Type 0 where
  query : QueryView
  named : IsQueryNamed t.queries name query
  keys : List (List ℕ)
  stops : Stop
  next : List ℕ
  text : List ℕ
  listing : IsListing t.records query place limit None c keys stops next text
  ends : effect ≡ Answers (batch stops next) text

-- they are one list with one text, so there is one effect
one_listed : HasQueryLaws → (t : Tables) (name place : List ℕ) (limit c : ℕ) (batch : Stop → List ℕ → List Change) (a b : Effect)
    → HasListed t name place limit c batch a → HasListed t name place limit c batch b → a ≡ b
one_listed laws t name place limit c batch a b p q =
    let query : q.query ≡ p.query = one_named laws t.queries name q.query p.query q.named p.named in
    let other : IsListing t.records p.query place limit None c q.keys q.stops q.next q.text =
    subst (λ (x : QueryView). IsListing t.records x place limit None c q.keys q.stops q.next q.text) query q.listing in
    let keys : q.keys ≡ p.keys = one_list_is_first limit (Remains (IsMoleculeAt t.records) p.query place) q.keys p.keys other.listed.first p.listing.listed.first in
    let stops : q.stops ≡ p.stops = other.listed.stop ∙ ap (λ (ks : List (List ℕ)). stop_of (nat_lt (length ks) limit) c) keys ∙ sym p.listing.listed.stop in
    let next : q.next ≡ p.next = other.listed.behind ∙ ap (place_behind place) keys ∙ sym p.listing.listed.behind in
    let lines : IsHitsText p.query p.keys p.stops q.text =
    subst (λ (s : Stop). IsHitsText p.query p.keys s q.text) stops (subst (λ (ks : List (List ℕ)). IsHitsText p.query ks q.stops q.text) keys other.lines) in
    let text : p.text ≡ q.text = one_hits_text p.query p.keys p.stops p.text q.text p.listing.lines lines in
    p.ends ∙ ap (λ (s : Stop). Answers (batch s p.next) p.text) (sym stops) ∙ ap (λ (n : List ℕ). Answers (batch q.stops n) p.text) (sym next)
    ∙ ap (Answers (batch q.stops q.next)) text ∙ sym q.ends

-- ---- search

-- nothing is saved where the list ends
abbrev search_batch : ℕ → List ℕ → Stop → List ℕ → List Change
search_batch c name stop.Ended next = []
search_batch c name (stop.More d) next = PutCursor c name next ∷ []
search_batch c name (stop.Paused d) next = PutCursor c name next ∷ []

search_saves : (c : ℕ) (name : List ℕ) (stops : Stop) (next : List ℕ) → stops ≢ stop.Ended → PutCursor c name next ∷ [] ≡ search_batch c name stops next
search_saves c name stop.Ended next on = absurd (on refl)
search_saves c name (stop.More d) next on = refl
search_saves c name (stop.Paused d) next on = refl

module _ (t : Tables) (name : List ℕ) (limit : ℕ) where
  data IsEndOfSearch (effect : Effect) : Type 0 where
    OfNoQuery : is_named name t.queries ≡ false → effect ≡ Refuses (no_query_text name) → IsEndOfSearch effect
    OfFull : is_named name t.queries ≡ true → (HasSearchRoom t.cursors t.next_cursor → ⊥) → effect ≡ Refuses full_searches_text → IsEndOfSearch effect
    OfListing : HasSearchRoom t.cursors t.next_cursor → HasListed t name [] limit t.next_cursor (search_batch t.next_cursor name) effect → IsEndOfSearch effect

  end_of_search : (effect : Effect) → IsSearch t name limit None effect → IsEndOfSearch effect
  end_of_search effect (NoQuerySearched none is) = OfNoQuery none is
  end_of_search effect (SearchesAreFull query named full is) = OfFull (named_of name t.queries query named) full is
  end_of_search effect (ListsAll query named room keys next text listing is) =
      OfListing room (record { query = query; named = named; keys = keys; stops = stop.Ended; next = next; text = text; listing = listing; ends = is })
  end_of_search effect (SavesPlace query named room keys stops next text listing on is) =
      OfListing room (record {
        query = query;
        named = named;
        keys = keys;
        stops = stops;
        next = next;
        text = text;
        listing = listing;
        ends = is ∙ ap (λ (changes : List Change). Answers changes text) (search_saves t.next_cursor name stops next on);
      })

  one_end_of_search : HasQueryLaws → (a b : Effect) → IsEndOfSearch a → IsEndOfSearch b → a ≡ b
  one_end_of_search laws a b (OfNoQuery p e) (OfNoQuery q f) = e ∙ sym f
  one_end_of_search laws a b (OfNoQuery p e) (OfFull named full f) = let h = sym p ∙ named in absurd cc
  one_end_of_search laws a b (OfNoQuery p e) (OfListing room l) = let h = sym p ∙ named_of name t.queries l.query l.named in absurd cc
  one_end_of_search laws a b (OfFull named full e) (OfNoQuery q f) = let h = sym q ∙ named in absurd cc
  one_end_of_search laws a b (OfFull named full e) (OfFull named' full' f) = e ∙ sym f
  one_end_of_search laws a b (OfFull named full e) (OfListing room l) = absurd (full room)
  one_end_of_search laws a b (OfListing room l) (OfNoQuery q f) = let h = sym q ∙ named_of name t.queries l.query l.named in absurd cc
  one_end_of_search laws a b (OfListing room l) (OfFull named full f) = absurd (full room)
  one_end_of_search laws a b (OfListing room l) (OfListing room' l') = one_listed laws t name [] limit t.next_cursor (search_batch t.next_cursor name) a b l l'

  pub one_search : HasQueryLaws → (a b : Effect) → IsSearch t name limit None a → IsSearch t name limit None b → a ≡ b
  one_search laws a b p q = one_end_of_search laws a b (end_of_search a p) (end_of_search b q)

-- ---- resume

-- the search is dropped where the list ends
abbrev resume_batch : ℕ → List ℕ → Stop → List ℕ → List Change
resume_batch c name stop.Ended next = DropCursor c ∷ []
resume_batch c name (stop.More d) next = PutCursor c name next ∷ []
resume_batch c name (stop.Paused d) next = PutCursor c name next ∷ []

resume_saves : (c : ℕ) (name : List ℕ) (stops : Stop) (next : List ℕ) → stops ≢ stop.Ended → PutCursor c name next ∷ [] ≡ resume_batch c name stops next
resume_saves c name stop.Ended next on = absurd (on refl)
resume_saves c name (stop.More d) next on = refl
resume_saves c name (stop.Paused d) next on = refl

module _ (t : Tables) (c limit : ℕ) where
  data IsEndOfResume (effect : Effect) : Type 0 where
    OfNoSearch : search_of c t.cursors ≡ None → effect ≡ Refuses (no_search_text c) → IsEndOfResume effect
    OfRest : (row : CursorRow) → search_of c t.cursors ≡ Some row → HasListed t row.name row.place limit c (resume_batch c row.name) effect → IsEndOfResume effect

  end_of_resume : (effect : Effect) → IsResume t c limit None effect → IsEndOfResume effect
  end_of_resume effect (NoSearchResumed none is) = OfNoSearch none is
  end_of_resume effect (ListsRest row held query named keys next text listing is) =
      OfRest row held (record { query = query; named = named; keys = keys; stops = stop.Ended; next = next; text = text; listing = listing; ends = is })
  end_of_resume effect (MovesPlace row held query named keys stops next text listing on is) =
      OfRest row held (record {
        query = query;
        named = named;
        keys = keys;
        stops = stops;
        next = next;
        text = text;
        listing = listing;
        ends = is ∙ ap (λ (changes : List Change). Answers changes text) (resume_saves c row.name stops next on);
      })

  one_end_of_resume : HasQueryLaws → (a b : Effect) → IsEndOfResume a → IsEndOfResume b → a ≡ b
  one_end_of_resume laws a b (OfNoSearch p e) (OfNoSearch q f) = e ∙ sym f
  one_end_of_resume laws a b (OfNoSearch p e) (OfRest row held l) = let h = sym p ∙ held in absurd cc
  one_end_of_resume laws a b (OfRest row held l) (OfNoSearch q f) = let h = sym q ∙ held in absurd cc
  one_end_of_resume laws a b (OfRest row held l) (OfRest row' held' l') =
      let h = sym held' ∙ held in
      let same : row' ≡ row = cc in
      one_listed laws t row.name row.place limit c (resume_batch c row.name) a b l
      (subst (λ (r : CursorRow). HasListed t r.name r.place limit c (resume_batch c r.name) b) same l')

  pub one_resume : HasQueryLaws → (a b : Effect) → IsResume t c limit None a → IsResume t c limit None b → a ≡ b
  one_resume laws a b p q = one_end_of_resume laws a b (end_of_resume a p) (end_of_resume b q)
