-- Changes of queries and saved searches: what they keep, and what they leave.
--     can_keep, of_saved      changes that are ready can be kept, and are of queries and saved searches
--     saved_alone             they rest on queries, saved searches and the next number of these, and change nothing else
use Rattle.std.proofs.Common.{[], ◌∷◌, ◌≡◌, List, All, arith, refl}
use Rattle.std.proofs.lemmas.List.Elements.{All-cons, All-head, All-tail}
use Rattle.mk_model.specs.Queries.{QueryView}
use Rattle.mk_outside.specs.declared.tables.Change.{Change}
use Rattle.mk_outside.specs.declared.tables.Change.TheVariants.{PutRecord, DropRecord, PutQuery, DropQuery, PutCursor, DropCursor}
use Rattle.mk_outside.specs.declared.tables.Tables.{Tables}
use Rattle.mk_outside.specs.Tables.{after_batch, after_change, CanKeep}
use Rattle.mk_kept.specs.Saved.{kept_tables}
use Rattle.mk_kept.specs.SavedPending.{AreReady, IsOfSaved}
use Rattle.mk_kept.proofs.NamesLemmas.{name_ascii}

none_left : (P : Change → Type 0) → All P []
none_left P = λ k d below. absurd (omega arith)

-- changes that are ready can be kept
pub can_keep : (changes : List Change) (queries : List QueryView) → AreReady changes queries → All CanKeep changes
can_keep [] queries h = none_left CanKeep
can_keep (PutQuery number name text ∷ changes) [] h = absurd h
can_keep (PutQuery number name text ∷ changes) (query ∷ queries) h = All-cons CanKeep (PutQuery number name text) changes (name_ascii name h.0) (can_keep changes queries h.3)
can_keep (DropQuery name ∷ changes) queries h = All-cons CanKeep (DropQuery name) changes (name_ascii name h.0) (can_keep changes queries h.1)
can_keep (PutCursor number name place ∷ changes) queries h = All-cons CanKeep (PutCursor number name place) changes (h.1, name_ascii name h.0) (can_keep changes queries h.3)
can_keep (DropCursor number ∷ changes) queries h = All-cons CanKeep (DropCursor number) changes tt (can_keep changes queries h)
can_keep (PutRecord number text ∷ changes) queries h = absurd h
can_keep (DropRecord number ∷ changes) queries h = absurd h

-- and are of queries and saved searches
pub of_saved : (changes : List Change) (queries : List QueryView) → AreReady changes queries → All IsOfSaved changes
of_saved [] queries h = none_left IsOfSaved
of_saved (PutQuery number name text ∷ changes) [] h = absurd h
of_saved (PutQuery number name text ∷ changes) (query ∷ queries) h = All-cons IsOfSaved (PutQuery number name text) changes tt (of_saved changes queries h.3)
of_saved (DropQuery name ∷ changes) queries h = All-cons IsOfSaved (DropQuery name) changes tt (of_saved changes queries h.1)
of_saved (PutCursor number name place ∷ changes) queries h = All-cons IsOfSaved (PutCursor number name place) changes tt (of_saved changes queries h.3)
of_saved (DropCursor number ∷ changes) queries h = All-cons IsOfSaved (DropCursor number) changes tt (of_saved changes queries h)
of_saved (PutRecord number text ∷ changes) queries h = absurd h
of_saved (DropRecord number ∷ changes) queries h = absurd h

-- the queries, the saved searches and the next number of these, as tables without records
abbrev saved_of : Tables → Tables
saved_of t = kept_tables t.queries t.cursors t.next_cursor

-- such changes rest on these alone, and leave the rest
pub saved_alone : (batch : List Change) (t : Tables) → All IsOfSaved batch
    → after_batch batch t ≡ record t {
      queries = (after_batch batch (saved_of t)).queries;
      cursors = (after_batch batch (saved_of t)).cursors;
      next_cursor = (after_batch batch (saved_of t)).next_cursor;
    }
saved_alone [] t h = refl
saved_alone (PutQuery number name text ∷ batch) t h = saved_alone batch (after_change (PutQuery number name text) t) (All-tail IsOfSaved (PutQuery number name text) batch h)
saved_alone (DropQuery name ∷ batch) t h = saved_alone batch (after_change (DropQuery name) t) (All-tail IsOfSaved (DropQuery name) batch h)
saved_alone (PutCursor number name place ∷ batch) t h = saved_alone batch (after_change (PutCursor number name place) t) (All-tail IsOfSaved (PutCursor number name place) batch h)
saved_alone (DropCursor number ∷ batch) t h = saved_alone batch (after_change (DropCursor number) t) (All-tail IsOfSaved (DropCursor number) batch h)
saved_alone (PutRecord number text ∷ batch) t h = absurd (All-head IsOfSaved (PutRecord number text) batch h)
saved_alone (DropRecord number ∷ batch) t h = absurd (All-head IsOfSaved (DropRecord number) batch h)
