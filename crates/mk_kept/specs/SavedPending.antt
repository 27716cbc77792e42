-- Changes of kept queries and saved searches: made ready, and not made yet.
--     SavedPendingView             what is seen of a `SavedPending`
--     AreReady changes queries     the queries are those of the texts that are put, and names,
--                                  numbers and places can be kept
--     SavedFits saved pending      a `Saved` can make the change without memory
--     IsOfSaved change             it puts or drops a query or a saved search
use Rattle.std.specs.Prelude.{◌≡◌, ◌+◌, ◌<◌, ◌≤◌, true, false, List, [], ◌∷◌, length, ⊤}
use Rattle.std.specs.List.{AllByRecursion}
use Rattle.mk_model.specs.Queries.{QueryView}
use Rattle.mk_outside.specs.declared.tables.Change.{Change}
use Rattle.mk_outside.specs.declared.tables.Change.TheVariants.{PutRecord, DropRecord, PutQuery, DropQuery, PutCursor, DropCursor}
use Rattle.mk_outside.specs.declared.tables.QueryRow.{QueryRow}
use Rattle.mk_outside.specs.declared.tables.Tables.{Tables}
use Rattle.mk_outside.specs.Store.{cursor_puts, query_puts}
use Rattle.mk_library.specs.Pending.{InTurn}
use Rattle.mk_kept.specs.Names.{IsName}
use Rattle.mk_kept.specs.Saved.{IsMeant, SavedView, bytes_of_texts, is_named, is_waiting, longest_place, most_queries, most_search_number, most_text_bytes, saved_tables}

-- what is seen of a `SavedPending`: its changes, and the queries of the texts that they put
pub record SavedPendingView : Type 0 where
  pub changes : List Change
  pub queries : List QueryView

-- the changes are of queries and saved searches, names are names, numbers and places can be kept,
-- and the queries are those of the texts that are put, in order
abbrev pub AreReady : List Change → List QueryView → Type 0
AreReady [] [] = ⊤
AreReady [] (query ∷ queries) = ⊥
AreReady (PutQuery number name text ∷ changes) (query ∷ queries) = IsName name × (1 ≤ number) × IsMeant text query × AreReady changes queries
AreReady (PutQuery number name text ∷ changes) [] = ⊥
AreReady (DropQuery name ∷ changes) queries = IsName name × AreReady changes queries
AreReady (PutCursor number name place ∷ changes) queries = IsName name × (number ≤ most_search_number) × (length place ≤ longest_place) × AreReady changes queries
AreReady (DropCursor number ∷ changes) queries = AreReady changes queries
AreReady (PutRecord number text ∷ changes) queries = ⊥
AreReady (DropRecord number ∷ changes) queries = ⊥

-- A query that is put has a number above all, a new name, and stays within the limits. One that is
-- dropped has no saved search left. A saved search that is put has the name of a query.
abbrev pub IsInPlace : Change → Tables → Type 0
IsInPlace (PutQuery number name text) t =
    AllByRecursion (λ (row : QueryRow). row.number < number) t.queries × (is_named name t.queries ≡ false) × (length t.queries < most_queries)
    × (bytes_of_texts t.queries + length text ≤ most_text_bytes)
IsInPlace (DropQuery name) t = is_waiting name t.cursors ≡ false
IsInPlace (PutCursor number name place) t = is_named name t.queries ≡ true
IsInPlace (DropCursor number) t = ⊤
IsInPlace (PutRecord number text) t = ⊥
IsInPlace (DropRecord number) t = ⊥

-- each change is in its place when its turn comes, and there is room for what is put
pub record SavedFits (saved : SavedView) (pending : SavedPendingView) : Type 0 where
  pub places : InTurn IsInPlace pending.changes (saved_tables saved)
  pub queries : query_puts pending.changes ≤ saved.query_room
  pub cursors : cursor_puts pending.changes ≤ saved.cursor_room

-- it puts or drops a query or a saved search
abbrev pub IsOfSaved : Change → Type 0
IsOfSaved (PutQuery number name text) = ⊤
IsOfSaved (DropQuery name) = ⊤
IsOfSaved (PutCursor number name place) = ⊤
IsOfSaved (DropCursor number) = ⊤
IsOfSaved (PutRecord number text) = ⊥
IsOfSaved (DropRecord number) = ⊥
