-- What `query` and `forget` come to.
--     kept_is_meant                  what is kept of a text means what the text means
--     keep_fits                      keeping a query fits
--     dropped_more                   one saved search more that is looked at
--     forget_ready, forget_fits      so does dropping one with its saved searches
use Rattle.std.proofs.Common.{◌≡◌, ℕ, ◌<◌, ◌≤◌, ◌+◌, Bool, true, false, cond, not, ◌||◌, List, [], ◌∷◌, ◌++◌, length, get_or, map, filter, take, bytes_eq, nat_eq, refl, sym, ap, subst, ◌∙◌, arith}
use Rattle.std.specs.Prelude.{Result, Ok, Err, IfOk}
use Rattle.std.specs.List.{AllByRecursion, list_any}
use Rattle.std.proofs.lemmas.Bool.{cond_both, true≢false}
use Rattle.std.proofs.lemmas.Grind.{common_steps}
use Rattle.std.proofs.lemmas.List.{map-append, take_more}
use Rattle.std.proofs.lemmas.List.Elements.{filter-append}
use Rattle.mk_rows.specs.declared.by_number.Numbered.{Numbered}
use Rattle.mk_model.specs.Queries.{QueryView}
use Rattle.mk_rgfile.specs.KeptQueries.{KeptLinesAreKept}
use Rattle.mk_query.specs.Laws.{KeptTextIsTheQuery}
use Rattle.mk_outside.specs.declared.tables.Change.{Change}
use Rattle.mk_outside.specs.declared.tables.Change.TheVariants.{PutQuery, DropCursor, DropQuery}
use Rattle.mk_outside.specs.declared.tables.CursorRow.{CursorRow}
use Rattle.mk_outside.specs.declared.tables.QueryRow.{QueryRow}
use Rattle.mk_outside.specs.Rows as outside
use Rattle.mk_outside.specs.Store.{cursor_puts, query_puts}
use Rattle.mk_outside.specs.Tables.{cursor_number}
use Rattle.mk_library.specs.Library.{LibraryView}
use Rattle.mk_library.specs.Pending.{InTurn}
use Rattle.mk_kept.specs.Names.{IsName}
use Rattle.mk_found.specs.declared.effect.Found.{Found}
use Rattle.mk_found.specs.declared.effect.Found.TheVariants as found
use Rattle.mk_found.specs.Effects.{Effect, Refuses}
use Rattle.mk_query_edits.specs.Queries.{drop_of, forget_changes, full_queries_text, kept_text}
use Rattle.mk_kept.specs.QueryText.{IsQueryOfText}
use Rattle.mk_found.specs.Findings.{FoundFits, effect_of}
use Rattle.mk_kept.specs.declared.saved.SavedSearch.{SavedSearch}
use Rattle.mk_kept.specs.Saved.{HasRoomFor, IsMeant, SavedView, cursor_row, cursors_of, is_named, is_waiting, kept_tables, most_queries}
use Rattle.mk_kept.specs.SavedPending.{AreReady, IsInPlace, SavedFits, SavedPendingView}

-- ---- query

-- what is said of the refusal of a further query
pub full_if : {E : Type 0} {P : Effect → Type 0} (r : Result Found E) → IfOk r (λ f. f ≡ found.Refused full_queries_text) → ((effect : Effect) → effect ≡ Refuses full_queries_text → P effect)
    → IfOk r (λ f. P (effect_of f))
full_if (Ok f) is p = p (effect_of f) (ap effect_of is)
full_if (Err e) is p = tt

-- a refusal fits over every library
pub refusal_fits : {E : Type 0} (r : Result Found E) (line : List ℕ) → IfOk r (λ f. f ≡ found.Refused line) → (library : LibraryView) (saved : SavedView) → IfOk r (FoundFits library saved)
refusal_fits (Ok f) line is library saved = subst (FoundFits library saved) (sym is) tt
refusal_fits (Err e) line is library saved = tt

-- what is kept of a text means what the text means
pub kept_is_meant : KeptLinesAreKept → KeptTextIsTheQuery → (text : List ℕ) (query : QueryView) → IsQueryOfText text query → IsMeant (kept_text text) query
kept_is_meant are same text query is = record {
  kept = are text;
  is = record { raw = is.raw; file = same text is.raw is.file is.passes.in_tables; passes = is.passes; means = is.means };
}

pub keep_fits : (saved : SavedView) (pending : SavedPendingView) (number : ℕ) (name text : List ℕ) → pending.changes ≡ PutQuery number name text ∷ []
    → AllByRecursion (λ (row : QueryRow). row.number < number) saved.queries → is_named name saved.queries ≡ false
    → length saved.queries < most_queries → HasRoomFor saved.queries text → 1 ≤ saved.query_room
    → SavedFits saved pending
keep_fits saved pending number name text is above new few room spare = record {
  places = rw is (((above, new, few, room.bytes), tt));
  queries = rw is spare;
  cursors = rw is (omega arith);
}

-- ---- forget

-- the changes that drop those of these saved searches that are of the name
abbrev pub dropped : List ℕ → List (Numbered SavedSearch) → List Change
dropped name rows = map drop_of (filter (λ row. bytes_eq row.name name) (cursors_of rows))

dropped_one : (name : List ℕ) (row : Numbered SavedSearch) (b : Bool) → bytes_eq row.item.name name ≡ b → dropped name (row ∷ []) ≡ cond b (DropCursor row.number ∷ []) []
dropped_one name row true is = rw is refl
dropped_one name row false is = rw is refl

-- one saved search more that is looked at
pub dropped_more : (name : List ℕ) (rows : List (Numbered SavedSearch)) (i : ℕ) (row : Numbered SavedSearch) (b : Bool) (old : List Change) → i < length rows → row ≡ get_or rows i row
    → bytes_eq row.item.name name ≡ b → old ≡ dropped name (take i rows) → old ++ cond b (DropCursor row.number ∷ []) [] ≡ dropped name (take (i + 1) rows)
dropped_more name rows i row b old below is of_name before =
    let p = λ (r : CursorRow). bytes_eq r.name name in
    let next : take (i + 1) rows ≡ take i rows ++ row ∷ [] = take_more rows i row below ∙ ap (λ (r : Numbered SavedSearch). take i rows ++ r ∷ []) (sym is) in
    let split : dropped name (take i rows ++ row ∷ []) ≡ dropped name (take i rows) ++ dropped name (row ∷ []) =
    ap (λ (l : List CursorRow). map drop_of (filter p l)) (map-append cursor_row (take i rows) (row ∷ []))
    ∙ ap (map drop_of) (filter-append p (cursors_of (take i rows)) (cursors_of (row ∷ [])))
    ∙ map-append drop_of (filter p (cursors_of (take i rows))) (filter p (cursors_of (row ∷ []))) in
    ap (λ front. front ++ cond b (DropCursor row.number ∷ []) []) before ∙ ap (λ last. dropped name (take i rows) ++ last) (sym (dropped_one name row b of_name))
    ∙ sym split ∙ ap (dropped name) (sym next)

forget_ready : (name : List ℕ) (rows : List CursorRow) → IsName name → AreReady (map drop_of rows ++ DropQuery name ∷ []) []
forget_ready name [] is = (is, tt)
forget_ready name (row ∷ rows) is = forget_ready name rows is

-- each saved search of the name has the number of one of these
abbrev AreAmong : List ℕ → List CursorRow → List CursorRow → Type 0
AreAmong name drops rows = AllByRecursion (λ (row : CursorRow). bytes_eq row.name name ≡ true → list_any (λ (drop : CursorRow). nat_eq drop.number row.number) drops ≡ true) rows

or_later : (a b : Bool) → b ≡ true → (a || b) ≡ true
or_later true b is = refl
or_later false b is = is

among_more : (name : List ℕ) (drop : CursorRow) (drops rows : List CursorRow) → AreAmong name drops rows → AreAmong name (drop ∷ drops) rows
among_more name drop drops [] all = tt
among_more name drop drops (row ∷ rows) all =
    ((λ is. or_later (nat_eq drop.number row.number) (list_any (λ (d : CursorRow). nat_eq d.number row.number) drops) (all.0 is)), among_more name drop drops rows all.1)

-- the saved searches of the name are among themselves
pub among_all : (name : List ℕ) (rows : List CursorRow) → AreAmong name (filter (λ row. bytes_eq row.name name) rows) rows
among_all name [] = tt
among_all name (row ∷ rows) =
    cond_both (bytes_eq row.name name) (row ∷ filter (λ r. bytes_eq r.name name) rows) (filter (λ r. bytes_eq r.name name) rows) (λ drops. AreAmong name drops (row ∷ rows))
    (λ is. ((λ _. grind (arith, common_steps)), among_more name row (filter (λ r. bytes_eq r.name name) rows) rows (among_all name rows)))
    (λ other. ((λ is. absurd (true≢false (sym is ∙ other))), among_all name rows))

not_first : (a b : Bool) → (a || b) ≡ true → a ≡ false → b ≡ true
not_first true b is none = cc
not_first false b is none = is

not_false : (a : Bool) → not a ≡ true → a ≡ false
not_false true is = cc
not_false false is = refl

-- once one is dropped, those that are left are among the others
among_fewer : (name : List ℕ) (drop : CursorRow) (drops rows : List CursorRow) → AreAmong name (drop ∷ drops) rows → AreAmong name drops (outside.without cursor_number drop.number rows)
unfolding outside.without
among_fewer name drop drops [] all = tt
among_fewer name drop drops (row ∷ rows) all =
    cond_both (not (nat_eq row.number drop.number)) (row ∷ filter (λ x. not (nat_eq (cursor_number x) drop.number))
    rows) (filter (λ x. not (nat_eq (cursor_number x) drop.number)) rows) (AreAmong name drops)
    (λ other. (
      (λ is. not_first (nat_eq drop.number row.number)
          (list_any (λ (d : CursorRow). nat_eq d.number row.number) drops) (all.0 is)
          (turned row.number drop.number (not_false (nat_eq row.number drop.number) other))),
      among_fewer name drop drops rows all.1,
    ))
    (λ _. among_fewer name drop drops rows all.1)
  where
    turned : (a b : ℕ) → nat_eq a b ≡ false → nat_eq b a ≡ false
    turned a b is = grind (arith, common_steps)

-- none is left where none may be
none_among : (name : List ℕ) (rows : List CursorRow) → AreAmong name [] rows → is_waiting name rows ≡ false
none_among name [] all = refl
none_among name (row ∷ rows) all = neither (bytes_eq row.name name) (is_waiting name rows) (λ is. true≢false (sym (all.0 is))) (none_among name rows all.1)
  where
    neither : (a b : Bool) → (a ≡ true → ⊥) → b ≡ false → (a || b) ≡ false
    neither true b never none = absurd (never refl)
    neither false b never none = none

pub forget_places : (name : List ℕ) (drops cursors : List CursorRow) (queries : List QueryRow) (next : ℕ) → AreAmong name drops cursors
    → InTurn IsInPlace (map drop_of drops ++ DropQuery name ∷ []) (kept_tables queries cursors next)
forget_places name [] cursors queries next among = (none_among name cursors among, tt)
forget_places name (drop ∷ drops) cursors queries next among =
    (tt, forget_places name drops (outside.without cursor_number drop.number cursors) queries next (among_fewer name drop drops cursors among))

no_query_puts : (name : List ℕ) (drops : List CursorRow) → query_puts (map drop_of drops ++ DropQuery name ∷ []) ≡ 0
no_query_puts name [] = refl
no_query_puts name (drop ∷ drops) = no_query_puts name drops

no_cursor_puts : (name : List ℕ) (drops : List CursorRow) → cursor_puts (map drop_of drops ++ DropQuery name ∷ []) ≡ 0
no_cursor_puts name [] = refl
no_cursor_puts name (drop ∷ drops) = no_cursor_puts name drops

-- dropping a query with its saved searches is ready
pub changes_ready : (name : List ℕ) (cursors : List CursorRow) → IsName name → AreReady (forget_changes name cursors) []
changes_ready name cursors is = forget_ready name (filter (λ row. bytes_eq row.name name) cursors) is

-- and it fits
pub forget_fits : (saved : SavedView) (pending : SavedPendingView) (name : List ℕ) → pending.changes ≡ forget_changes name saved.cursors → SavedFits saved pending
forget_fits saved pending name is = record {
  places = rw is (forget_places name (filter (λ row. bytes_eq row.name name) saved.cursors) saved.cursors saved.queries saved.next_cursor (among_all name saved.cursors));
  queries = rw is (let none = no_query_puts name (filter (λ row. bytes_eq row.name name) saved.cursors) in omega (arith, none));
  cursors = rw is (let none = no_cursor_puts name (filter (λ row. bytes_eq row.name name) saved.cursors) in omega (arith, none));
}
