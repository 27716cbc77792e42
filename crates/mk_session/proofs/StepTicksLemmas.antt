-- How often a command that is done begins the matcher.
--     searches_begin_up_to_place, resumes_begin_up_to_place     for a search within a budget that is
--                                          saved, up to the place that is saved
use Rattle.std.proofs.Common.{◌≡◌, ℕ, Bool, true, false, not, ◌||◌, List, [], ◌∷◌, filter, nat_eq, nat_lt, eq-eqb, Option, Some, None, refl, sym, ap, ◌∙◌, subst}
use Rattle.std.specs.List.{list_any}
use Rattle.std.proofs.lemmas.Bool.{cond_both}
use Rattle.mk_outside.specs.declared.tables.Change.{Change}
use Rattle.mk_outside.specs.declared.tables.Change.TheVariants.{PutCursor, DropCursor}
use Rattle.mk_outside.specs.declared.tables.CursorRow.{CursorRow}
use Rattle.mk_outside.specs.declared.tables.Tables.{Tables}
use Rattle.mk_outside.specs.Rows.{in_order, in_place, put, without}
use Rattle.mk_outside.specs.Tables.{after_batch, cursor_number}
use Rattle.mk_kept.specs.Named.{search_of}
use Rattle.mk_kept.proofs.ForCallers.{some_same}
use Rattle.mk_found.specs.Effects.{Answers, Effect, Refuses, after_effect}
use Rattle.mk_effects.specs.Searching.{IsResume, IsSearch, ListsAll, ListsRest, MovesPlace, NoQuerySearched, NoSearchResumed, SavesPlace, SearchesAreFull}
use Rattle.mk_effects.specs.Ticks.{BeginsBetween, BeginsOfListing, BeginsOfResume, BeginsOfRest, BeginsOfSearch}
use Rattle.mk_effects.proofs.TicksLemmas.{begins_between}
use Rattle.mk_session.specs.StepTicks.{ResumesBeginUpToPlace, SearchesBeginUpToPlace}

-- ---- a saved search behind a change

either_false : (a b : Bool) → (a || b) ≡ false → (a ≡ false) × (b ≡ false)
either_false true b is = cc
either_false false b is = (refl, is)

or_else : (a b : Bool) → a ≡ false → (a || b) ≡ true → b ≡ true
or_else true b none is = cc
or_else false b none is = is

not_true : (a : Bool) → not a ≡ true → a ≡ false
not_true true is = cc
not_true false is = refl

first_of : (row : CursorRow) (rows : List CursorRow) → search_of row.number (row ∷ rows) ≡ Some row
first_of row rows = let same : nat_eq row.number row.number ≡ true = eq-eqb row.number row.number refl in rw same refl

put_in_place : (row : CursorRow) (rows : List CursorRow) → list_any (λ (x : CursorRow). nat_eq (cursor_number x) (cursor_number row)) rows ≡ true
    → search_of row.number (in_place cursor_number row rows) ≡ Some row
put_in_place row [] any = absurd cc
put_in_place row (x ∷ rows) any =
    cond_both (nat_eq x.number row.number) (row ∷ rows) (x ∷ in_place cursor_number row rows) (λ (left : List CursorRow). search_of row.number left ≡ Some row)
    (λ here. first_of row rows)
    (λ other. rw other (put_in_place row rows (or_else (nat_eq x.number row.number) (list_any (λ (y : CursorRow). nat_eq (cursor_number y) (cursor_number row)) rows) other any)))

put_in_order : (row : CursorRow) (rows : List CursorRow) → list_any (λ (x : CursorRow). nat_eq (cursor_number x) (cursor_number row)) rows ≡ false
    → search_of row.number (in_order cursor_number row rows) ≡ Some row
put_in_order row [] none = first_of row []
put_in_order row (x ∷ rows) none =
    let both = either_false (nat_eq x.number row.number) (list_any (λ (y : CursorRow). nat_eq (cursor_number y) (cursor_number row)) rows) none in
    cond_both (nat_lt row.number x.number) (row ∷ x ∷ rows) (x ∷ in_order cursor_number row rows) (λ (left : List CursorRow). search_of row.number left ≡ Some row)
    (λ before. first_of row (x ∷ rows))
    (λ behind. rw both.0 (put_in_order row rows both.1))

-- the search that was put is the one of its number
put_is_saved : (row : CursorRow) (rows : List CursorRow) → search_of row.number (put cursor_number row rows) ≡ Some row
unfolding put
put_is_saved row rows =
    cond_both (list_any (λ (x : CursorRow). nat_eq (cursor_number x) (cursor_number row)) rows) (in_place cursor_number row rows) (in_order cursor_number row rows)
    (λ (left : List CursorRow). search_of row.number left ≡ Some row) (λ any. put_in_place row rows any) (λ none. put_in_order row rows none)

-- and behind a drop none has the number
dropped_is_none : (c : ℕ) (rows : List CursorRow) → search_of c (without cursor_number c rows) ≡ None
unfolding without
dropped_is_none c [] = refl
dropped_is_none c (x ∷ rows) =
    cond_both (not (nat_eq x.number c)) (x ∷ filter (λ (y : CursorRow). not (nat_eq (cursor_number y) c)) rows) (filter (λ (y : CursorRow). not (nat_eq (cursor_number y) c)) rows)
    (λ (left : List CursorRow). search_of c left ≡ None)
    (λ stays. let other : nat_eq x.number c ≡ false = not_true (nat_eq x.number c) stays in rw other (dropped_is_none c rows))
    (λ gone. dropped_is_none c rows)

none_is_some : {A : Type 0} (found : Option A) (a : A) → found ≡ None → found ≡ Some a → ⊥
none_is_some found a none some = let h = sym none ∙ some in cc

-- the search that stands there behind a batch that put one is the one that was put
put_place : (t t' : Tables) (effect : Effect) (c : ℕ) (name next text : List ℕ) (row : CursorRow) → effect ≡ Answers (PutCursor c name next ∷ []) text
    → t' ≡ after_effect effect t → search_of c t'.cursors ≡ Some row → next ≡ row.place
put_place t t' effect c name next text row is left saved =
    let given : CursorRow = record { number = c; name = name; place = next } in
    let made : t' ≡ after_batch (PutCursor c name next ∷ []) t = subst (λ (x : Effect). t' ≡ after_effect x t) is left in
    let here : search_of c (put cursor_number given t.cursors) ≡ Some row = subst (λ (x : Tables). search_of c x.cursors ≡ Some row) made saved in
    let there : search_of c (put cursor_number given t.cursors) ≡ Some given = put_is_saved given t.cursors in
    ap (λ (x : CursorRow). x.place) (some_same given row (sym there ∙ here))

-- ---- search

-- a search that wasn't there isn't there where the tables stay
none_new : (t t' : Tables) (c : ℕ) (row : CursorRow) → t' ≡ t → search_of c t.cursors ≡ None → search_of c t'.cursors ≡ Some row → ⊥
none_new t t' c row same free saved = none_is_some (search_of c t.cursors) row free (subst (λ (x : Tables). search_of c x.cursors ≡ Some row) same saved)

search_saved : (t t' : Tables) (name : List ℕ) (limit b : ℕ) (effect : Effect) (before after : ℕ) (row : CursorRow) → IsSearch t name limit (Some b) effect → t' ≡ after_effect effect t
    → BeginsOfSearch t name limit (Some b) effect before after → search_of t.next_cursor t.cursors ≡ None → search_of t.next_cursor t'.cursors ≡ Some row
    → BeginsBetween t name [] row.place before after
search_saved t t' name limit b effect before after row (NoQuerySearched none is) left begins free saved =
    absurd (none_new t t' t.next_cursor row (subst (λ (x : Effect). t' ≡ after_effect x t) is left) free saved)
search_saved t t' name limit b effect before after row (SearchesAreFull query named full is) left begins free saved =
    absurd (none_new t t' t.next_cursor row (subst (λ (x : Effect). t' ≡ after_effect x t) is left) free saved)
search_saved t t' name limit b effect before after row (ListsAll query named room keys next text listing is) left begins free saved =
    absurd (none_new t t' t.next_cursor row (subst (λ (x : Effect). t' ≡ after_effect x t) is left) free saved)
search_saved t t' name limit b effect before after row (SavesPlace query named room keys stops next text listing on is) left begins free saved =
    let listed : BeginsOfListing t name [] limit (Some b) t.next_cursor (PutCursor t.next_cursor name next ∷ []) text before after =
    subst (λ (x : Effect). BeginsOfSearch t name limit (Some b) x before after) is begins in
    let place : next ≡ row.place = put_place t t' effect t.next_cursor name next text row is left saved in
    begins_between t name [] limit b t.next_cursor (PutCursor t.next_cursor name next ∷ []) text before after t.next_cursor name row.place listed
    (ap (λ (at : List ℕ). PutCursor t.next_cursor name at ∷ []) place)

pub searches_begin_up_to_place : SearchesBeginUpToPlace
searches_begin_up_to_place files t t' name limit budget old new before after e row done free saved =
    search_saved t t' name limit budget done.effect before after row done.comes done.tables done.begins free saved

-- ---- resume

rest_saved : (t : Tables) (c limit b : ℕ) (batch : List Change) (text : List ℕ) (before after d : ℕ) (other at : List ℕ) (was : CursorRow)
    → BeginsOfRest t c limit (Some b) batch text before after → batch ≡ PutCursor d other at ∷ [] → search_of c t.cursors ≡ Some was
    → BeginsBetween t was.name was.place at before after
rest_saved t c limit b batch text before after d other at was rest is held =
    let same : rest.row ≡ was = some_same rest.row was (sym rest.saved ∙ held) in
    subst (λ (r : CursorRow). BeginsBetween t r.name r.place at before after) same
    (begins_between t rest.row.name rest.row.place limit b c batch text before after d other at rest.listed is)

resume_saved : (t t' : Tables) (c limit b : ℕ) (effect : Effect) (before after : ℕ) (was row : CursorRow) → IsResume t c limit (Some b) effect → t' ≡ after_effect effect t
    → BeginsOfResume t c limit (Some b) effect before after → search_of c t.cursors ≡ Some was → search_of c t'.cursors ≡ Some row
    → BeginsBetween t was.name was.place row.place before after
resume_saved t t' c limit b effect before after was row (NoSearchResumed none is) left begins held saved = absurd (none_is_some (search_of c t.cursors) was none held)
resume_saved t t' c limit b effect before after was row (ListsRest found there query named keys next text listing is) left begins held saved =
    let made : t' ≡ after_batch (DropCursor c ∷ []) t = subst (λ (x : Effect). t' ≡ after_effect x t) is left in
    let here : search_of c (without cursor_number c t.cursors) ≡ Some row = subst (λ (x : Tables). search_of c x.cursors ≡ Some row) made saved in
    absurd (none_is_some (search_of c (without cursor_number c t.cursors)) row (dropped_is_none c t.cursors) here)
resume_saved t t' c limit b effect before after was row (MovesPlace found there query named keys stops next text listing on is) left begins held saved =
    let rest : BeginsOfRest t c limit (Some b) (PutCursor c found.name next ∷ []) text before after = subst (λ (x : Effect). BeginsOfResume t c limit (Some b) x before after) is begins in
    let place : next ≡ row.place = put_place t t' effect c found.name next text row is left saved in
    rest_saved t c limit b (PutCursor c found.name next ∷ []) text before after c found.name row.place was rest (ap (λ (at : List ℕ). PutCursor c found.name at ∷ []) place) held

pub resumes_begin_up_to_place : ResumesBeginUpToPlace
resumes_begin_up_to_place files t t' c limit budget old new before after e was row done held saved =
    resume_saved t t' c limit budget done.effect before after was row done.comes done.tables done.begins held saved
