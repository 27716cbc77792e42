-- An effect leaves tables that can be asked, where those before it could.
--     all_put, all_filtered      what holds of all rows, once one was put or some were dropped
--     named_put, named_left      a name that is held still is
--     effect_keeps               EffectsKeepQueries
use Rattle.std.proofs.Common.{◌≡◌, ◌<◌, ◌≤◌, ◌+◌, ℕ, length, Bool, true, false, cond, not, List, [], ◌∷◌, ◌++◌, Option, Some, None, refl, sym, subst, ◌∙◌, arith, map, filter}
use Rattle.std.specs.Prelude.{◌||◌, bytes_eq, nat_eq, nat_lt}
use Rattle.std.specs.List.{AllByRecursion, list_any}
use Rattle.std.proofs.lemmas.Bool.{cond_both, eqb-true, true≢false}
use Rattle.std.proofs.lemmas.Slice.Eq.{bytes_eq-Decides}
use Rattle.mk_outside.specs.declared.tables.Change.{Change}
use Rattle.mk_outside.specs.declared.tables.Change.TheVariants.{DropCursor, DropQuery, DropRecord, PutCursor, PutQuery}
use Rattle.mk_outside.specs.declared.tables.CursorRow.{CursorRow}
use Rattle.mk_outside.specs.declared.tables.QueryRow.{QueryRow}
use Rattle.mk_outside.specs.declared.tables.Tables.{Tables}
use Rattle.mk_outside.specs.Rows as outside
use Rattle.mk_outside.specs.Rows.{in_order, in_place}
use Rattle.mk_outside.specs.Tables.{after_batch, after_change, cursor_number, query_number, without_name}
use Rattle.mk_library.specs.Edits.{Edit, Load, Replace}
use Rattle.mk_library.specs.declared.refusal.LoadRefusal.{LoadRefusal}
use Rattle.mk_library.specs.FirstRefusal.{IsAllowedEdit, IsFirstFileRefusal, IsFirstRefusal}
use Rattle.mk_library.specs.Pending.{InTurn}
use Rattle.mk_library.proofs.EditedRowsLemmas.{edits_of_records}
use Rattle.mk_library.proofs.PendingLemmas.{records_alone}
use Rattle.mk_model.specs.Queries.{QueryView}
use Rattle.mk_search.proofs.ForCallers.{place_has_few}
use Rattle.mk_query.proofs.KeptTextLemmas.{kept_text as kept_text_is}
use Rattle.mk_rgfile.proofs.KeptQueryLemmas.{kept_is_kept, query_left}
use Rattle.mk_words.specs.declared.command.Command.TheVariants as variant
use Rattle.mk_found.specs.Effects.{Answers, Refuses}
use Rattle.mk_found.specs.Effects.{Effect, after_effect}
use Rattle.mk_found.specs.Files.{Look}
use Rattle.mk_edits.specs.Loading.{NoRecordReplaced, ReplacesHeld}
use Rattle.mk_edits.specs.Loading.{IsEditMade, IsEdited, IsReplace}
use Rattle.mk_effects.specs.Match.{IsMatch, ListsKeys, QueryRefused, Searches}
use Rattle.mk_found.specs.MoleculeFiles.{ComesByFile, GoesByMolecules, MoleculesRefused, MoleculesTooLong}
use Rattle.mk_query_edits.specs.Queries.{FileIsRefused, Forgets, Keeps, NameIsHeld, NoQueryForgotten, QueriesAreFull, TextsAreFull}
use Rattle.mk_query_edits.specs.Queries.{IsForget, IsKeep, drop_of, forget_changes, kept_text}
use Rattle.mk_edits.specs.Records.{IsRemove, IsShow}
use Rattle.mk_edits.specs.Records.{NoRecordRemoved, NoRecordShown, Removes, Shows}
use Rattle.mk_kept.specs.Named.{IsQueryNamed}
use Rattle.mk_kept.specs.Saved.{HasMeaning, greatest_number, is_named, is_waiting, kept_tables, longest_place}
use Rattle.mk_kept.specs.SavedPending.{IsInPlace}
use Rattle.mk_effects.specs.declared.hit_lines.Stop.{Stop}
use Rattle.mk_library.specs.Records.{IsMoleculeAt}
use Rattle.mk_effects.specs.Searching.{IsListing, IsResume, IsSearch}
use Rattle.mk_effects.specs.Structures.{IsEnum, NoQueryEnumerated, WritesStructures}
use Rattle.mk_rtable.specs.Answer.{IsTableAnswer, NoQueryTabled, WritesRows}
use Rattle.mk_effects.specs.Searching.{ListsAll, ListsRest, MovesPlace, NoQuerySearched, NoSearchResumed, SavesPlace, SearchesAreFull}
use Rattle.mk_laws.specs.Values.{CanBeAsked, EffectsKeepQueries}
use Rattle.mk_laws.proofs.EffectValueLemmas.{its_query, text_fits}
use Rattle.mk_query_edits.proofs.QueriesLemmas.{among_all, forget_places, kept_is_meant}
use Rattle.mk_kept.proofs.SavedLemmas.{below_all, none_above_greatest}
use Rattle.mk_kept.proofs.NamedLemmas.{named_of}

-- ---- rows

module _ {R : Type 0} (P : R → Type 0) (number : R → ℕ) where
  all_in_place : (row : R) (rows : List R) → P row → AllByRecursion P rows → AllByRecursion P (in_place number row rows)
  all_in_place row [] here all = tt
  all_in_place row (x ∷ rows) here all =
      cond_both (nat_eq (number x) (number row)) (row ∷ rows) (x ∷ in_place number row rows) (AllByRecursion P) (λ _. (here, all.1)) (λ _. (all.0, all_in_place row rows here all.1))

  all_in_order : (row : R) (rows : List R) → P row → AllByRecursion P rows → AllByRecursion P (in_order number row rows)
  all_in_order row [] here all = (here, tt)
  all_in_order row (x ∷ rows) here all =
      cond_both (nat_lt (number row) (number x)) (row ∷ x ∷ rows) (x ∷ in_order number row rows) (AllByRecursion P) (λ _. (here, all)) (λ _. (all.0, all_in_order row rows here all.1))

  -- what holds of a row and of all others holds once it was put
  all_put : (row : R) (rows : List R) → P row → AllByRecursion P rows → AllByRecursion P (outside.put number row rows)
  unfolding outside.put
  all_put row rows here all =
      cond_both (list_any (λ x. nat_eq (number x) (number row)) rows) (in_place number row rows)
      (in_order number row rows) (AllByRecursion P) (λ _. all_in_place row rows here all)
      (λ _. all_in_order row rows here all)

  -- and of those that are left
  all_filtered : (stays : R → Bool) (rows : List R) → AllByRecursion P rows → AllByRecursion P (filter stays rows)
  all_filtered stays [] all = tt
  all_filtered stays (x ∷ rows) all = cond_both (stays x) (x ∷ filter stays rows) (filter stays rows) (AllByRecursion P)
      (λ _. (all.0, all_filtered stays rows all.1)) (λ _. all_filtered stays rows all.1)

-- what holds of each row in one way holds in another
all_by : {R : Type 0} (P Q : R → Type 0) → ((row : R) → P row → Q row) → (rows : List R) → AllByRecursion P rows → AllByRecursion Q rows
all_by P Q to [] all = tt
all_by P Q to (x ∷ rows) all = (to x all.0, all_by P Q to rows all.1)

-- ---- names

or_first : (a b : Bool) → a ≡ true → (a || b) ≡ true
or_first true b is = refl
or_first false b is = absurd (true≢false (sym is))

or_later : (a b : Bool) → b ≡ true → (a || b) ≡ true
or_later true b is = refl
or_later false b is = is

or_cases : (P : Type 0) (a b : Bool) → (a ≡ true → P) → (b ≡ true → P) → (a || b) ≡ true → P
or_cases P true b first later is = first refl
or_cases P false b first later is = later is

-- a row of a number that none has stands among the others
named_in_order : (name : List ℕ) (row : QueryRow) (rows : List QueryRow) → is_named name rows ≡ true → is_named name (in_order query_number row rows) ≡ true
named_in_order name row [] named = absurd (true≢false (sym named))
named_in_order name row (x ∷ rows) named =
    cond_both (nat_lt row.number x.number) (row ∷ x ∷ rows) (x ∷ in_order query_number row rows) (λ (all : List QueryRow). is_named name all ≡ true)
    (λ _. or_later (bytes_eq row.name name) (is_named name (x ∷ rows)) named)
    (λ _. or_cases (is_named name (x ∷ in_order query_number row rows) ≡ true) (bytes_eq x.name name)
    (is_named name rows) (or_first (bytes_eq x.name name) (is_named name (in_order query_number row rows)))
    (λ later. or_later (bytes_eq x.name name) (is_named name (in_order query_number row rows)) (named_in_order name row rows later)) named)

none_of_number : (n : ℕ) (rows : List QueryRow) → AllByRecursion (λ (row : QueryRow). row.number < n) rows → list_any (λ (x : QueryRow). nat_eq x.number n) rows ≡ false
none_of_number n [] all = refl
none_of_number n (x ∷ rows) all = by_test (nat_eq x.number n) refl (none_of_number n rows all.1)
  where
    by_test : (b : Bool) → nat_eq x.number n ≡ b → list_any (λ (x : QueryRow). nat_eq x.number n) rows ≡ false → (b || list_any (λ (x : QueryRow). nat_eq x.number n) rows) ≡ false
    by_test true is none = absurd (let same = eqb-true x.number n is in omega (arith, same, all.0))
    by_test false is none = none

-- names that are held still are behind a query of a number above all
named_put : (name : List ℕ) (row : QueryRow) (rows : List QueryRow)
    → AllByRecursion (λ (x : QueryRow). x.number < row.number) rows → is_named name rows ≡ true
    → is_named name (outside.put query_number row rows) ≡ true
unfolding outside.put
named_put name row rows below named = rw (none_of_number row.number rows below) (named_in_order name row rows named)

-- names other than the one of a query that was dropped are still held
named_left : (name gone : List ℕ) (rows : List QueryRow) → bytes_eq name gone ≡ false → is_named name rows ≡ true → is_named name (without_name gone rows) ≡ true
unfolding without_name
named_left name gone [] other named = absurd (true≢false (sym named))
named_left name gone (x ∷ rows) other named = by_test (bytes_eq x.name gone) refl (λ later. named_left name gone rows other later)
  where
    same_name : bytes_eq x.name gone ≡ true → bytes_eq x.name name ≡ true → ⊥
    same_name here there =
        true≢false (sym ((bytes_eq-Decides name gone).1 (sym ((bytes_eq-Decides x.name name).0 there) ∙ (bytes_eq-Decides x.name gone).0 here)) ∙ other)

    by_test : (b : Bool) → bytes_eq x.name gone ≡ b → (is_named name rows ≡ true
        → is_named name (without_name gone rows) ≡ true)
        → is_named name (cond (not b) (x ∷ without_name gone rows) (without_name gone rows)) ≡ true
    by_test true is left = or_cases (is_named name (without_name gone rows) ≡ true) (bytes_eq x.name name) (is_named name rows) (λ there. absurd (same_name is there)) left named
    by_test false is left =
        or_cases (is_named name (x ∷ without_name gone rows) ≡ true) (bytes_eq x.name name) (is_named name rows) (or_first (bytes_eq x.name name) (is_named name (without_name gone rows)))
        (λ later. or_later (bytes_eq x.name name) (is_named name (without_name gone rows)) (left later)) named

-- ---- changes

-- a refusal and an answer without a batch change nothing
refused_keeps : (t : Tables) (effect : Effect) (line : List ℕ) → effect ≡ Refuses line → CanBeAsked t → CanBeAsked (after_effect effect t)
refused_keeps t effect line is can = subst (λ (e : Effect). CanBeAsked (after_effect e t)) (sym is) can

changed_keeps : (t : Tables) (effect : Effect) (batch : List Change) (text : List ℕ) → effect ≡ Answers batch text → CanBeAsked (after_batch batch t) → CanBeAsked (after_effect effect t)
changed_keeps t effect batch text is can = subst (λ (e : Effect). CanBeAsked (after_effect e t)) (sym is) can

-- changes of records leave queries and saved searches
edit_keeps : (t : Tables) (edit : Edit) (changes : List Change) → IsAllowedEdit t.records t.next_record edit changes → CanBeAsked t → CanBeAsked (after_batch changes t)
edit_keeps t edit changes allowed can =
    let whole = records_alone changes t (edits_of_records t.records t.next_record edit changes allowed) in
    subst CanBeAsked (sym whole) (record { queries = can.queries; cursors = can.cursors; short = can.short })

cursor_keeps : (t : Tables) (number : ℕ) (name place : List ℕ) → is_named name t.queries ≡ true → length place ≤ longest_place → CanBeAsked t
    → CanBeAsked (after_change (PutCursor number name place) t)
cursor_keeps t number name place named few can = record {
  queries = can.queries;
  cursors = all_put (λ (row : CursorRow). is_named row.name t.queries ≡ true) cursor_number (record { number = number; name = name; place = place }) t.cursors named can.cursors;
  short = all_put (λ (row : CursorRow). length row.place ≤ longest_place) cursor_number (record { number = number; name = name; place = place }) t.cursors few can.short;
}

drop_keeps : (t : Tables) (number : ℕ) → CanBeAsked t → CanBeAsked (after_change (DropCursor number) t)
unfolding outside.without
drop_keeps t number can = record {
  queries = can.queries;
  cursors = all_filtered (λ (row : CursorRow). is_named row.name t.queries ≡ true) cursor_number (λ (x : CursorRow). not (nat_eq x.number number)) t.cursors can.cursors;
  short = all_filtered (λ (row : CursorRow). length row.place ≤ longest_place) cursor_number (λ (x : CursorRow). not (nat_eq x.number number)) t.cursors can.short;
}

query_keeps : (t : Tables) (row : QueryRow) → AllByRecursion (λ (x : QueryRow). x.number < row.number) t.queries
    → HasMeaning row.text → CanBeAsked t → CanBeAsked (after_change (PutQuery row.number row.name row.text) t)
query_keeps t row below means can = record {
  queries = all_put (λ (x : QueryRow). HasMeaning x.text) query_number row t.queries means can.queries;
  cursors = all_by (λ (x : CursorRow). is_named x.name t.queries ≡ true)
      (λ (x : CursorRow). is_named x.name (outside.put query_number row t.queries) ≡ true)
      (λ x named. named_put x.name row t.queries below named) t.cursors can.cursors;
  short = can.short;
}

-- none has the name of a query that is dropped
others_named : (name : List ℕ) (queries : List QueryRow) (cursors : List CursorRow) → is_waiting name cursors ≡ false
    → AllByRecursion (λ (x : CursorRow). is_named x.name queries ≡ true) cursors
    → AllByRecursion (λ (x : CursorRow). is_named x.name (without_name name queries) ≡ true) cursors
others_named name queries [] none all = tt
others_named name queries (x ∷ cursors) none all = by_test (bytes_eq x.name name) (is_waiting name cursors) refl refl none (λ later. others_named name queries cursors later all.1)
  where
    by_test : (a b : Bool) → bytes_eq x.name name ≡ a → is_waiting name cursors ≡ b → (a || b) ≡ false
        → (is_waiting name cursors ≡ false → AllByRecursion
        (λ (y : CursorRow). is_named y.name (without_name name queries) ≡ true) cursors)
        → AllByRecursion (λ (y : CursorRow). is_named y.name (without_name name queries) ≡ true) (x ∷ cursors)
    by_test true b p q none left = absurd (true≢false none)
    by_test false true p q none left = absurd (true≢false none)
    by_test false false p q none left = (named_left x.name name queries p all.0, left q)

drops_keep : (name : List ℕ) (drops : List CursorRow) (t : Tables) → InTurn IsInPlace (map drop_of drops ++ DropQuery name ∷ []) (kept_tables t.queries t.cursors t.next_cursor)
    → CanBeAsked t → CanBeAsked (after_batch (map drop_of drops ++ DropQuery name ∷ []) t)
unfolding without_name
drops_keep name [] t places can = record {
  queries = all_filtered (λ (x : QueryRow). HasMeaning x.text) query_number (λ (x : QueryRow). not (bytes_eq x.name name)) t.queries can.queries;
  cursors = others_named name t.queries t.cursors places.0 can.cursors;
  short = can.short;
}
drops_keep name (drop ∷ drops) t places can = drops_keep name drops (after_change (DropCursor drop.number) t) places.1 (drop_keeps t drop.number can)

-- ---- places

-- the next place is short, where the one before it is
next_is_short : (t : Tables) (name : List ℕ) (query : QueryView) (place : List ℕ) (limit : ℕ) (budget : Option ℕ) (c : ℕ) (keys : List (List ℕ)) (stops : Stop)
    (next text : List ℕ) → IsQueryNamed t.queries name query → IsListing t.records query place limit budget c keys stops next text → length place ≤ longest_place
    → length next ≤ longest_place
next_is_short t name query place limit None c keys stops next text named listing few =
    subst (λ (xs : List ℕ). length xs ≤ longest_place) (sym listing.listed.behind)
    (place_has_few (IsMoleculeAt t.records) query place limit keys (text_fits named.text query named.means.is) listing.listed.first few)
next_is_short t name query place limit (Some b) c keys stops next text named listing few = listing.listed.short

-- ---- commands

module _ (files : Option Look) (t : Tables) (can : CanBeAsked t) where
  -- by a molecules' file a command leaves tables that can be asked, where by its bytes it does
  by_file_keeps : (name : List ℕ) (First : List ℕ → LoadRefusal → Type 0) (Comes : List ℕ → Effect → Type 0) (effect : Effect)
      → ((bytes : List ℕ) → Comes bytes effect → CanBeAsked (after_effect effect t)) → ComesByFile files name First Comes effect → CanBeAsked (after_effect effect t)
  by_file_keeps name First Comes effect keeps (MoleculesTooLong long is) = refused_keeps t effect _ is can
  by_file_keeps name First Comes effect keeps (MoleculesRefused bytes read said first line says is) = refused_keeps t effect line is can
  by_file_keeps name First Comes effect keeps (GoesByMolecules bytes read comes) = keeps bytes comes

  match_keeps : (query molecules : List ℕ) (effect : Effect) → IsMatch files query molecules effect → CanBeAsked (after_effect effect t)
  match_keeps query molecules effect (QueryRefused line refused is) = refused_keeps t effect line is can
  match_keeps query molecules effect (Searches wanted held searched) =
      by_file_keeps molecules IsFirstFileRefusal (ListsKeys wanted) effect (λ bytes lists. changed_keeps t effect [] lists.text lists.answered can) searched

  edited_keeps : (name : List ℕ) (edit : List ℕ → Edit) (answer : List Change → List ℕ) (effect : Effect) → IsEdited files t.records t.next_record name edit answer effect
      → CanBeAsked (after_effect effect t)
  edited_keeps name edit answer effect edited =
      by_file_keeps name (λ (bytes : List ℕ). IsFirstRefusal t.records t.next_record (edit bytes)) (λ (bytes : List ℕ). IsEditMade t.records t.next_record (edit bytes) answer) effect
      (λ bytes made. changed_keeps t effect made.changes (answer made.changes) made.answered (edit_keeps t (edit bytes) made.changes made.allowed can)) edited

  replace_keeps : (n : ℕ) (name : List ℕ) (effect : Effect) → IsReplace files t.records t.next_record n name effect → CanBeAsked (after_effect effect t)
  replace_keeps n name effect (NoRecordReplaced none is) = refused_keeps t effect _ is can
  replace_keeps n name effect (ReplacesHeld held edited) = edited_keeps name (Replace n) _ effect edited

  remove_keeps : (n : ℕ) (effect : Effect) → IsRemove t.records n effect → CanBeAsked (after_effect effect t)
  remove_keeps n effect (NoRecordRemoved none is) = refused_keeps t effect _ is can
  remove_keeps n effect (Removes held is) = changed_keeps t effect (DropRecord n ∷ []) _ is (record { queries = can.queries; cursors = can.cursors; short = can.short })

  show_keeps : (n : ℕ) (effect : Effect) → IsShow t.records n effect → CanBeAsked (after_effect effect t)
  show_keeps n effect (NoRecordShown none is) = refused_keeps t effect _ is can
  show_keeps n effect (Shows text there is) = changed_keeps t effect [] _ is can

  keep_keeps : (name file : List ℕ) (effect : Effect) → IsKeep files t.queries name file effect → CanBeAsked (after_effect effect t)
  keep_keeps name file effect (NameIsHeld held is) = refused_keeps t effect _ is can
  keep_keeps name file effect (QueriesAreFull new full is) = refused_keeps t effect _ is can
  keep_keeps name file effect (FileIsRefused free line refused is) = refused_keeps t effect line is can
  keep_keeps name file effect (TextsAreFull free query held none is) = refused_keeps t effect _ is can
  keep_keeps name file effect (Keeps free query held room is) =
      let row : QueryRow = record { number = greatest_number t.queries + 1; name = name; text = kept_text held.bytes } in
      changed_keeps t effect (PutQuery row.number name row.text ∷ []) _ is
      (query_keeps t row (below_all (greatest_number t.queries) (greatest_number t.queries + 1) t.queries (omega arith) (none_above_greatest t.queries))
      (query, kept_is_meant kept_is_kept (kept_text_is query_left) held.bytes query held.is) can)

  forget_keeps : (name : List ℕ) (effect : Effect) → IsForget t.queries t.cursors name effect → CanBeAsked (after_effect effect t)
  forget_keeps name effect (NoQueryForgotten none is) = refused_keeps t effect _ is can
  forget_keeps name effect (Forgets held is) =
      let drops = filter (λ (row : CursorRow). bytes_eq row.name name) t.cursors in
      changed_keeps t effect (forget_changes name t.cursors) _ is (drops_keep name drops t (forget_places name drops t.cursors t.queries t.next_cursor (among_all name t.cursors)) can)

  search_keeps : (name : List ℕ) (limit : ℕ) (budget : Option ℕ) (effect : Effect) → IsSearch t name limit budget effect → CanBeAsked (after_effect effect t)
  search_keeps name limit budget effect (NoQuerySearched none is) = refused_keeps t effect _ is can
  search_keeps name limit budget effect (SearchesAreFull query named full is) = refused_keeps t effect _ is can
  search_keeps name limit budget effect (ListsAll query named room keys next text listing is) = changed_keeps t effect [] text is can
  search_keeps name limit budget effect (SavesPlace query named room keys stops next text listing on is) =
      changed_keeps t effect _ text is
      (cursor_keeps t t.next_cursor name next (named_of name t.queries query named) (next_is_short t name query [] limit budget t.next_cursor keys stops next text named listing (omega arith)) can)

  resume_keeps : (c limit : ℕ) (budget : Option ℕ) (effect : Effect) → IsResume t c limit budget effect → CanBeAsked (after_effect effect t)
  resume_keeps c limit budget effect (NoSearchResumed none is) = refused_keeps t effect _ is can
  resume_keeps c limit budget effect (ListsRest row held query named keys next text listing is) = changed_keeps t effect (DropCursor c ∷ []) text is (drop_keeps t c can)
  resume_keeps c limit budget effect (MovesPlace row held query named keys stops next text listing on is) =
      let few = its_query c (λ (r : CursorRow). length r.place ≤ longest_place) row t.cursors can.short held in
      changed_keeps t effect _ text is
      (cursor_keeps t c row.name next (named_of row.name t.queries query named) (next_is_short t row.name query row.place limit budget c keys stops next text named listing few) can)

  table_keeps : (name : List ℕ) (effect : Effect) → IsTableAnswer t name effect → CanBeAsked (after_effect effect t)
  table_keeps name effect (NoQueryTabled none is) = refused_keeps t effect _ is can
  table_keeps name effect (WritesRows query named rows table is) = changed_keeps t effect [] _ is can

  enum_keeps : (name : List ℕ) (limit : ℕ) (from : List ℕ) (effect : Effect) → IsEnum t.queries name limit from effect → CanBeAsked (after_effect effect t)
  enum_keeps name limit from effect (NoQueryEnumerated none is) = refused_keeps t effect _ is can
  enum_keeps name limit from effect (WritesStructures query named found are is) = changed_keeps t effect [] _ is can

pub effect_keeps : EffectsKeepQueries
effect_keeps look t None effect comes can = refused_keeps t effect _ comes can
effect_keeps look t (Some (variant.Match query molecules)) effect comes can = match_keeps (Some look) t can query molecules effect comes
effect_keeps look t (Some (variant.Load file)) effect comes can = edited_keeps (Some look) t can file Load _ effect comes
effect_keeps look t (Some (variant.Replace number file)) effect comes can = replace_keeps (Some look) t can number file effect comes
effect_keeps look t (Some (variant.Remove number)) effect comes can = remove_keeps (Some look) t can number effect comes
effect_keeps look t (Some (variant.Query name file)) effect comes can = keep_keeps (Some look) t can name file effect comes
effect_keeps look t (Some (variant.Forget name)) effect comes can = forget_keeps (Some look) t can name effect comes
effect_keeps look t (Some (variant.Search name limit budget)) effect comes can = search_keeps (Some look) t can name limit budget effect comes
effect_keeps look t (Some (variant.Resume cursor limit budget)) effect comes can = resume_keeps (Some look) t can cursor limit budget effect comes
effect_keeps look t (Some (variant.Show number)) effect comes can = show_keeps (Some look) t can number effect comes
effect_keeps look t (Some (variant.Table name)) effect comes can = table_keeps (Some look) t can name effect comes
effect_keeps look t (Some (variant.Enum name limit from)) effect comes can = enum_keeps (Some look) t can name limit from effect comes
effect_keeps look t (Some variant.List) effect comes can = changed_keeps t effect [] _ comes can
effect_keeps look t (Some (variant.Drill start count)) effect comes can = changed_keeps t effect [] comes.line comes.whole can
