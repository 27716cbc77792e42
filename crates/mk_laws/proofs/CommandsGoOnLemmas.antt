-- Tables that a command leaves read, where those before it did. A further command is a further lemma.
--     edit_goes_on            an edit of records
--     match_goes_on .. enum_goes_on      each command
use Rattle.std.proofs.Common.{◌≡◌, ℕ, ◌+◌, ◌≤◌, true, List, [], ◌∷◌, ◌++◌, length, map, filter, bytes_eq, Option, Some, None, refl, sym, subst, arith}
use Rattle.mk_text.specs.Lines.{lines_of}
use Rattle.mk_outside.specs.declared.tables.Change.{Change}
use Rattle.mk_outside.specs.declared.tables.Change.TheVariants.{PutQuery, DropQuery, PutCursor, DropCursor, DropRecord}
use Rattle.mk_outside.specs.declared.tables.CursorRow.{CursorRow}
use Rattle.mk_outside.specs.declared.tables.QueryRow.{QueryRow}
use Rattle.mk_outside.specs.declared.tables.Tables.{Tables}
use Rattle.mk_outside.specs.Tables.{after_batch, after_change}
use Rattle.mk_rgfile.specs.KeptQueries.{KeptLinesAreKept}
use Rattle.mk_rgfile.proofs.ForCallers.{query_keeps}
use Rattle.mk_query.specs.Laws.{KeptTextIsTheQuery, PassedQueriesFit}
use Rattle.mk_query.proofs.ForCallers.{in_range}
use Rattle.mk_model.specs.Queries.{QueryView}
use Rattle.mk_model.specs.QueryFits.{QueryFits}
use Rattle.mk_search.proofs.ForCallers.{place_has_few}
use Rattle.mk_library.specs.EditedRows.{EditsAreOfRecords, EditsKeepReading}
use Rattle.mk_library.specs.Edits.{Edit, Remove, Replace}
use Rattle.mk_library.specs.declared.refusal.LoadRefusal.{LoadRefusal}
use Rattle.mk_library.specs.FirstRefusal.{Demand, EditDemands, IsAllowedEdit, IsFirstFileRefusal, IsFirstRefusal}
use Rattle.mk_library.specs.FirstRefusal as demand
use Rattle.mk_library.specs.Pending.{InTurn, RecordsChangeAlone}
use Rattle.mk_library.specs.Records.{IsMoleculeAt, is_held}
use Rattle.mk_library.proofs.ForCallers.{kept_lines_are_short}
use Rattle.mk_kept.specs.Names.{IsName}
use Rattle.mk_effects.specs.declared.hit_lines.Stop.{Stop}
use Rattle.mk_found.specs.Effects.{Answers, Effect, Refuses, after_effect}
use Rattle.mk_found.specs.Files.{Look}
use Rattle.mk_kept.specs.StoredRows.{CanGoOn, EachReads, ReadsCursor, ReadsQuery}
use Rattle.mk_edits.specs.Loading.{IsEditMade, IsEdited, IsReplace, NoRecordReplaced, ReplacesHeld}
use Rattle.mk_effects.specs.Match.{IsMatch, ListsKeys, QueryRefused, Searches}
use Rattle.mk_found.specs.MoleculeFiles.{ComesByFile, GoesByMolecules, MoleculesRefused, MoleculesTooLong}
use Rattle.mk_query_edits.specs.Queries.{FileIsRefused, Forgets, IsForget, IsKeep, Keeps, NameIsHeld, NoQueryForgotten, QueriesAreFull, TextsAreFull, drop_of, forget_changes, kept_text}
use Rattle.mk_edits.specs.Records.{IsRemove, IsShow, NoRecordRemoved, NoRecordShown, Removes, Shows}
use Rattle.mk_kept.specs.Saved.{IsMeant, greatest_number, kept_tables, longest_place}
use Rattle.mk_kept.specs.SavedPending.{IsInPlace}
use Rattle.mk_effects.specs.Searching.{IsListing, IsResume, IsSearch, ListsAll, ListsRest, MovesPlace, NoQuerySearched, NoSearchResumed, SavesPlace, SearchesAreFull}
use Rattle.mk_effects.specs.Structures.{IsEnum, NoQueryEnumerated, WritesStructures}
use Rattle.mk_rtable.specs.Answer.{IsTableAnswer, NoQueryTabled, WritesRows}
use Rattle.mk_kept.specs.Named.{IsQueryNamed}
use Rattle.mk_kept.proofs.ForCallers.{all_of_each, below_all, none_above_greatest, drop_cursor_goes_on, drop_query_goes_on, later_cursor_goes_on, new_cursor_goes_on, put_query_goes_on, named_of, search_is_held, place_is_kept}
use Rattle.mk_query_edits.proofs.QueriesLemmas.{among_all, forget_places, kept_is_meant}

-- the laws of other crates on which this one rests
pub record KeepingLaws : Type 0 where
  pub kept : KeptLinesAreKept
  pub same : KeptTextIsTheQuery
  pub reading : EditsKeepReading
  pub of_records : EditsAreOfRecords
  pub alone : RecordsChangeAlone
  pub fit : PassedQueriesFit

-- ---- records

pub edit_goes_on : KeepingLaws → (t : Tables) (edit : Edit) (changes : List Change) → CanGoOn t → IsAllowedEdit t.records t.next_record edit changes → CanGoOn (after_batch changes t)
edit_goes_on laws t edit changes go allowed =
    let whole = laws.alone changes t (laws.of_records t.records t.next_record edit changes allowed) in
    let on = laws.reading t edit changes (record { read = go.reads.records; least = go.record_number }) allowed in
    record {
      reads = record {
        records = on.read;
        queries = subst (λ (u : Tables). EachReads ReadsQuery u.queries) (sym whole) go.reads.queries;
        cursors = subst (λ (u : Tables). EachReads (ReadsCursor u.queries u.next_cursor) u.cursors) (sym whole) go.reads.cursors;
      };
      record_number = on.least;
      cursor_number = subst (λ (u : Tables). 1 ≤ u.next_cursor) (sym whole) go.cursor_number;
    }

-- a record that is held may be removed
removal : (t : Tables) (n : ℕ) → is_held n t.records ≡ true → (d : Demand) → EditDemands t.records t.next_record (Remove n) d
removal t n held demand.held_number = held
removal t n held demand.short_file = tt
removal t n held demand.sdfile = tt
removal t n held demand.one_record = tt
removal t n held demand.molecules = tt
removal t n held demand.kept_limits = tt

-- ---- commands

-- a refusal, and an answer without a batch, change nothing
pub refused_goes_on : (t : Tables) (effect : Effect) (line : List ℕ) → effect ≡ Refuses line → CanGoOn t → CanGoOn (after_effect effect t)
refused_goes_on t effect line is go = subst (λ (e : Effect). CanGoOn (after_effect e t)) (sym is) go

pub answered_goes_on : (t : Tables) (effect : Effect) (text : List ℕ) → effect ≡ Answers [] text → CanGoOn t → CanGoOn (after_effect effect t)
answered_goes_on t effect text is go = subst (λ (e : Effect). CanGoOn (after_effect e t)) (sym is) go

changed_goes_on : (t : Tables) (effect : Effect) (batch : List Change) (text : List ℕ) → effect ≡ Answers batch text → CanGoOn (after_batch batch t) → CanGoOn (after_effect effect t)
changed_goes_on t effect batch text is go = subst (λ (e : Effect). CanGoOn (after_effect e t)) (sym is) go

-- by a molecules' file a command leaves tables that read, where by its bytes it does
by_file_goes_on : (files : Option Look) (t : Tables) (name : List ℕ) (First : List ℕ → LoadRefusal → Type 0) (Comes : List ℕ → Effect → Type 0) (effect : Effect)
    → ((bytes : List ℕ) → Comes bytes effect → CanGoOn (after_effect effect t)) → ComesByFile files name First Comes effect → CanGoOn t → CanGoOn (after_effect effect t)
by_file_goes_on files t name First Comes effect on (MoleculesTooLong long is) go = refused_goes_on t effect _ is go
by_file_goes_on files t name First Comes effect on (MoleculesRefused bytes read said first line says is) go = refused_goes_on t effect line is go
by_file_goes_on files t name First Comes effect on (GoesByMolecules bytes read comes) go = on bytes comes

pub match_goes_on : (files : Option Look) (t : Tables) (query molecules : List ℕ) (effect : Effect) → IsMatch files query molecules effect → CanGoOn t → CanGoOn (after_effect effect t)
match_goes_on files t query molecules effect (QueryRefused line refused is) go = refused_goes_on t effect line is go
match_goes_on files t query molecules effect (Searches wanted held searched) go =
    by_file_goes_on files t molecules IsFirstFileRefusal (ListsKeys wanted) effect (λ bytes lists. answered_goes_on t effect lists.text lists.answered go) searched go

pub edited_goes_on : KeepingLaws → (files : Option Look) (t : Tables) (name : List ℕ) (edit : List ℕ → Edit) (answer : List Change → List ℕ) (effect : Effect)
    → IsEdited files t.records t.next_record name edit answer effect → CanGoOn t → CanGoOn (after_effect effect t)
edited_goes_on laws files t name edit answer effect edited go =
    by_file_goes_on files t name (λ (bytes : List ℕ). IsFirstRefusal t.records t.next_record (edit bytes)) (λ (bytes : List ℕ). IsEditMade t.records t.next_record (edit bytes) answer) effect
    (λ bytes made. changed_goes_on t effect made.changes (answer made.changes) made.answered (edit_goes_on laws t (edit bytes) made.changes go made.allowed)) edited go

pub replace_goes_on : KeepingLaws → (files : Option Look) (t : Tables) (n : ℕ) (name : List ℕ) (effect : Effect) → IsReplace files t.records t.next_record n name effect
    → CanGoOn t → CanGoOn (after_effect effect t)
replace_goes_on laws files t n name effect (NoRecordReplaced none is) go = refused_goes_on t effect _ is go
replace_goes_on laws files t n name effect (ReplacesHeld held edited) go = edited_goes_on laws files t name (Replace n) _ effect edited go

pub remove_goes_on : KeepingLaws → (t : Tables) (n : ℕ) (effect : Effect) → IsRemove t.records n effect → CanGoOn t → CanGoOn (after_effect effect t)
remove_goes_on laws t n effect (NoRecordRemoved none is) go = refused_goes_on t effect _ is go
remove_goes_on laws t n effect (Removes held is) go =
    changed_goes_on t effect (DropRecord n ∷ []) _ is (edit_goes_on laws t (Remove n) (DropRecord n ∷ []) go (record { met = removal t n held; are = refl }))

pub show_goes_on : (t : Tables) (n : ℕ) (effect : Effect) → IsShow t.records n effect → CanGoOn t → CanGoOn (after_effect effect t)
show_goes_on t n effect (NoRecordShown none is) go = refused_goes_on t effect _ is go
show_goes_on t n effect (Shows text there is) go = answered_goes_on t effect _ is go

pub keep_goes_on : KeepingLaws → (files : Option Look) (t : Tables) (name file : List ℕ) (effect : Effect) → IsName name → IsKeep files t.queries name file effect
    → CanGoOn t → CanGoOn (after_effect effect t)
keep_goes_on laws files t name file effect is_name (NameIsHeld held is) go = refused_goes_on t effect _ is go
keep_goes_on laws files t name file effect is_name (QueriesAreFull new full is) go = refused_goes_on t effect _ is go
keep_goes_on laws files t name file effect is_name (FileIsRefused free line refused is) go = refused_goes_on t effect line is go
keep_goes_on laws files t name file effect is_name (TextsAreFull free query held none is) go = refused_goes_on t effect _ is go
keep_goes_on laws files t name file effect is_name (Keeps free query held room is) go =
    let row : QueryRow = record { number = greatest_number t.queries + 1; name = name; text = kept_text held.bytes } in
    let size = kept_lines_are_short held.bytes in
    let read = held.read.short in
    changed_goes_on t effect (PutQuery row.number name row.text ∷ []) _ is (put_query_goes_on t row go (record {
      place = record {
        number = omega arith;
        above = below_all (greatest_number t.queries) (greatest_number t.queries + 1) t.queries (omega arith) (none_above_greatest t.queries);
        name = is_name;
        new = free.new;
        few = free.few;
        bytes = room.bytes;
        short = omega (arith, size, read);
      };
      text = (query, kept_is_meant laws.kept laws.same held.bytes query held.is);
    }))

-- the saved searches are dropped, and then the query, which none has by then
drops_go_on : (name : List ℕ) (drops : List CursorRow) (t : Tables) → InTurn IsInPlace (map drop_of drops ++ DropQuery name ∷ []) (kept_tables t.queries t.cursors t.next_cursor)
    → CanGoOn t → CanGoOn (after_batch (map drop_of drops ++ DropQuery name ∷ []) t)
drops_go_on name [] t places go = drop_query_goes_on t name go places.0
drops_go_on name (drop ∷ drops) t places go = drops_go_on name drops (after_change (DropCursor drop.number) t) places.1 (drop_cursor_goes_on t drop.number go)

pub forget_goes_on : (t : Tables) (name : List ℕ) (effect : Effect) → IsForget t.queries t.cursors name effect → CanGoOn t → CanGoOn (after_effect effect t)
forget_goes_on t name effect (NoQueryForgotten none is) go = refused_goes_on t effect _ is go
forget_goes_on t name effect (Forgets held is) go =
    let drops = filter (λ (row : CursorRow). bytes_eq row.name name) t.cursors in
    changed_goes_on t effect (forget_changes name t.cursors) _ is
    (drops_go_on name drops t (forget_places name drops t.cursors t.queries t.next_cursor (among_all name t.cursors)) go)

-- what a text means keeps what every query keeps
meant_fits : KeepingLaws → (text : List ℕ) (query : QueryView) → IsMeant text query → QueryFits query
meant_fits laws text query meant = laws.fit meant.is.raw query (in_range meant.is.raw (query_keeps (lines_of text) meant.is.raw meant.is.file)) meant.is.means meant.is.passes

-- the place behind what is listed is short, where the one before it is
listed_is_short : KeepingLaws → (t : Tables) (name : List ℕ) (query : QueryView) (place : List ℕ) (limit : ℕ) (budget : Option ℕ) (c : ℕ) (keys : List (List ℕ)) (stops : Stop)
    (next text : List ℕ) → IsQueryNamed t.queries name query → IsListing t.records query place limit budget c keys stops next text → length place ≤ longest_place
    → length next ≤ longest_place
listed_is_short laws t name query place limit None c keys stops next text named listing few =
    subst (λ (xs : List ℕ). length xs ≤ longest_place) (sym listing.listed.behind)
    (place_has_few (IsMoleculeAt t.records) query place limit keys (meant_fits laws named.text query named.means) listing.listed.first few)
listed_is_short laws t name query place limit (Some b) c keys stops next text named listing few = listing.listed.short

pub search_goes_on : KeepingLaws → (t : Tables) (name : List ℕ) (limit : ℕ) (budget : Option ℕ) (effect : Effect) → IsSearch t name limit budget effect → CanGoOn t
    → CanGoOn (after_effect effect t)
search_goes_on laws t name limit budget effect (NoQuerySearched none is) go = refused_goes_on t effect _ is go
search_goes_on laws t name limit budget effect (SearchesAreFull query named full is) go = refused_goes_on t effect _ is go
search_goes_on laws t name limit budget effect (ListsAll query named room keys next text listing is) go = answered_goes_on t effect text is go
search_goes_on laws t name limit budget effect (SavesPlace query named room keys stops next text listing on is) go =
    changed_goes_on t effect (PutCursor t.next_cursor name next ∷ []) text is
    (new_cursor_goes_on t name next go room.number (named_of name t.queries query named) room.few
    (listed_is_short laws t name query [] limit budget t.next_cursor keys stops next text named listing (omega arith)))

pub resume_goes_on : KeepingLaws → (t : Tables) (c limit : ℕ) (budget : Option ℕ) (effect : Effect) → IsResume t c limit budget effect → CanGoOn t → CanGoOn (after_effect effect t)
resume_goes_on laws t c limit budget effect (NoSearchResumed none is) go = refused_goes_on t effect _ is go
resume_goes_on laws t c limit budget effect (ListsRest row held query named keys next text listing is) go = changed_goes_on t effect (DropCursor c ∷ []) text is (drop_cursor_goes_on t c go)
resume_goes_on laws t c limit budget effect (MovesPlace row held query named keys stops next text listing on is) go =
    let all = all_of_each (ReadsCursor t.queries t.next_cursor) (λ (x : CursorRow). length x.place ≤ longest_place) (λ front before reads. reads.short) t.cursors go.reads.cursors in
    changed_goes_on t effect (PutCursor c row.name next ∷ []) text is
    (later_cursor_goes_on t c row.name next go (search_is_held c row t.cursors held) (named_of row.name t.queries query named)
    (listed_is_short laws t row.name query row.place limit budget c keys stops next text named listing (place_is_kept c row t.cursors all held)))

pub table_goes_on : (t : Tables) (name : List ℕ) (effect : Effect) → IsTableAnswer t name effect → CanGoOn t → CanGoOn (after_effect effect t)
table_goes_on t name effect (NoQueryTabled none is) go = refused_goes_on t effect _ is go
table_goes_on t name effect (WritesRows query named rows table is) go = answered_goes_on t effect _ is go

pub enum_goes_on : (t : Tables) (name : List ℕ) (limit : ℕ) (from : List ℕ) (effect : Effect) → IsEnum t.queries name limit from effect → CanGoOn t → CanGoOn (after_effect effect t)
enum_goes_on t name limit from effect (NoQueryEnumerated none is) go = refused_goes_on t effect _ is go
enum_goes_on t name limit from effect (WritesStructures query named found are is) go = answered_goes_on t effect _ is go
