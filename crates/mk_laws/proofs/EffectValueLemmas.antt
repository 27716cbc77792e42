-- Each order comes to an effect, where its files are there and the queries of the tables mean something.
--     some_text            keys have lines
--     some_listing         keys are listed, with a budget or without
--     some_rows            the rows of a query over the records
--     some_enum            its structures
--     some_effect          EachOrderHasEffect
use Rattle.std.proofs.Common.{◌≡◌, ◌≢◌, ◌<◌, ◌≤◌, ◌+◌, ℕ, Bool, true, false, cond, eqb, List, [], ◌∷◌, ◌++◌, Option, Some, None, refl, sym, ap, subst, arith, inl, inr, length, take}
use Rattle.std.specs.Prelude.{◌⊎◌, ◌↔◌, IsSome, bytes_eq, codes, nat_eq, nat_lt}
use Rattle.std.specs.List.{AllByRecursion}
use Rattle.std.proofs.lemmas.Bool.{cases_Bool, cases_lt, cond_both, eqb-true, eq-eqb, true≢false}
use Rattle.std.proofs.lemmas.List.Elements.{All-head, All-tail}
use Rattle.mk_text.specs.Lines.{lines_of}
use Rattle.mk_text.specs.Rising.{AreFirst, IsRisingListOfAll, place_behind}
use Rattle.mk_model.specs.Keys.{IsKey, Remains}
use Rattle.mk_model.specs.Molecules.{Molecule}
use Rattle.mk_model.specs.Queries.{QueryView}
use Rattle.mk_model.specs.QueryFits.{QueryFits}
use Rattle.mk_outside.specs.declared.tables.Change.{Change}
use Rattle.mk_outside.specs.declared.tables.Change.TheVariants.{DropCursor, PutCursor, PutQuery, DropRecord}
use Rattle.mk_outside.specs.declared.tables.CursorRow.{CursorRow}
use Rattle.mk_outside.specs.declared.tables.QueryRow.{QueryRow}
use Rattle.mk_outside.specs.declared.tables.RecordRow.{RecordRow}
use Rattle.mk_outside.specs.declared.tables.Tables.{Tables}
use Rattle.mk_rows.specs.declared.by_number.Numbered.{Numbered}
use Rattle.mk_library.specs.declared.refusal.LoadRefusal.{LoadRefusal}
use Rattle.mk_library.specs.declared.refusal.LoadRefusal.TheVariants as refusal
use Rattle.mk_library.specs.Edits.{Edit, Load, Replace}
use Rattle.mk_library.specs.FirstRefusal.{FileDemands, HoldsMolecule, IsFirstFileRefusal, IsFirstUnmet}
use Rattle.mk_library.specs.FirstRefusal.{Demand, EditDemands, IsFirstRefusal, IsSaidOf, held_number, kept_limits, molecules as record_molecules, one_record, sdfile, short_file, text_of_edit}
use Rattle.mk_library.specs.Limits.{file_bytes}
use Rattle.mk_library.specs.Records.{IsMoleculeAt, is_held, text_under}
use Rattle.mk_query.proofs.ForCallers.{in_range}
use Rattle.mk_query.proofs.KnownLemmas.{Known, known_as, known_both, known_most}
use Rattle.mk_query.proofs.QueryLemmas.{fits_query}
use Rattle.mk_rgfile.proofs.ForCallers.{query_keeps}
use Rattle.mk_search.specs.Pages.{IsHeldIn}
use Rattle.mk_search.proofs.ForCallers.{keys_listed, paced_pages_there}
use Rattle.mk_expansions.proofs.ListingLemmas.{list_same}
use Rattle.mk_rtable.specs.declared.rows.TableRow.{TableRow}
use Rattle.mk_rtable.specs.Table.{IsRGroupTable}
use Rattle.mk_rtable.specs.Text.{table_text}
use Rattle.mk_enum.proofs.ForCallers.{some_enumeration}
use Rattle.mk_rtable.proofs.ForCallers.{some_table, table_over}
use Rattle.mk_values.proofs.ForCallers.{drill_has_line, edit_is_judged, file_is_judged, list_by, rows_hold, rows_of, taken_first}
use Rattle.mk_words.specs.declared.command.Command.TheVariants as variant
use Rattle.mk_found.specs.declared.files.HeldQuery.{HeldQuery}
use Rattle.mk_found.specs.declared.files.HeldQuery.TheVariants.{Query, Refused}
use Rattle.mk_found.specs.Answers.{bad_line_text, check_text, full_text, long_molecules_text, records_text, v3000_text}
use Rattle.mk_found.specs.Effects.{Answers, Refuses}
use Rattle.mk_found.specs.Effects.{Effect}
use Rattle.mk_found.specs.Files.{IsLong, IsShort, Look}
use Rattle.mk_effects.specs.declared.hit_lines.Stop.{Stop}
use Rattle.mk_effects.specs.declared.hit_lines.Stop.TheVariants as stop
use Rattle.mk_effects.specs.Hits.{AreHitLines, HasParts, HaveParts, IsHitsText, hit_line, stop_line, stop_of, stop_of_paced}
use Rattle.mk_edits.specs.Loading.{NoRecordReplaced, ReplacesHeld}
use Rattle.mk_edits.specs.Loading.{IsEditMade, IsEdited, IsReplace, loaded_text, replaced_text}
use Rattle.mk_effects.specs.Match.{IsMatch, IsRecord1, IsSearchOfFile, ListsKeys, QueryRefused, Searches, TurnOfMolecules, TurnOfQuery}
use Rattle.mk_found.specs.MoleculeFiles.{ComesByFile, GoesByMolecules, IsFileLine, MoleculesRefused, MoleculesTooLong}
use Rattle.mk_query_edits.specs.Queries.{FileIsRefused, Forgets, Keeps, NameIsHeld, NoQueryForgotten, QueriesAreFull, TextsAreFull}
use Rattle.mk_query_edits.specs.Queries.{IsForget, IsFree, IsKeep, forget_changes, full_queries_text, kept_text, name_held_text}
use Rattle.mk_found.specs.Lines.{named_line, no_query_text}
use Rattle.mk_found.specs.QueryFiles.{IsQueryHeldBy}
use Rattle.mk_kept.specs.QueryText.{IsQueryOfText}
use Rattle.mk_edits.specs.Records.{IsRemove, IsShow, list_text, no_record_text, record_text}
use Rattle.mk_found.specs.Lines.{numbered_line}
use Rattle.mk_edits.specs.Records.{NoRecordRemoved, NoRecordShown, Removes, Shows}
use Rattle.mk_kept.specs.Saved.{HasMeaning, HasRoomFor, greatest_number, is_named, longest_place, most_queries, most_query_number, most_search_number, most_searches, most_text_bytes, bytes_of_texts}
use Rattle.mk_kept.specs.Saved.{HasSearchRoom}
use Rattle.mk_effects.specs.Searching.{IsListing, IsResume, IsSearch, full_searches_text, no_search_text}
use Rattle.mk_effects.specs.Structures.{IsEnum, NoQueryEnumerated, WritesStructures, place_line}
use Rattle.mk_rtable.specs.Answer.{IsTableAnswer, NoQueryTabled, WritesRows}
use Rattle.mk_kept.specs.Named.{IsQueryNamed, search_of}
use Rattle.mk_effects.specs.Searching.{ListsAll, ListsRest, MovesPlace, NoQuerySearched, NoSearchResumed, SavesPlace, SearchesAreFull}
use Rattle.mk_session.specs.Step.{Comes, no_command_text}
use Rattle.mk_laws.specs.Values.{CanBeAsked, EachOrderHasEffect, HasItsFile}
use Rattle.mk_effects.proofs.HitLinesLemmas.{have_parts}
use Rattle.mk_effects.proofs.PacedLemmas.{paced_keys}
use Rattle.mk_laws.proofs.TextValueLemmas.{cases_file, some_query_held}

-- ---- lines of hits

some_lines : (query : QueryView) (keys : List (List ℕ)) → HaveParts query keys → (lines : List ℕ) × AreHitLines query keys lines
some_lines query [] have = ([], refl)
some_lines query (key ∷ keys) have =
    let parts = All-head (HasParts query) key keys have in
    let others = some_lines query keys (All-tail (HasParts query) key keys have) in
    let line = hit_line parts.number parts.code parts.hit in
    (line ++ others.0, (line, others.0, record { parts = parts; spelt = refl }, others.1, refl))

some_text : (query : QueryView) (keys : List (List ℕ)) (listed : Stop) → HaveParts query keys → (text : List ℕ) × IsHitsText query keys listed text
some_text query keys listed have =
    let lines = some_lines query keys have in
    (lines.0 ++ stop_line listed, record { lines = lines.0; are_lines = lines.1; whole = refl })

-- ---- queries

-- the query of a text fits
pub text_fits : (text : List ℕ) (query : QueryView) → IsQueryOfText text query → QueryFits query
text_fits text query is =
    let range = in_range is.raw (query_keeps (lines_of text) is.raw is.file) in
    fits_query is.raw range is.passes.in_tables query.templates is.means.templates query.groups is.means.groups is.passes.across

-- a query that is held under a name means something
some_named : (name : List ℕ) (rows : List QueryRow) → AllByRecursion (λ (row : QueryRow). HasMeaning row.text) rows → is_named name rows ≡ true → (query : QueryView) × IsQueryNamed rows name query
some_named name [] all named = absurd (true≢false (sym named))
some_named name (row ∷ rows) all named = by_test (bytes_eq row.name name) refl (λ here. some_named name rows all.1 here)
  where
    by_test : (b : Bool) → bytes_eq row.name name ≡ b → (is_named name rows ≡ true → (query : QueryView) × IsQueryNamed rows name query) → (query : QueryView) × IsQueryNamed (row ∷ rows) name query
    by_test true is others = (all.0.0, record { text = row.text; held = rw is refl; means = all.0.1 })
    by_test false is others = (let later = others (rw is at named) in (later.0, record { text = later.1.text; held = rw is later.1.held; means = later.1.means }))

-- ---- searches

-- what the rows of the records hold is what the records hold, both ways
row_is_at : (records : List RecordRow) (n : ℕ) (mol : Molecule) → IsHeldIn (rows_of records) n mol → IsMoleculeAt records n mol
row_is_at records n mol held = let at = (rows_hold records n mol).0 held in record { text = at.text; held = at.held; is = at.is }

at_is_row : (records : List RecordRow) (n : ℕ) (mol : Molecule) → IsMoleculeAt records n mol → IsHeldIn (rows_of records) n mol
at_is_row records n mol at = (rows_hold records n mol).1 (record { text = at.text; held = at.held; is = at.is })

-- keys that are listed, with their lines
record SomeListing (records : List RecordRow) (query : QueryView) (place : List ℕ) (limit : ℕ) (budget : Option ℕ) (c : ℕ) : Type 0 where
  keys : List (List ℕ)
  stops : Stop
  next : List ℕ
  text : List ℕ
  listing : IsListing records query place limit budget c keys stops next text

-- over the records
some_listing : (records : List RecordRow) (query : QueryView) (place : List ℕ) (limit : ℕ) (budget : Option ℕ) (c : ℕ) → QueryFits query → length place ≤ longest_place
    → SomeListing records query place limit budget c
some_listing records query place limit None c fits few =
    let all = keys_listed (rows_of records) query place fits in
    let listed : IsRisingListOfAll (Remains (IsMoleculeAt records) query place) all.0 =
    list_by (IsHeldIn (rows_of records)) (IsMoleculeAt records) query place all.0 (λ n mol. (row_is_at records n mol, at_is_row records n mol)) all.1 in
    let keys = take limit all.0 in
    let stops = stop_of (nat_lt (length keys) limit) c in
    let first = taken_first limit (Remains (IsMoleculeAt records) query place) all.0 listed in
    let text = some_text query keys stops (have_parts (Remains (IsMoleculeAt records) query place) (IsMoleculeAt records) query limit keys (λ key is. is.0) first) in
    record {
      keys = keys;
      stops = stops;
      next = place_behind place keys;
      text = text.0;
      listing = record { listed = record { first = first; stop = refl; behind = refl }; lines = text.1 };
    }
some_listing records query place limit (Some b) c fits few =
    let some = paced_pages_there (rows_of records) query place limit b 0 fits few in
    let page = some.0 in
    let keys = paced_keys (IsHeldIn (rows_of records)) records query (row_is_at records) (at_is_row records) place limit b c 0 some.1.0 page some.1.1 in
    let stops = stop_of_paced page.stop c in
    let text = some_text query page.hits stops
    (have_parts (Remains (IsMoleculeAt records) query place) (IsMoleculeAt records) query (length page.hits) page.hits (λ key is. is.0) keys.up_to.first) in
    record { keys = page.hits; stops = stops; next = page.place; text = text.0; listing = record { listed = keys; lines = text.1 } }

-- a list ends, or it goes on
ends_or_on : (stops : Stop) → (stops ≡ stop.Ended) ⊎ (stops ≢ stop.Ended)
ends_or_on stop.Ended = inl refl
ends_or_on (stop.More c) = inr (λ e. cc)
ends_or_on (stop.Paused c) = inr (λ e. cc)

known_room : (cursors : List CursorRow) (next : ℕ) → Known (HasSearchRoom cursors next)
known_room cursors next =
    known_as (known_both (known_most (length cursors + 1) most_searches) (known_most next most_search_number))
    (λ both. record { few = omega (arith, both.0); number = both.1 })
    (λ room. (omega (arith, room.few), room.number))

some_search : (t : Tables) (name : List ℕ) (limit : ℕ) (budget : Option ℕ) → CanBeAsked t → (effect : Effect) × IsSearch t name limit budget effect
some_search t name limit budget can = by_name (cases_Bool (is_named name t.queries))
  where
    by_stop : (query : QueryView) → IsQueryNamed t.queries name query → HasSearchRoom t.cursors t.next_cursor
        → (l : SomeListing t.records query [] limit budget t.next_cursor) → (l.stops ≡ stop.Ended) ⊎ (l.stops ≢ stop.Ended) → (effect : Effect) × IsSearch t name limit budget effect
    by_stop query named room l (inl ends) = (
      Answers [] l.text,
      ListsAll query named room l.keys l.next l.text (subst (λ (s : Stop). IsListing t.records query [] limit budget t.next_cursor l.keys s l.next l.text) ends l.listing) refl,
    )
    by_stop query named room l (inr on) =
        (Answers (PutCursor t.next_cursor name l.next ∷ []) l.text, SavesPlace query named room l.keys l.stops l.next l.text l.listing on refl)

    by_room : (query : QueryView) → IsQueryNamed t.queries name query → Known (HasSearchRoom t.cursors t.next_cursor) → (effect : Effect) × IsSearch t name limit budget effect
    by_room query named (inr full) = (Refuses full_searches_text, SearchesAreFull query named full refl)
    by_room query named (inl room) =
        (let l = some_listing t.records query [] limit budget t.next_cursor (text_fits named.text query named.means.is) (omega arith) in
        by_stop query named room l (ends_or_on l.stops))

    by_name : (is_named name t.queries ≡ true) ⊎ (is_named name t.queries ≡ false) → (effect : Effect) × IsSearch t name limit budget effect
    by_name (inl held) = (let named = some_named name t.queries can.queries held in by_room named.0 named.1 (known_room t.cursors t.next_cursor))
    by_name (inr none) = (Refuses (no_query_text name), NoQuerySearched none refl)

-- what holds of each saved search holds of one that is found
pub its_query : (c : ℕ) (P : CursorRow → Type 0) (row : CursorRow) (rows : List CursorRow) → AllByRecursion P rows → search_of c rows ≡ Some row → P row
its_query c P row [] all found = absurd cc
its_query c P row (x ∷ rows) all found =
    cond_both (nat_eq x.number c) (Some x) (search_of c rows) (λ (o : Option CursorRow). o ≡ Some row → P row)
    (λ here. λ same. let is : x ≡ row = cc in subst P is all.0)
    (λ other. λ later. its_query c P row rows all.1 later)
    found

some_resume : (t : Tables) (c limit : ℕ) (budget : Option ℕ) → CanBeAsked t → (effect : Effect) × IsResume t c limit budget effect
some_resume t c limit budget can = by_search (search_of c t.cursors) refl
  where
    by_stop : (row : CursorRow) → search_of c t.cursors ≡ Some row → (query : QueryView) → IsQueryNamed t.queries row.name query
        → (l : SomeListing t.records query row.place limit budget c) → (l.stops ≡ stop.Ended) ⊎ (l.stops ≢ stop.Ended) → (effect : Effect) × IsResume t c limit budget effect
    by_stop row held query named l (inl ends) = (
      Answers (DropCursor c ∷ []) l.text,
      ListsRest row held query named l.keys l.next l.text (subst (λ (s : Stop). IsListing t.records query row.place limit budget c l.keys s l.next l.text) ends l.listing) refl,
    )
    by_stop row held query named l (inr on) =
        (Answers (PutCursor c row.name l.next ∷ []) l.text, MovesPlace row held query named l.keys l.stops l.next l.text l.listing on refl)

    by_search : (found : Option CursorRow) → search_of c t.cursors ≡ found → (effect : Effect) × IsResume t c limit budget effect
    by_search None is = (Refuses (no_search_text c), NoSearchResumed is refl)
    by_search (Some row) is =
        (let named = some_named row.name t.queries can.queries (its_query c (λ (r : CursorRow). is_named r.name t.queries ≡ true) row t.cursors can.cursors is) in
        let few = its_query c (λ (r : CursorRow). length r.place ≤ longest_place) row t.cursors can.short is in
        let l = some_listing t.records named.0 row.place limit budget c (text_fits named.1.text named.0 named.1.means.is) few in
        by_stop row is named.0 named.1 l (ends_or_on l.stops))

-- ---- tables

-- the rows of a query over the records
some_rows : (records : List RecordRow) (query : QueryView) → QueryFits query → (rows : List TableRow) × IsRGroupTable (IsMoleculeAt records) query rows
some_rows records query fits =
    let all = some_table (rows_of records) query fits in (
      all.0,
      table_over (IsHeldIn (rows_of records)) (IsMoleculeAt records) query all.0
          (λ n mol held. (let at = (rows_hold records n mol).0 held in record { text = at.text; held = at.held; is = at.is }))
          (λ n mol at. (rows_hold records n mol).1 (record { text = at.text; held = at.held; is = at.is })) all.1,
    )

some_table_answer : (t : Tables) (name : List ℕ) → CanBeAsked t → (effect : Effect) × IsTableAnswer t name effect
some_table_answer t name can =
    elim (cases_Bool (is_named name t.queries)) [
      | inl held ↦ (let named = some_named name t.queries can.queries held in
          let rows = some_rows t.records named.0 (text_fits named.1.text named.0 named.1.means.is) in
          (Answers [] (table_text named.0 rows.0), WritesRows named.0 named.1 rows.0 rows.1 refl))
      | inr none ↦ (Refuses (no_query_text name), NoQueryTabled none refl)
    ]

-- ---- structures

some_enum : (t : Tables) (name : List ℕ) (limit : ℕ) (from : List ℕ) → CanBeAsked t → (effect : Effect) × IsEnum t.queries name limit from effect
some_enum t name limit from can =
    elim (cases_Bool (is_named name t.queries)) [
      | inl held ↦ (let named = some_named name t.queries can.queries held in
          let found = some_enumeration named.0 from limit (text_fits named.1.text named.0 named.1.means.is) in
          (Answers [] (found.0.text ++ place_line found.0.ended found.0.place), WritesStructures named.0 named.1 found.0 found.1 refl))
      | inr none ↦ (Refuses (no_query_text name), NoQueryEnumerated none refl)
    ]

-- ---- molecules' files

-- want of memory is said of no demand, and of the number alone that it isn't held
no_memory : (text : List ℕ) (demand : Demand) → IsSaidOf text demand refusal.Memory → ⊥
no_memory text held_number says = cc
no_memory text short_file says = cc
no_memory text sdfile says = (let is = says.2 in cc)
no_memory text one_record says = (let is = says.2 in cc)
no_memory text record_molecules says = (let is = says.5 in cc)
no_memory text kept_limits says = cc

number_alone : (text : List ℕ) (demand : Demand) → IsSaidOf text demand refusal.NoRecord → demand ≡ held_number
number_alone text held_number says = refl
number_alone text short_file says = absurd cc
number_alone text sdfile says = absurd (let is = says.2 in cc)
number_alone text one_record says = absurd (let is = says.2 in cc)
number_alone text record_molecules says = absurd (let is = says.5 in cc)
number_alone text kept_limits says = absurd cc

-- what is said of a file has its line
some_line : (Demands : Demand → Type 0) (text : List ℕ) (said : LoadRefusal) → Demands held_number → IsFirstUnmet Demands text said → (line : List ℕ) × IsFileLine said line
some_line Demands text refusal.NoRecord held first = absurd (first.fails (subst Demands (sym (number_alone text first.demand first.says)) held))
some_line Demands text refusal.FileLarge held first = (long_molecules_text, refl)
some_line Demands text (refusal.Layout k v3000) held first = (cond v3000 (v3000_text k) (bad_line_text k), refl)
some_line Demands text (refusal.NotOne count) held first = (records_text count, refl)
some_line Demands text (refusal.Meaning number check item) held first = (check_text number check item, refl)
some_line Demands text refusal.Full held first = (full_text, refl)
some_line Demands text refusal.Memory held first = absurd (no_memory text first.demand first.says)

-- a file that is refused has a line, or there is an effect by its bytes
abbrev IsBytesJudged : (List ℕ → LoadRefusal → Type 0) → (List ℕ → Effect → Type 0) → List ℕ → Type 0
IsBytesJudged First Comes bytes = ((said : LoadRefusal) × (First bytes said × ((line : List ℕ) × IsFileLine said line))) ⊎ ((effect : Effect) × Comes bytes effect)

module _ (look : Look) (name : List ℕ) (First : List ℕ → LoadRefusal → Type 0) (Comes : List ℕ → Effect → Type 0) where
  by_judged : (bytes : List ℕ) → IsShort (Some look) file_bytes name bytes → IsBytesJudged First Comes bytes → (effect : Effect) × ComesByFile (Some look) name First Comes effect
  by_judged bytes read (inl (said, (first, (line, is)))) = (Refuses line, MoleculesRefused bytes read said first line is refl)
  by_judged bytes read (inr (effect, comes)) = (effect, GoesByMolecules bytes read comes)

  by_size : ((bytes : List ℕ) → IsBytesJudged First Comes bytes) → IsLong (Some look) file_bytes name ⊎ ((bytes : List ℕ) × IsShort (Some look) file_bytes name bytes)
      → (effect : Effect) × ComesByFile (Some look) name First Comes effect
  by_size judged (inl long) = (Refuses long_molecules_text, MoleculesTooLong long refl)
  by_size judged (inr (bytes, read)) = by_judged bytes read (judged bytes)

  -- by a molecules' file that is there a command comes to an effect
  some_by_file : ((bytes : List ℕ) → IsBytesJudged First Comes bytes) → IsSome (look name) → (effect : Effect) × ComesByFile (Some look) name First Comes effect
  some_by_file judged there = by_size judged (cases_file look file_bytes name there)

-- ---- match

-- the one molecule under the number 1
one_row : Molecule → List (Numbered Molecule)
one_row mol = record { number = 1; item = mol } ∷ []

row_is : (mol : Molecule) (n : ℕ) (other : Molecule) → IsHeldIn (one_row mol) n other ↔ IsRecord1 mol n other
unfolding one_row
row_is mol n other = (
  λ held. by_test (eqb 1 n) refl held,
  λ is. rw (eq-eqb 1 n (sym is.0)) (ap Some (sym is.1)),
)
  where
    by_test : (b : Bool) → eqb 1 n ≡ b → cond b (Some mol) None ≡ Some other → IsRecord1 mol n other
    by_test true is held = (sym (eqb-true 1 n is), (let same : mol ≡ other = cc in sym same))
    by_test false is held = absurd cc

-- the first keys in one molecule
some_hits : (mol : Molecule) (wanted : QueryView) → QueryFits wanted → (keys : List (List ℕ)) × AreFirst 10000 (IsKey (IsRecord1 mol) wanted) keys
some_hits mol wanted fits =
    let all = keys_listed (one_row mol) wanted [] fits in
    let held = list_by (IsHeldIn (one_row mol)) (IsRecord1 mol) wanted [] all.0 (row_is mol) all.1 in
    let listed : IsRisingListOfAll (IsKey (IsRecord1 mol) wanted) all.0 =
    list_same (Remains (IsRecord1 mol) wanted []) (IsKey (IsRecord1 mol) wanted) all.0 (λ xs is. is.0)
    (λ xs is. (is, λ below. below)) held in
    (take 10000 all.0, taken_first 10000 (IsKey (IsRecord1 mol) wanted) all.0 listed)

-- a file of one record is refused with a line, or the first keys in its molecule are listed
some_list : (wanted : QueryView) → QueryFits wanted → (bytes : List ℕ) → IsBytesJudged IsFirstFileRefusal (ListsKeys wanted) bytes
some_list wanted fits bytes = by_molecule (file_is_judged bytes)
  where
    by_molecule : ((said : LoadRefusal) × IsFirstFileRefusal bytes said) ⊎ ((mol : Molecule) × HoldsMolecule bytes mol) → IsBytesJudged IsFirstFileRefusal (ListsKeys wanted) bytes
    by_molecule (inl (said, first)) = inl (said, (first, some_line (FileDemands bytes) bytes said tt first))
    by_molecule (inr (mol, holds)) =
        (let keys = some_hits mol wanted fits in
        let listed = stop_of (nat_lt (length keys.0) 10000) 0 in
        let text = some_text wanted keys.0 listed (have_parts (IsKey (IsRecord1 mol) wanted) (IsRecord1 mol) wanted 10000 keys.0 (λ key k. k) keys.1) in
        inr (Answers [] text.0, record { mol = mol; held = holds; keys = keys.0; first = keys.1; text = text.0; lines = text.1; answered = refl }))

some_search_of_file : (look : Look) (name : List ℕ) (wanted : QueryView) → QueryFits wanted → IsSome (look name) → (effect : Effect) × IsSearchOfFile wanted (Some look) name effect
some_search_of_file look name wanted fits there = some_by_file look name IsFirstFileRefusal (ListsKeys wanted) (some_list wanted fits) there

some_match : (look : Look) (t : Tables) (query molecules : List ℕ) → HasItsFile look t (Some (variant.Match query molecules)) → (effect : Effect) × IsMatch (Some look) query molecules effect
some_match look t query molecules there = by_held (some_query_held look query (there query (TurnOfQuery refl)))
  where
    by_held : (held : HeldQuery) × IsQueryHeldBy (Some look) query held → (effect : Effect) × IsMatch (Some look) query molecules effect
    by_held (Refused line, is) = (Refuses line, QueryRefused line is refl)
    by_held (Query wanted, is) =
        (let searched = some_search_of_file look molecules wanted (text_fits is.bytes wanted is.is) (there molecules (TurnOfMolecules wanted is refl)) in
        (searched.0, Searches wanted is searched.1))

-- ---- edits

some_edit : (look : Look) (t : Tables) (name : List ℕ) (edit : List ℕ → Edit) (answer : List Change → List ℕ)
    → ((bytes : List ℕ) → EditDemands t.records t.next_record (edit bytes) held_number) → IsSome (look name)
    → (effect : Effect) × IsEdited (Some look) t.records t.next_record name edit answer effect
some_edit look t name edit answer held there =
    some_by_file look name (λ (bytes : List ℕ). IsFirstRefusal t.records t.next_record (edit bytes)) (λ (bytes : List ℕ). IsEditMade t.records t.next_record (edit bytes) answer) judged there
  where
    judged : (bytes : List ℕ) → IsBytesJudged (λ (bs : List ℕ). IsFirstRefusal t.records t.next_record (edit bs)) (λ (bs : List ℕ). IsEditMade t.records t.next_record (edit bs) answer) bytes
    judged bytes =
        elim (edit_is_judged t.records t.next_record (edit bytes)) [
          | inl (said, first) ↦ inl (said, (first, some_line (EditDemands t.records t.next_record (edit bytes)) (text_of_edit (edit bytes)) said (held bytes) first))
          | inr (changes, allowed) ↦ inr (Answers changes (answer changes), record { changes = changes; allowed = allowed; answered = refl })
        ]

some_replace : (look : Look) (t : Tables) (n : ℕ) (name : List ℕ) → HasItsFile look t (Some (variant.Replace n name)) → (effect : Effect) × IsReplace (Some look) t.records t.next_record n name effect
some_replace look t n name there =
    elim (cases_Bool (is_held n t.records)) [
      | inl held ↦ (let edited = some_edit look t name (Replace n) (λ changes. replaced_text n) (λ bytes. held)
          (there name (record { held = held; is = refl })) in (edited.0, ReplacesHeld held edited.1))
      | inr none ↦ (Refuses (no_record_text n), NoRecordReplaced none refl)
    ]

-- ---- query and forget

known_query_room : (rows : List QueryRow) (text : List ℕ) → Known (HasRoomFor rows text)
known_query_room rows text =
    known_as (known_both (known_most (bytes_of_texts rows + length text) most_text_bytes) (known_most (greatest_number rows + 1) most_query_number))
    (λ both. record { bytes = both.0; number = omega (arith, both.1) }) (λ room. (room.bytes, omega (arith, room.number)))

some_keep : (look : Look) (t : Tables) (name file : List ℕ) → HasItsFile look t (Some (variant.Query name file)) → (effect : Effect) × IsKeep (Some look) t.queries name file effect
some_keep look t name file there = by_name (cases_Bool (is_named name t.queries)) (cases_lt (length t.queries) most_queries)
  where
    by_held : IsFree t.queries name → (held : HeldQuery) × IsQueryHeldBy (Some look) file held → (effect : Effect) × IsKeep (Some look) t.queries name file effect
    by_held free (Refused line, is) = (Refuses line, FileIsRefused free line is refl)
    by_held free (Query query, is) =
        elim (known_query_room t.queries (kept_text is.bytes)) [
          | inl room ↦ (Answers (PutQuery (greatest_number t.queries + 1) name (kept_text is.bytes) ∷ []) (named_line (codes "kept ") name), Keeps free query is room refl)
          | inr full ↦ (Refuses full_queries_text, TextsAreFull free query is full refl)
        ]

    by_name : (is_named name t.queries ≡ true) ⊎ (is_named name t.queries ≡ false) → (length t.queries < most_queries) ⊎ (most_queries ≤ length t.queries)
        → (effect : Effect) × IsKeep (Some look) t.queries name file effect
    by_name (inl held) size = (Refuses (name_held_text name), NameIsHeld held refl)
    by_name (inr new) (inr full) = (Refuses full_queries_text, QueriesAreFull new full refl)
    by_name (inr new) (inl few) = (let free : IsFree t.queries name = record { new = new; few = few } in by_held free (some_query_held look file (there file (record { free = free; is = refl }))))

some_forget : (t : Tables) (name : List ℕ) → (effect : Effect) × IsForget t.queries t.cursors name effect
some_forget t name =
    elim (cases_Bool (is_named name t.queries)) [
      | inl held ↦ (Answers (forget_changes name t.cursors) (named_line (codes "forgot ") name), Forgets held refl)
      | inr none ↦ (Refuses (no_query_text name), NoQueryForgotten none refl)
    ]

-- ---- show and remove

-- a record that is held has a text
held_text : (n : ℕ) (records : List RecordRow) → is_held n records ≡ true → (text : List ℕ) × (text_under n records ≡ Some text)
held_text n [] held = absurd (true≢false (sym held))
held_text n (row ∷ records) held = by_test (eqb row.number n) refl (λ here. held_text n records here)
  where
    by_test : (b : Bool) → eqb row.number n ≡ b → (is_held n records ≡ true → (text : List ℕ) × (text_under n records ≡ Some text)) → (text : List ℕ) × (text_under n (row ∷ records) ≡ Some text)
    by_test true is others = (row.text, rw is refl)
    by_test false is others = (let later = others (rw is at held) in (later.0, rw is later.1))

some_show : (t : Tables) (n : ℕ) → (effect : Effect) × IsShow t.records n effect
some_show t n =
    elim (cases_Bool (is_held n t.records)) [
      | inl held ↦ (let text = held_text n t.records held in (Answers [] (record_text n text.0), Shows text.0 text.1 refl))
      | inr none ↦ (Refuses (no_record_text n), NoRecordShown none refl)
    ]

some_remove : (t : Tables) (n : ℕ) → (effect : Effect) × IsRemove t.records n effect
some_remove t n =
    elim (cases_Bool (is_held n t.records)) [
      | inl held ↦ (Answers (DropRecord n ∷ []) (numbered_line (codes "removed ") n), Removes held refl)
      | inr none ↦ (Refuses (no_record_text n), NoRecordRemoved none refl)
    ]

-- ---- all orders

pub some_effect : EachOrderHasEffect
some_effect look t None can there = (Refuses no_command_text, refl)
some_effect look t (Some (variant.Match query molecules)) can there = some_match look t query molecules there
some_effect look t (Some (variant.Load file)) can there = some_edit look t file Load (loaded_text t.next_record) (λ bytes. tt) (there file refl)
some_effect look t (Some (variant.Replace number file)) can there = some_replace look t number file there
some_effect look t (Some (variant.Remove number)) can there = some_remove t number
some_effect look t (Some (variant.Query name file)) can there = some_keep look t name file there
some_effect look t (Some (variant.Forget name)) can there = some_forget t name
some_effect look t (Some (variant.Search name limit budget)) can there = some_search t name limit budget can
some_effect look t (Some (variant.Resume cursor limit budget)) can there = some_resume t cursor limit budget can
some_effect look t (Some (variant.Show number)) can there = some_show t number
some_effect look t (Some (variant.Table name)) can there = some_table_answer t name can
some_effect look t (Some (variant.Enum name limit from)) can there = some_enum t name limit from can
some_effect look t (Some variant.List) can there = (Answers [] (list_text t), refl)
some_effect look t (Some (variant.Drill start count)) can there = (let line = drill_has_line start count in (Answers [] line.0, record { line = line.0; is = line.1; whole = refl }))
