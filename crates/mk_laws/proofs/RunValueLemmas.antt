-- Each run has an outcome, where the files are there whose turn comes.
--     all_read_or_bad     AllReadOrBad
--     some_does           orders done in turn come to effects
--     some_run            EachRunHasOutcome
use Rattle.std.proofs.Common.{◌≡◌, ◌<◌, ◌≤◌, ◌+◌, ℕ, Bool, true, false, List, [], ◌∷◌, ◌++◌, Option, Some, None, append_assoc, refl, sym, ap, subst, ◌∙◌, arith, inl, inr, length, take, drop, zero, suc}
use Rattle.std.specs.Prelude.{◌⊎◌, slice_get}
use Rattle.std.specs.List.{AllByRecursion}
use Rattle.std.proofs.lemmas.List.{length-append, take-append-drop}
use Rattle.std.proofs.lemmas.Option.{slice_get_within}
use Rattle.mk_text.specs.Items.{IsLeastFailing}
use Rattle.mk_text.specs.Lines.{lines_of}
use Rattle.mk_tables.specs.TableFacts.{IsRawTable}
use Rattle.mk_outside.specs.declared.tables.CursorRow.{CursorRow}
use Rattle.mk_outside.specs.declared.tables.QueryRow.{QueryRow}
use Rattle.mk_outside.specs.declared.tables.RecordRow.{RecordRow}
use Rattle.mk_outside.specs.declared.tables.Tables.{Tables}
use Rattle.std.proofs.lemmas.List.Elements.{All-head}
use Rattle.mk_sdfile.specs.declared.raw_record.RawRecord.{RawRecord}
use Rattle.mk_library.specs.Limits.{file_bytes, most_bytes, most_number, most_records}
use Rattle.mk_library.specs.Records.{IsRecordText, text_bytes}
use Rattle.mk_library.specs.StoredRows as library
use Rattle.mk_query.proofs.KnownLemmas.{Known, known_as, known_both, known_bytes, known_most, known_true, least_failing}
use Rattle.mk_rgfile.proofs.KeptQueryLemmas.{kept_stays}
use Rattle.mk_text.specs.KeptLines.{kept_lines}
use Rattle.mk_values.proofs.ForCallers.{filled_molecule, molecule_or_none, read_keeps}
use Rattle.mk_kept.specs.declared.query_text.QueryText.{QueryText}
use Rattle.mk_kept.specs.declared.query_text.QueryText.TheVariants.{Bad, Compiled, Fails, V3000}
use Rattle.mk_kept.specs.declared.stored_rows.RowKind.TheVariants.{Cursors, Queries, Records}
use Rattle.mk_session.specs.declared.status.Status.TheVariants as status
use Rattle.mk_model.specs.Queries.{QueryView}
use Rattle.mk_kept.specs.Names.{is_name}
use Rattle.mk_found.specs.Effects.{Effect, after_effect}
use Rattle.mk_session.specs.Run.{after_effects, status_behind, texts}
use Rattle.mk_found.specs.Files.{Look}
use Rattle.mk_session.specs.Orders.{NoCommand, Order, Orders, TooMuch}
use Rattle.mk_kept.specs.QueryText.{IsTextSaid}
use Rattle.mk_session.specs.Run.{BadStore, Commands, Does, HasItsFiles, NotUnderstood, OneLine, ScriptLong, bad_store_text, not_understood_text, script_long_text}
use Rattle.mk_kept.specs.Saved.{HasMeaning, bytes_of_texts, is_named, longest_place, most_queries, most_query_bytes, most_searches, most_text_bytes}
use Rattle.mk_kept.specs.StoredRows.{AllRead, EachReads, IsFirstBadRow, ReadsCursor, ReadsQuery}
use Rattle.mk_kept.specs.StoredRows.{BadCursor, BadQuery, BadRecord}
use Rattle.mk_laws.specs.Values.{AllReadOrBad, CanBeAsked, EachRunHasOutcome}
use Rattle.mk_laws.proofs.EffectValueLemmas.{some_effect}
use Rattle.mk_kept.proofs.KeptRowsLemmas.{all_of_each}
use Rattle.mk_laws.proofs.KeptValueLemmas.{effect_keeps}
use Rattle.mk_kept.proofs.OneQueryLemmas.{HasQueryLaws, one_said}
use Rattle.mk_laws.proofs.TextValueLemmas.{some_said}

-- ---- rows

known_below : (m n : ℕ) → Known (m < n)
known_below m n = known_as (known_most (m + 1) n) (λ most. omega (arith, most)) (λ below. omega (arith, below))

-- whether something holds of each row
known_each : {R : Type 0} (P : R → Type 0) → ((row : R) → Known (P row)) → (rows : List R) → Known (AllByRecursion P rows)
known_each P each [] = inl tt
known_each P each (row ∷ rows) = known_both (each row) (known_each P each rows)

-- ---- records

known_record_text : (text : List ℕ) → Known (IsRecordText text)
known_record_text text =
    known_as (molecule_or_none text) (λ found. found.1.is)
    (λ is.
    let kept = All-head (λ (r : RawRecord). IsRawTable r.table) is.raw [] (read_keeps (lines_of text) (is.raw ∷ []) is.read) in
    let made = filled_molecule is.raw.table kept.few_atoms kept.few_bonds is.passes in
    (made.0, record { is = is; filled = made.1.filled; kept = made.1.kept }))

known_place : (next : ℕ) (before : List RecordRow) (row : RecordRow) → Known (library.HasPlace next before row)
known_place next before row =
    known_as
    (known_both (known_most 1 row.number) (known_both (known_most row.number most_number)
    (known_both (known_each (λ (earlier : RecordRow). earlier.number < row.number)
    (λ earlier. known_below earlier.number row.number) before)
    (known_both (known_below row.number next) (known_both (known_below (length before) most_records)
    (known_both (known_most (text_bytes before + length row.text) most_bytes)
    (known_most (length row.text) (file_bytes + 1))))))))
    (λ all. record { least = all.0; most = all.1.0; above = all.1.1.0; below_next = all.1.1.1.0; few = all.1.1.1.1.0; bytes = all.1.1.1.1.1.0; short = all.1.1.1.1.1.1 })
    (λ is. (is.least, (is.most, (is.above, (is.below_next, (is.few, (is.bytes, is.short)))))))

known_reads : (next : ℕ) (before : List RecordRow) (row : RecordRow) → Known (library.Reads next before row)
known_reads next before row = known_as (known_both (known_place next before row) (known_record_text row.text)) (λ both. record { place = both.0; text = both.1 }) (λ reads. (reads.place, reads.text))

-- the record at a place reads
ReadsAt : ℕ → List RecordRow → ℕ → Type 0
ReadsAt next rows place = (row : RecordRow) → slice_get rows place ≡ Some row → library.Reads next (take place rows) row

known_reads_at : (next : ℕ) (rows : List RecordRow) (place : ℕ) → Known (ReadsAt next rows place)
unfolding ReadsAt
known_reads_at next rows place = by_row (slice_get rows place) refl
  where
    by_row : (found : Option RecordRow) → slice_get rows place ≡ found → Known ((row : RecordRow) → slice_get rows place ≡ Some row → library.Reads next (take place rows) row)
    by_row None is = inl (λ row at. absurd (let none = sym is ∙ at in cc))
    by_row (Some row) is =
        known_as (known_reads next (take place rows) row)
        (λ reads other at. let one : Some row ≡ Some other = sym is ∙ at in let same : row ≡ other = cc in subst (library.Reads next (take place rows)) same reads) (λ all. all row is)

records_read_or_bad : (next : ℕ) (rows : List RecordRow) → library.AllRead next rows ⊎ ((number : ℕ) × library.IsFirstBad next rows number)
unfolding ReadsAt
records_read_or_bad next rows =
    elim (least_failing (ReadsAt next rows) (known_reads_at next rows) (length rows)
    (λ before place past row at. absurd (let within = slice_get_within rows place row at
    in omega (arith, within, past)))) [
      | inl all ↦ inl (λ place row at. all place row at)
      | inr found ↦ inr (bad_at found.0 found.1 (slice_get rows found.0) refl)
    ]
  where
    bad_at : (place : ℕ) → IsLeastFailing (ReadsAt next rows) place → (found : Option RecordRow) → slice_get rows place ≡ found → (number : ℕ) × library.IsFirstBad next rows number
    bad_at place least None is = absurd (least.fails (λ row at. absurd (let none = sym is ∙ at in cc)))
    bad_at place least (Some row) is = (
      row.number,
      record {
        place = place;
        row = row;
        there = is;
        numbered = refl;
        before = λ earlier other below at. least.lower earlier below other at;
        fails = λ reads. least.fails (λ other at. let one : Some row ≡ Some other = sym is ∙ at in let same : row ≡ other = cc in subst (library.Reads next (take place rows)) same reads);
      },
    )

-- ---- rows that read behind those before them

module _ {R : Type 0} where
  -- the row behind some others
  at_front : (front others : List R) (row : R) → slice_get (front ++ row ∷ others) (length front) ≡ Some row
  at_front [] others row = refl
  at_front (x ∷ front) others row = at_front front others row

  take_front : (front rest : List R) → take (length front) (front ++ rest) ≡ front
  take_front [] rest = refl
  take_front (x ∷ front) rest = ap (λ (xs : List R). x ∷ xs) (take_front front rest)

  -- a row at a place has those before it, and others behind it
  cut_at : (rows : List R) (k : ℕ) (row : R) → slice_get rows k ≡ Some row → rows ≡ take k rows ++ row ∷ drop (suc k) rows
  cut_at [] k row at = absurd cc
  cut_at (x ∷ rows) zero row at = let same : x ≡ row = cc in ap (λ (y : R). y ∷ rows) same
  cut_at (x ∷ rows) (suc k) row at = ap (λ (xs : List R). x ∷ xs) (cut_at rows k row at)

  few_taken : (k : ℕ) (rows : List R) → length (take k rows) ≤ k
  few_taken zero rows = omega arith
  few_taken (suc k) [] = omega arith
  few_taken (suc k) (x ∷ rows) = let few = few_taken k rows in omega (arith, few)

module _ {R : Type 0} (Reads : List R → R → Type 0) (known : (front : List R) (row : R) → Known (Reads front row)) where
  -- the row at a place reads
  ReadsThere : List R → ℕ → Type 0
  ReadsThere rows k = (row : R) → slice_get rows k ≡ Some row → Reads (take k rows) row

  known_there : (rows : List R) (k : ℕ) → Known (ReadsThere rows k)
  unfolding ReadsThere
  known_there rows k = by_row (slice_get rows k) refl
    where
      by_row : (found : Option R) → slice_get rows k ≡ found → Known ((row : R) → slice_get rows k ≡ Some row → Reads (take k rows) row)
      by_row None is = inl (λ row at. absurd (let none = sym is ∙ at in cc))
      by_row (Some row) is =
          known_as (known (take k rows) row)
          (λ reads other at. let one : Some row ≡ Some other = sym is ∙ at in let same : row ≡ other = cc in subst (Reads (take k rows)) same reads) (λ all. all row is)

  -- a row reads behind those before it where it does so at its place
  by_place : (rows front others : List R) (row : R) → rows ≡ front ++ row ∷ others → ReadsThere rows (length front) → Reads front row
  unfolding ReadsThere
  by_place rows front others row whole reads =
      let at : slice_get rows (length front) ≡ Some row = ap (λ (rs : List R). slice_get rs (length front)) whole ∙ at_front front others row in
      let taken : take (length front) rows ≡ front = ap (take (length front)) whole ∙ take_front front (row ∷ others) in
      subst (λ (f : List R). Reads f row) taken (reads row at)

  first_bad : (rows : List R) (k : ℕ) → IsLeastFailing (ReadsThere rows) k → (found : Option R) → slice_get rows k ≡ found → (row : R) × IsFirstBadRow Reads rows row
  unfolding ReadsThere
  first_bad rows k least None is = absurd (least.fails (λ row at. absurd (let none = sym is ∙ at in cc)))
  first_bad rows k least (Some row) is = (
    row,
    record {
      front = take k rows;
      others = drop (suc k) rows;
      whole = cut_at rows k row is;
      before = λ front other later whole.
          let all : rows ≡ front ++ other ∷ (later ++ drop k rows) = sym (take-append-drop k rows) ∙ ap (λ (rs : List R). rs ++ drop k rows) whole ∙ append_assoc front (other ∷ later) (drop k rows) in
          let short : length front < k = omega (arith, few_taken k rows, ap length whole, length-append front (other ∷ later)) in
          by_place rows front (later ++ drop k rows) other all (least.lower (length front) short);
      bad = λ reads. least.fails (λ other at. let one : Some row ≡ Some other = sym is ∙ at in let same : row ≡ other = cc in subst (Reads (take k rows)) same reads);
    },
  )

  -- each row reads, or there is a first that doesn't
  each_or_bad : (rows : List R) → EachReads Reads rows ⊎ ((row : R) × IsFirstBadRow Reads rows row)
  unfolding ReadsThere
  each_or_bad rows =
      elim (least_failing (ReadsThere rows) (known_there rows) (length rows) (λ before k past row at. absurd (let within = slice_get_within rows k row at in omega (arith, within, past)))) [
        | inl all ↦ inl (λ front row others whole. by_place rows front others row whole (all (length front)))
        | inr found ↦ inr (first_bad rows found.0 found.1 (slice_get rows found.0) refl)
      ]

-- ---- queries and saved searches

-- whether a text is a query
known_meaning : HasQueryLaws → (text : List ℕ) → Known (HasMeaning text)
known_meaning laws text = by_said (some_said text)
  where
    -- where something else is said of the text, it isn't
    other_said : (said : QueryText) → IsTextSaid text said → ((query : QueryView) → said ≡ Compiled query → ⊥) → Known (HasMeaning text)
    other_said said is none = inr (λ meant. none meant.0 (one_said laws text said (Compiled meant.0) is meant.1.is))

    by_said : (said : QueryText) × IsTextSaid text said → Known (HasMeaning text)
    by_said (Compiled query, is) =
        known_as (known_bytes (kept_lines (lines_of text)) text) (λ same. (query, record { kept = (kept_stays text).1 same; is = is })) (λ meant. (kept_stays text).0 meant.1.kept)
    by_said (Bad k, is) = other_said (Bad k) is (λ query same. cc)
    by_said (V3000 k, is) = other_said (V3000 k) is (λ query same. cc)
    by_said (Fails check table item, is) = other_said (Fails check table item) is (λ query same. cc)

known_query : HasQueryLaws → (front : List QueryRow) (row : QueryRow) → Known (ReadsQuery front row)
known_query laws front row =
    known_as
    (known_both (known_both (known_most 1 row.number) (known_both (known_each (λ (before : QueryRow). before.number < row.number) (λ before. known_below before.number row.number) front)
    (known_both (known_true (is_name row.name)) (known_both (known_false (is_named row.name front)) (known_both (known_below (length front) most_queries)
    (known_both (known_most (bytes_of_texts front + length row.text) most_text_bytes) (known_most (length row.text) most_query_bytes))))))) (known_meaning laws row.text))
    (λ all. record {
      place = record { number = all.0.0; above = all.0.1.0; name = all.0.1.1.0; new = all.0.1.1.1.0; few = all.0.1.1.1.1.0; bytes = all.0.1.1.1.1.1.0; short = all.0.1.1.1.1.1.1 };
      text = all.1;
    })
    (λ reads. let is = reads.place in ((is.number, (is.above, (is.name, (is.new, (is.few, (is.bytes, is.short)))))), reads.text))
  where
    known_false : (b : Bool) → Known (b ≡ false)
    known_false true = inr (λ same. cc)
    known_false false = inl refl

known_cursor : (queries : List QueryRow) (next : ℕ) (front : List CursorRow) (row : CursorRow) → Known (ReadsCursor queries next front row)
known_cursor queries next front row =
    known_as
    (known_both (known_both (known_most 1 row.number) (known_most row.number 999999999))
    (known_both (known_each (λ (before : CursorRow). before.number < row.number)
    (λ before. known_below before.number row.number) front)
    (known_both (known_below row.number next) (known_both (known_true (is_named row.name queries))
    (known_both (known_below (length front) most_searches) (known_most (length row.place) longest_place))))))
    (λ all. record { number = all.0; above = all.1.0; below = all.1.1.0; name = all.1.1.1.0; few = all.1.1.1.1.0; short = all.1.1.1.1.1 })
    (λ reads. (reads.number, (reads.above, (reads.below, (reads.name, (reads.few, reads.short))))))

pub all_read_or_bad : HasQueryLaws → AllReadOrBad
all_read_or_bad laws t =
    elim (records_read_or_bad t.next_record t.records) [
      | inr bad ↦ inr (Records, (bad.0, BadRecord bad.1 refl))
      | inl records ↦ elim (each_or_bad ReadsQuery (known_query laws) t.queries) [
        | inr bad ↦ inr (Queries, (bad.0.number, BadQuery records bad.0 bad.1 refl refl))
        | inl queries ↦ elim (each_or_bad (ReadsCursor t.queries t.next_cursor) (known_cursor t.queries t.next_cursor) t.cursors) [
          | inr bad ↦ inr (Cursors, (bad.0.number, BadCursor records queries bad.0 bad.1 refl refl))
          | inl cursors ↦ inl (record { records = records; queries = queries; cursors = cursors })
        ]
      ]
    ]

-- ---- runs

-- tables that read can be asked
can_be_asked : (t : Tables) → AllRead t → CanBeAsked t
can_be_asked t reads = record {
  queries = all_of_each ReadsQuery (λ (row : QueryRow). HasMeaning row.text) (λ front row is. is.text) t.queries reads.queries;
  cursors = all_of_each (ReadsCursor t.queries t.next_cursor) (λ (row : CursorRow). is_named row.name t.queries ≡ true) (λ front row is. is.name) t.cursors reads.cursors;
  short = all_of_each (ReadsCursor t.queries t.next_cursor) (λ (row : CursorRow). length row.place ≤ longest_place) (λ front row is. is.short) t.cursors reads.cursors;
}

-- orders done in turn come to effects
some_does : (look : Look) (t : Tables) (orders : List Order) → CanBeAsked t → HasItsFiles (Some look) t orders → (effects : List Effect) × Does (Some look) t orders effects
some_does look t [] can there = ([], refl)
some_does look t (order ∷ orders) can there =
    let first = some_effect look t order can (λ name reaches. there order orders [] (record { done = []; whole = refl; does = refl }) name reaches) in
    let rest = some_does look (after_effect first.0 t) orders (effect_keeps look t order first.0 first.1 can)
    (λ next others effects after name reaches.
    there next others (first.0 ∷ effects) (record { done = order ∷ after.done; whole = ap (λ (os : List Order). order ∷ os) after.whole; does = (first.1, after.does) }) name reaches) in
    (first.0 ∷ rest.0, (first.1, rest.1))

pub some_run : HasQueryLaws → EachRunHasOutcome
some_run laws look t NoCommand there = (not_understood_text, t, status.Words, OneLine (NotUnderstood refl refl refl) refl)
some_run laws look t TooMuch there = (script_long_text, t, status.ScriptLong, OneLine (ScriptLong refl refl refl) refl)
some_run laws look t (Orders orders) there =
    elim (all_read_or_bad laws t) [
      | inr bad ↦ (bad_store_text bad.0 bad.1.0, t, status.BadStore, OneLine (BadStore orders refl bad.0 bad.1.0 bad.1.1 refl refl) refl)
      | inl reads ↦ (let does = some_does look t orders (can_be_asked t reads) there in
          (texts does.0, after_effects does.0 t, status_behind does.0, Commands orders refl reads does.0 does.1 refl refl refl))
    ]
