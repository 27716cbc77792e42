-- Tables that read after a change of their queries or saved searches.
--     put_query_goes_on, drop_query_goes_on       a query is kept, or dropped
--     new_cursor_goes_on, later_cursor_goes_on, drop_cursor_goes_on       a saved search is new, goes on, or is dropped
use Rattle.std.proofs.Common.{◌≡◌, ℕ, ◌+◌, ◌<◌, ◌≤◌, max, Bool, true, false, not, ◌||◌, List, [], ◌∷◌, ◌++◌, length, map, filter, bytes_eq, nat_eq, refl, sym, ◌∙◌, subst, arith}
use Rattle.std.specs.List.{AllByRecursion, list_any}
use Rattle.std.proofs.lemmas.Bool.{cond_both}
use Rattle.std.proofs.lemmas.Grind.{common_steps}
use Rattle.std.proofs.lemmas.Slice.Eq.{bytes_eq-Decides}
use Rattle.mk_outside.specs.declared.tables.Change.TheVariants.{PutQuery, DropQuery, PutCursor, DropCursor}
use Rattle.mk_outside.specs.declared.tables.CursorRow.{CursorRow}
use Rattle.mk_outside.specs.declared.tables.QueryRow.{QueryRow}
use Rattle.mk_outside.specs.declared.tables.Tables.{Tables}
use Rattle.mk_outside.specs.Rows.{in_place, put}
use Rattle.mk_outside.specs.Rows as outside
use Rattle.mk_outside.specs.Tables.{after_change, cursor_number, query_number, without_name}
use Rattle.mk_kept.specs.Names.{IsHeldNumber}
use Rattle.mk_kept.specs.StoredRows.{CanGoOn, EachReads, ReadsCursor, ReadsQuery}
use Rattle.mk_kept.specs.Saved.{bytes_of_texts, is_named, is_waiting, longest_place, most_searches}
use Rattle.mk_kept.proofs.KeptRowsLemmas.{all_of_each, each_for, filter_reads, replaced_reads}
use Rattle.mk_kept.proofs.SavedLemmas.{named_push, or_both_false, or_left_false, or_left_true, or_right_false, put_behind, same_names}
use Rattle.mk_kept.proofs.StoredRowsLemmas.{read_more}

-- ---- queries

-- with a query more, each saved search still has its query
still_named : (queries later : List QueryRow) (next : ℕ) (cursors : List CursorRow)
    → ((row : CursorRow) (before others : List CursorRow) → cursors ≡ before ++ row ∷ others
    → is_named row.name queries ≡ true → is_named row.name later ≡ true)
    → EachReads (ReadsCursor queries next) cursors → EachReads (ReadsCursor later next) cursors
still_named queries later next cursors still each =
    each_for (ReadsCursor queries next) (ReadsCursor later next) cursors
    (λ front row others whole reads. record { number = reads.number; above = reads.above; below = reads.below; name = still row front others whole reads.name; few = reads.few; short = reads.short })
    each

pub put_query_goes_on : (t : Tables) (row : QueryRow) → CanGoOn t → ReadsQuery t.queries row → CanGoOn (after_change (PutQuery row.number row.name row.text) t)
put_query_goes_on t row go reads =
    let behind : put query_number row t.queries ≡ t.queries ++ row ∷ [] = put_behind query_number row t.queries reads.place.above in
    record {
      reads = record {
        records = go.reads.records;
        queries = subst (EachReads ReadsQuery) (sym behind) (read_more ReadsQuery t.queries row go.reads.queries reads);
        cursors = subst (λ (qs : List QueryRow). EachReads (ReadsCursor qs t.next_cursor) t.cursors) (sym behind)
            (still_named t.queries (t.queries ++ row ∷ []) t.next_cursor t.cursors
            (λ c before others whole named. named_push c.name t.queries row ∙ or_left_true (is_named c.name t.queries) (bytes_eq row.name c.name) named) go.reads.cursors);
      };
      record_number = go.record_number;
      cursor_number = go.cursor_number;
    }

-- what holds of each row holds of each that is left
all_left : {R : Type 0} (P : R → Type 0) (stays : R → Bool) (rows : List R) → AllByRecursion P rows → AllByRecursion P (filter stays rows)
all_left P stays [] all = tt
all_left P stays (x ∷ rows) all =
    cond_both (stays x) (x ∷ filter stays rows) (filter stays rows) (AllByRecursion P) (λ _. (all.0, all_left P stays rows all.1)) (λ _. all_left P stays rows all.1)

fewer_left : {R : Type 0} (stays : R → Bool) (rows : List R) → length (filter stays rows) ≤ length rows
fewer_left stays [] = omega arith
fewer_left stays (x ∷ rows) =
    let rest = fewer_left stays rows in
    cond_both (stays x) (x ∷ filter stays rows) (filter stays rows) (λ left. length left ≤ length (x ∷ rows)) (λ _. omega (arith, rest)) (λ _. omega (arith, rest))

bytes_left : (stays : QueryRow → Bool) (rows : List QueryRow) → bytes_of_texts (filter stays rows) ≤ bytes_of_texts rows
bytes_left stays [] = omega arith
bytes_left stays (x ∷ rows) =
    let rest = bytes_left stays rows in
    cond_both (stays x) (x ∷ filter stays rows) (filter stays rows) (λ left. bytes_of_texts left ≤ bytes_of_texts (x ∷ rows)) (λ _. omega (arith, rest)) (λ _. omega (arith, rest))

new_left : (name : List ℕ) (stays : QueryRow → Bool) (rows : List QueryRow) → is_named name rows ≡ false → is_named name (filter stays rows) ≡ false
new_left name stays [] new = refl
new_left name stays (x ∷ rows) new =
    let here = or_left_false (bytes_eq x.name name) (is_named name rows) new in
    let later = new_left name stays rows (or_right_false (bytes_eq x.name name) (is_named name rows) new) in
    cond_both (stays x) (x ∷ filter stays rows) (filter stays rows) (λ left. is_named name left ≡ false)
    (λ _. or_both_false (bytes_eq x.name name) (is_named name (filter stays rows)) here later) (λ _. later)

-- a query reads with fewer before it
query_left : (stays : QueryRow → Bool) (front : List QueryRow) (row : QueryRow) → ReadsQuery front row → ReadsQuery (filter stays front) row
query_left stays front row reads = record {
  place = record {
    number = reads.place.number;
    above = all_left (λ (before : QueryRow). before.number < row.number) stays front reads.place.above;
    name = reads.place.name;
    new = new_left row.name stays front reads.place.new;
    few = let fewer = fewer_left stays front in omega (arith, fewer, reads.place.few);
    bytes = let fewer = bytes_left stays front in omega (arith, fewer, reads.place.bytes);
    short = reads.place.short;
  };
  text = reads.text;
}

or_rest : (a b c : Bool) → (b ≡ true → c ≡ true) → (a || b) ≡ true → (a || c) ≡ true
or_rest true b c later is = refl
or_rest false b c later is = later is

or_only : (a b : Bool) → a ≡ false → (a || b) ≡ true → b ≡ true
or_only true b none is = cc
or_only false b none is = is

not_false : (a : Bool) → not a ≡ false → a ≡ true
not_false true is = refl
not_false false is = cc

-- another name is still that of a query
other_left : (name other : List ℕ) (rows : List QueryRow) → bytes_eq other name ≡ false → is_named other rows ≡ true → is_named other (without_name name rows) ≡ true
unfolding without_name
other_left name other [] differs named = cc
other_left name other (x ∷ rows) differs named =
    cond_both (not (bytes_eq x.name name)) (x ∷ filter (λ (row : QueryRow). not (bytes_eq row.name name)) rows)
    (filter (λ (row : QueryRow). not (bytes_eq row.name name)) rows) (λ left. is_named other left ≡ true)
    (λ _. or_rest (bytes_eq x.name other) (is_named other rows) (is_named other (filter (λ (row : QueryRow). not (bytes_eq row.name name)) rows)) (other_left name other rows differs) named)
    (λ gone.
    let same : x.name ≡ name = (bytes_eq-Decides x.name name).0 (not_false (bytes_eq x.name name) gone) in
    let away : bytes_eq x.name other ≡ false = subst (λ (m : List ℕ). bytes_eq m other ≡ false) (sym same) (same_names name other ∙ differs) in
    other_left name other rows differs (or_only (bytes_eq x.name other) (is_named other rows) away named))

-- a name that no saved search has is that of none of them
not_waiting : (name : List ℕ) (before others : List CursorRow) (row : CursorRow) (cursors : List CursorRow)
    → cursors ≡ before ++ row ∷ others → is_waiting name cursors ≡ false → bytes_eq row.name name ≡ false
not_waiting name [] others row cursors whole none = or_left_false (bytes_eq row.name name) (is_waiting name others) (subst (λ (cs : List CursorRow). is_waiting name cs ≡ false) whole none)
not_waiting name (x ∷ before) others row cursors whole none =
    not_waiting name before others row (before ++ row ∷ others) refl
    (or_right_false (bytes_eq x.name name) (is_waiting name (before ++ row ∷ others))
    (subst (λ (cs : List CursorRow). is_waiting name cs ≡ false) whole none))

queries_left : (name : List ℕ) (rows : List QueryRow) → EachReads ReadsQuery rows → EachReads ReadsQuery (without_name name rows)
unfolding without_name
queries_left name rows each = filter_reads (λ (row : QueryRow). not (bytes_eq row.name name)) ReadsQuery (query_left (λ (row : QueryRow). not (bytes_eq row.name name))) rows each

pub drop_query_goes_on : (t : Tables) (name : List ℕ) → CanGoOn t → is_waiting name t.cursors ≡ false → CanGoOn (after_change (DropQuery name) t)
drop_query_goes_on t name go none = record {
  reads = record {
    records = go.reads.records;
    queries = queries_left name t.queries go.reads.queries;
    cursors = still_named t.queries (without_name name t.queries) t.next_cursor t.cursors
        (λ c before others whole named. other_left name c.name t.queries (not_waiting name before others c t.cursors whole none) named) go.reads.cursors;
  };
  record_number = go.record_number;
  cursor_number = go.cursor_number;
}

-- ---- saved searches

-- a saved search reads with fewer before it
cursor_left : (queries : List QueryRow) (next : ℕ) (stays : CursorRow → Bool) (front : List CursorRow) (row : CursorRow)
    → ReadsCursor queries next front row → ReadsCursor queries next (filter stays front) row
cursor_left queries next stays front row reads = record {
  number = reads.number;
  above = all_left (λ (before : CursorRow). before.number < row.number) stays front reads.above;
  below = reads.below;
  name = reads.name;
  few = let fewer = fewer_left stays front in omega (arith, fewer, reads.few);
  short = reads.short;
}

cursors_left : (queries : List QueryRow) (next n : ℕ) (rows : List CursorRow) → EachReads (ReadsCursor queries next) rows → EachReads (ReadsCursor queries next) (outside.without cursor_number n rows)
unfolding outside.without
cursors_left queries next n rows each =
    filter_reads (λ x. not (nat_eq (cursor_number x) n)) (ReadsCursor queries next) (cursor_left queries next (λ x. not (nat_eq (cursor_number x) n))) rows each

pub drop_cursor_goes_on : (t : Tables) (n : ℕ) → CanGoOn t → CanGoOn (after_change (DropCursor n) t)
drop_cursor_goes_on t n go = record {
  reads = record { records = go.reads.records; queries = go.reads.queries; cursors = cursors_left t.queries t.next_cursor n t.cursors go.reads.cursors };
  record_number = go.record_number;
  cursor_number = go.cursor_number;
}

-- with a greater next number each still reads
cursors_below : (queries : List QueryRow) (m n : ℕ) (rows : List CursorRow) → m ≤ n → EachReads (ReadsCursor queries m) rows → EachReads (ReadsCursor queries n) rows
cursors_below queries m n rows le each =
    each_for (ReadsCursor queries m) (ReadsCursor queries n) rows
    (λ front row others whole reads. record { number = reads.number; above = reads.above; below = omega (arith, reads.below, le); name = reads.name; few = reads.few; short = reads.short })
    each

-- A saved search that is new takes the next number. Its query is held, there are fewer than 1,000, and its place is short.
pub new_cursor_goes_on : (t : Tables) (name place : List ℕ) → CanGoOn t → t.next_cursor ≤ 999999999 → is_named name t.queries ≡ true → length t.cursors < most_searches → length place ≤ longest_place
    → CanGoOn (after_change (PutCursor t.next_cursor name place) t)
new_cursor_goes_on t name place go known named few short =
    let row : CursorRow = record { number = t.next_cursor; name = name; place = place } in
    let below : AllByRecursion (λ (before : CursorRow). before.number < t.next_cursor) t.cursors =
    all_of_each (ReadsCursor t.queries t.next_cursor) (λ (before : CursorRow). before.number < t.next_cursor) (λ front before reads. reads.below) t.cursors go.reads.cursors in
    let next : max t.next_cursor (t.next_cursor + 1) ≡ t.next_cursor + 1 = omega arith in
    let behind : put cursor_number row t.cursors ≡ t.cursors ++ row ∷ [] = put_behind cursor_number row t.cursors below in
    record {
      reads = record {
        records = go.reads.records;
        queries = go.reads.queries;
        cursors = subst (λ n. EachReads (ReadsCursor t.queries n) (put cursor_number row t.cursors)) (sym next)
            (subst (EachReads (ReadsCursor t.queries (t.next_cursor + 1))) (sym behind)
            (read_more (ReadsCursor t.queries (t.next_cursor + 1)) t.cursors row
            (cursors_below t.queries t.next_cursor (t.next_cursor + 1) t.cursors (omega arith) go.reads.cursors)
            (record { number = (go.cursor_number, known); above = below; below = omega arith; name = named; few = few; short = short })));
      };
      record_number = go.record_number;
      cursor_number = omega (arith, go.cursor_number);
    }

above_numbers : (n : ℕ) (front before : List CursorRow) → map cursor_number front ≡ map cursor_number before
    → AllByRecursion (λ (row : CursorRow). row.number < n) before
    → AllByRecursion (λ (row : CursorRow). row.number < n) front
above_numbers n [] before same all = tt
above_numbers n (x ∷ front) [] same all = absurd cc
above_numbers n (x ∷ front) (y ∷ before) same all =
    let here : x.number ≡ y.number = cc in
    let rest : map cursor_number front ≡ map cursor_number before = cc in
    (omega (arith, here, all.0), above_numbers n front before rest all.1)

same_length : (front before : List CursorRow) → map cursor_number front ≡ map cursor_number before → length front ≡ length before
same_length [] [] same = refl
same_length [] (y ∷ before) same = absurd cc
same_length (x ∷ front) [] same = absurd cc
same_length (x ∷ front) (y ∷ before) same = let rest : map cursor_number front ≡ map cursor_number before = cc in let sizes = same_length front before rest in omega (arith, sizes)

cursor_by_numbers : (queries : List QueryRow) (next : ℕ) (front before : List CursorRow) (row : CursorRow)
    → map cursor_number front ≡ map cursor_number before → ReadsCursor queries next before row
    → ReadsCursor queries next front row
cursor_by_numbers queries next front before row same reads = record {
  number = reads.number;
  above = above_numbers row.number front before same reads.above;
  below = reads.below;
  name = reads.name;
  few = let size = same_length front before same in omega (arith, size, reads.few);
  short = reads.short;
}

held_below : (n next : ℕ) (rows : List CursorRow) → AllByRecursion (λ (row : CursorRow). row.number < next) rows → list_any (λ (row : CursorRow). nat_eq row.number n) rows ≡ true → n < next
held_below n next [] all held = cc
held_below n next (x ∷ rows) all held =
    let less : x.number < next = all.0 in
    cond_both (nat_eq x.number n) true (list_any (λ (row : CursorRow). nat_eq row.number n) rows) (λ b. b ≡ true → n < next)
    (λ e. λ _. grind (arith, common_steps, less, e)) (λ _. λ later. held_below n next rows all.1 later)
    (grind (arith, common_steps, held))

put_held_cursor : (row : CursorRow) (rows : List CursorRow) → list_any (λ (x : CursorRow). nat_eq x.number row.number) rows ≡ true → put cursor_number row rows ≡ in_place cursor_number row rows
unfolding put
put_held_cursor row rows held = rw held refl

-- A saved search that goes on keeps its number. Its query is held, and its place is short.
pub later_cursor_goes_on : (t : Tables) (n : ℕ) (name place : List ℕ) → CanGoOn t
    → list_any (λ (row : CursorRow). nat_eq row.number n) t.cursors ≡ true → is_named name t.queries ≡ true
    → length place ≤ longest_place
    → CanGoOn (after_change (PutCursor n name place) t)
later_cursor_goes_on t n name place go held named short =
    let row : CursorRow = record { number = n; name = name; place = place } in
    let below : AllByRecursion (λ (before : CursorRow). before.number < t.next_cursor) t.cursors =
    all_of_each (ReadsCursor t.queries t.next_cursor) (λ (before : CursorRow). before.number < t.next_cursor) (λ front before reads. reads.below) t.cursors go.reads.cursors in
    let less : n < t.next_cursor = held_below n t.next_cursor t.cursors below held in
    let still : t.next_cursor ≡ max t.next_cursor (n + 1) = omega (arith, less) in
    let replaced : in_place cursor_number row t.cursors ≡ put cursor_number row t.cursors = sym (put_held_cursor row t.cursors held) in
    record {
      reads = record {
        records = go.reads.records;
        queries = go.reads.queries;
        cursors = subst (λ m. EachReads (ReadsCursor t.queries m) (put cursor_number row t.cursors)) still
            (subst (EachReads (ReadsCursor t.queries t.next_cursor)) replaced
            (replaced_reads cursor_number row (ReadsCursor t.queries t.next_cursor) (cursor_by_numbers t.queries t.next_cursor)
            (λ front former numbered reads. record {
              number = subst IsHeldNumber numbered reads.number;
              above = subst (λ m. AllByRecursion (λ (before : CursorRow). before.number < m) front) numbered reads.above;
              below = less;
              name = named;
              few = reads.few;
              short = short;
            })
            t.cursors go.reads.cursors));
      };
      record_number = go.record_number;
      cursor_number = omega (arith, go.cursor_number);
    }
