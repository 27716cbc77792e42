-- What each writing statement does to the told tables.
use Rattle.std.proofs.Common.{◌≡◌, ◌≢◌, ◌&&◌, ◌⊎◌, inl, inr, ℕ, ◌+◌, ◌<◌, ◌≤◌, ℤ, pos, max, List, [], ◌∷◌, filter, find, Bool, true, false}
use Rattle.std.proofs.Common.{not, cond, Option, Some, None, Ok, Err, Result, IfOk, OnOk, refl, sym, ap, subst, ◌∙◌, arith, bytes_eq, is_eq, is_lt, IsPermutation, int_cmp}
use Rattle.std.specs.Prelude.{nat_lt, nat_eq}
use Rattle.std.proofs.lemmas.Bool.{cases_Bool, ltb-true, ltb-false, false_from_ne_true}
use Rattle.std.proofs.lemmas.Int.{ints}
use Rattle.std.proofs.lemmas.Bool.Decides.{nat_tests}
use Rattle.std.proofs.lemmas.Grind.{common_steps}
use Rattle.sqlite_value.specs.declared.value.Value.{Value}
use Rattle.sqlite_value.specs.declared.value.Value.TheVariants.{Null, Int, Real, Text, Blob}
use Rattle.sqlite_value.specs.declared.keys.Collation.TheVariants.{Binary}
use Rattle.sqlite_value.specs.Order.{Row, column, value_cmp}
use Rattle.sqlite_value.proofs.OrderLemmas.{value_cmp-Int}
use Rattle.sqlite_trees.specs.declared.store.Shape.TheVariants.{Table}
use Rattle.sqlite_trees.specs.Tree.{Trees, rowid, has_rowid, put_row, without_rowid}
use Rattle.sqlite_trees.specs.View.{is_int, IsShaped}
use Rattle.sqlite_trees.proofs.TreeLemmas.{IsShaped-put_row}
use Rattle.sqlite_sql.specs.declared.ops.BinaryOp.TheVariants.{Compare}
use Rattle.sqlite_sql.specs.declared.ops.CompareOp.TheVariants.{Lt}
use Rattle.sqlite_sql.specs.Ops.{is_true, from_truth, binary}
use Rattle.sqlite_sql.specs.Term.{lit, col}
use Rattle.sqlite_sql.specs.Program.{overlay}
use Rattle.sqlite_schema.specs.declared.schema.Keys.{Keys}
use Rattle.sqlite_schema.specs.declared.schema.Table as schema
use Rattle.sqlite_rules.specs.Cast.{cast_row}
use Rattle.sqlite_rules.specs.Keys.{AreConflicts}
use Rattle.sqlite_rules.specs.Edit.{put_all, without_all}
use Rattle.sqlite_rules.specs.Calls.{ids_of}
use Rattle.sqlite_rules.specs.Lists.{Has}
use Rattle.sqlite.specs.declared.error.Error.{Error}
use Rattle.sqlite.specs.Effect.{Database}
use Rattle.sqlite.specs.State.{State, Executes, ExecutesInside}
use Rattle.mk_outside.specs.declared.tables.Tables.{Tables}
use Rattle.mk_outside.specs.Rows.{put, without}
use Rattle.mk_outside.specs.Tables.{record_number, query_number, cursor_number, without_name}
use Rattle.mk_sqlite.specs.Layout.{records, queries, cursors, nexts, all_tables}
use Rattle.mk_sqlite.specs.Told.{record_in, query_in, cursor_in, number_by, next_in, spelt_place, IsKept, AreNext, IsTold}
use Rattle.mk_sqlite.specs.Steps.{IsAt, IsWhole, Changes}
use Rattle.mk_sqlite.proofs.AnswerLemmas.{over_table, passes, shows, answered, taken_out}
use Rattle.mk_sqlite.proofs.FormLemmas.{record_keyed, query_keyed, cursor_keyed, record_made, query_made, cursor_made, query_is, number_is, kept_put, kept_without, kept_filter}
use Rattle.mk_sqlite.proofs.OneRowLemmas.{equal_test, text_test, cast_null, cast_int}
use Rattle.mk_sqlite.proofs.PutLemmas.{its_number, conflict_test, replaced, found_row, found_put, found_other, not_found}
use Rattle.mk_sqlite.proofs.TextLemmas
use Rattle.mk_sqlite.proofs.TextLemmas.{whole, same_column}
use Rattle.mk_sqlite.proofs.WriteLemmas.{Sets, deletes, upserts}

and_true : (b : Bool) → (b && true) ≡ b
and_true true = refl
and_true false = refl

-- the same rows are left, by a test that answers the same
same_left : {X : Type 0} (p q : X → Bool) → ((x : X) → p x ≡ q x) → (xs : List X) → filter (λ x. not (p x)) xs ≡ filter (λ x. not (q x)) xs
same_left p q same xs = λ i. filter (λ x. not (same x i)) xs

-- ---- one table of the four is changed

module _ (old : Trees) (new : Database) (t : Tables) (told : IsTold all_tables old t) where
  records_set : (rows : List Row) (xs : List _) → Sets whole 0 rows old new → IsKept record_in rows xs → IsWhole new (record t { records = xs })
  records_set rows xs set kept = record {
    schema = set.schema_is;
    sound = set.sound;
    told = record {
      records = subst (λ r. IsKept record_in r xs) (sym set.rows_are) kept;
      queries = subst (λ r. IsKept query_in r t.queries) (sym (set.others.1.0 (λ e. omega arith))) told.queries;
      cursors = subst (λ r. IsKept cursor_in r t.cursors) (sym (set.others.1.1.0 (λ e. omega arith))) told.cursors;
      nexts = subst (λ r. AreNext r t.next_record t.next_cursor) (sym (set.others.1.1.1.0 (λ e. omega arith))) told.nexts;
    };
  }

  queries_set : (rows : List Row) (xs : List _) → Sets whole 1 rows old new → IsKept query_in rows xs → IsWhole new (record t { queries = xs })
  queries_set rows xs set kept = record {
    schema = set.schema_is;
    sound = set.sound;
    told = record {
      records = subst (λ r. IsKept record_in r t.records) (sym (set.others.0 (λ e. omega arith))) told.records;
      queries = subst (λ r. IsKept query_in r xs) (sym set.rows_are) kept;
      cursors = subst (λ r. IsKept cursor_in r t.cursors) (sym (set.others.1.1.0 (λ e. omega arith))) told.cursors;
      nexts = subst (λ r. AreNext r t.next_record t.next_cursor) (sym (set.others.1.1.1.0 (λ e. omega arith))) told.nexts;
    };
  }

  cursors_set : (rows : List Row) (xs : List _) → Sets whole 3 rows old new → IsKept cursor_in rows xs → IsWhole new (record t { cursors = xs })
  cursors_set rows xs set kept = record {
    schema = set.schema_is;
    sound = set.sound;
    told = record {
      records = subst (λ r. IsKept record_in r t.records) (sym (set.others.0 (λ e. omega arith))) told.records;
      queries = subst (λ r. IsKept query_in r t.queries) (sym (set.others.1.0 (λ e. omega arith))) told.queries;
      cursors = subst (λ r. IsKept cursor_in r xs) (sym set.rows_are) kept;
      nexts = subst (λ r. AreNext r t.next_record t.next_cursor) (sym (set.others.1.1.1.0 (λ e. omega arith))) told.nexts;
    };
  }

  nexts_set : (rows : List Row) (m n : ℕ) → Sets whole 4 rows old new → AreNext rows m n → IsWhole new (record t { next_record = m; next_cursor = n })
  nexts_set rows m n set next = record {
    schema = set.schema_is;
    sound = set.sound;
    told = record {
      records = subst (λ r. IsKept record_in r t.records) (sym (set.others.0 (λ e. omega arith))) told.records;
      queries = subst (λ r. IsKept query_in r t.queries) (sym (set.others.1.0 (λ e. omega arith))) told.queries;
      cursors = subst (λ r. IsKept cursor_in r t.cursors) (sym (set.others.1.1.0 (λ e. omega arith))) told.cursors;
      nexts = subst (λ r. AreNext r m n) (sym set.rows_are) next;
    };
  }

-- ---- deletions

by_number : (n : ℕ) (r : Row) → passes (same_column 0 0 ∷ []) (Int (pos n) ∷ []) r ≡ has_rowid (pos n) r
by_number n r = and_true _ ∙ equal_test (rowid r) (pos n)

-- a record is dropped
pub drops_record : (old new : State) (n count : ℕ) → Executes TextLemmas.delete_record (Int (pos n) ∷ []) old new (Ok count) → Changes old new
    (λ t. record t { records = without record_number n t.records })
drops_record old new n count ran t at =
    let params = Int (pos n) ∷ [] in
    let it = deletes whole _ 0 _ [] [] 0 refl (λ keys olds news. refl) TextLemmas.delete_record params old new at.schema TextLemmas.delete_record_plain count ran _ TextLemmas.delete_record_is in
    let perm = answered 0 (same_column 0 0 ∷ []) (col 1 0 ∷ []) [] (overlay old.now.trees []) params it.0 it.1 in
    let left = taken_out (passes (same_column 0 0 ∷ []) params) (old.now.trees 0) it.0 at.told.records.shaped perm ∙ same_left _ (has_rowid (pos n)) (by_number n) (old.now.trees 0) in
    records_set old.now.trees new.now t at.told _ _ (subst (λ rows. Sets whole 0 rows old.now.trees new.now) left it.2)
    (kept_without record_in record_number record_keyed n (old.now.trees 0) t.records at.told.records)

-- a cursor is dropped
pub drops_cursor : (old new : State) (n count : ℕ) → Executes TextLemmas.delete_cursor (Int (pos n) ∷ []) old new (Ok count) → Changes old new
    (λ t. record t { cursors = without cursor_number n t.cursors })
drops_cursor old new n count ran t at =
    let params = Int (pos n) ∷ [] in
    let it = deletes whole _ 3 _ [] [] 2 refl (λ keys olds news. refl) TextLemmas.delete_cursor params old new at.schema TextLemmas.delete_cursor_plain count ran _ TextLemmas.delete_cursor_is in
    let perm = answered 3 (same_column 0 0 ∷ []) (col 1 0 ∷ []) [] (overlay old.now.trees []) params it.0 it.1 in
    let left = taken_out (passes (same_column 0 0 ∷ []) params) (old.now.trees 3) it.0 at.told.cursors.shaped perm ∙ same_left _ (has_rowid (pos n)) (by_number n) (old.now.trees 3) in
    cursors_set old.now.trees new.now t at.told _ _ (subst (λ rows. Sets whole 3 rows old.now.trees new.now) left it.2)
    (kept_without cursor_in cursor_number cursor_keyed n (old.now.trees 3) t.cursors at.told.cursors)

by_name : (name : List ℕ) (r : Row) (x : _) → query_in r ≡ Some x → passes (same_column 2 0 ∷ []) (Text name ∷ []) r ≡ bytes_eq x.name name
by_name name r x is = and_true _ ∙ ap (λ v. is_true (binary (Compare Rattle.sqlite_sql.specs.declared.ops.CompareOp.TheVariants.Eq Binary) v (Text name))) (query_is r x is).name ∙ text_test
    x.name name

-- the queries of a name are dropped
pub drops_query : (old new : State) (name : List ℕ) (count : ℕ) → Executes TextLemmas.delete_query (Text name ∷ []) old new (Ok count) → Changes old new
    (λ t. record t { queries = without_name name t.queries })
unfolding without_name
drops_query old new name count ran t at =
    let params = Text name ∷ [] in
    let it = deletes whole _ 1 _ _ _ 1 refl (λ keys olds news. refl) TextLemmas.delete_query params old new at.schema TextLemmas.delete_query_plain count ran _ TextLemmas.delete_query_is in
    let perm = answered 1 (same_column 2 0 ∷ []) (col 1 0 ∷ []) [] (overlay old.now.trees []) params it.0 it.1 in
    let left = taken_out (passes (same_column 2 0 ∷ []) params) (old.now.trees 1) it.0 at.told.queries.shaped perm in
    queries_set old.now.trees new.now t at.told _ _ (subst (λ rows. Sets whole 1 rows old.now.trees new.now) left it.2)
    (kept_filter query_in query_number query_keyed _ _ (λ r x is. ap not (by_name name r x is)) (old.now.trees 1) t.queries at.told.queries)

-- ---- upserts

cast_two : (n : ℕ) (text : List ℕ) → cast_row records (Int (pos n) ∷ Null ∷ Blob text ∷ []) ≡ Int (pos n) ∷ Null ∷ Blob text ∷ []
cast_two n text = rw (cast_int (pos n), cast_null)

cast_query : (n : ℕ) (name text : List ℕ) → cast_row queries (Int (pos n) ∷ Null ∷ Text name ∷ Blob text ∷ []) ≡ Int (pos n) ∷ Null ∷ Text name ∷ Blob text ∷ []
cast_query n name text = rw (cast_int (pos n), cast_null)

cast_cursor : (n : ℕ) (name place : List ℕ) → cast_row cursors (Int (pos n) ∷ Null ∷ Text name ∷ Blob place ∷ []) ≡ Int (pos n) ∷ Null ∷ Text name ∷ Blob place ∷ []
cast_cursor n name place = rw (cast_int (pos n), cast_null)

cast_next : (n v : ℕ) → cast_row nexts (Int (pos n) ∷ Null ∷ Int (pos v) ∷ []) ≡ Int (pos n) ∷ Null ∷ Int (pos v) ∷ []
cast_next n v = rw (cast_int (pos n), cast_null, cast_int (pos v))

-- the row that is there has the number
module _ (n : ℕ) (rows : List Row) (shaped : IsShaped Table rows) (r : Row) (h : Has rows r) (is : has_rowid (pos n) r ≡ true) (there : Row) (at_rowid : there ≡ rowid r ∷ []) where
  there_is : rowid there ≡ Int (pos n)
  there_is = ap rowid at_rowid ∙ its_number r (pos n) (Rattle.sqlite_rules.proofs.ListLemmas.all_has (λ s. Rattle.std.proofs.Common.IsTrue (is_int (rowid s))) rows r shaped.1 h) is

  -- the test that the query makes
  asks : (s : Row) → (is_true (binary (Compare Rattle.sqlite_sql.specs.declared.ops.CompareOp.TheVariants.Eq Binary) (rowid s) (rowid there)) && true) ≡ has_rowid (pos n) s
  asks s = and_true _ ∙ ap (λ v. is_true (binary (Compare Rattle.sqlite_sql.specs.declared.ops.CompareOp.TheVariants.Eq Binary) (rowid s) v)) there_is ∙ equal_test (rowid s) (pos n)

-- a record is put
pub puts_record : (old new : State) (n : ℕ) (text : List ℕ) (count : ℕ) → n < 4294967296 → Executes TextLemmas.put_record (Int (pos n) ∷ Blob text ∷ []) old new (Ok count)
    → Changes old new (λ t. record t { records = put record_number (record { number = n; text = text }) t.records })
puts_record old new n text count fits ran t at =
    let db = old.now.trees in
    let rest = Null ∷ Blob text ∷ [] in
    let row = Int (pos n) ∷ rest in
    let shaped = at.told.records.shaped in
    let it = upserts whole _ 0 _ [] [] 0 refl (λ keys olds news. refl) TextLemmas.put_record (Int (pos n) ∷ Blob text ∷ []) old new at.schema TextLemmas.put_record_plain count ran
    TextLemmas.two_terms 3 _ row (pos n) (cast_two n text) refl refl
    TextLemmas.put_record_is in
    let put : Sets whole 0 (put_row row (db 0)) db new.now = elim it.2 [
      | inl fresh ↦ fresh.1
      | inr there ↦
          let found = it.1.sound there.0 there.1 in
          let is = sym (conflict_test whole.indexes records row found.0 (pos n) refl refl) ∙ found.2 in
          let same = asks n (db 0) shaped found.0 found.1 is there.0 found.3 in
          let perm = answered 0 _ _ [] (overlay db []) _ there.2 there.3 in
          let asked = subst (λ (p : Row → Bool). IsPermutation (Rattle.std.proofs.Common.map (λ s. rowid s ∷ rowid s ∷ rest) (filter p (db 0))) there.2) (λ i s. same s i) perm in
          subst (λ rows. Sets whole 0 rows db new.now) (replaced records n rest (db 0) shaped (cast_two n text) (λ s. true) there.2 found.0 asked found.1 is) there.4
    ] in
    records_set db new.now t at.told _ _ put (kept_put record_in record_number record_keyed row _ (record_made n text fits) (db 0) t.records at.told.records)

-- a query is put
pub puts_query : (old new : State) (n : ℕ) (name text : List ℕ) (count : ℕ) → n < 4294967296 → Executes TextLemmas.put_query (Int (pos n) ∷ Text name ∷ Blob text ∷ []) old new (Ok count)
    → Changes old new (λ t. record t { queries = put query_number (record { number = n; name = name; text = text }) t.queries })
puts_query old new n name text count fits ran t at =
    let db = old.now.trees in
    let rest = Null ∷ Text name ∷ Blob text ∷ [] in
    let row = Int (pos n) ∷ rest in
    let shaped = at.told.queries.shaped in
    let it = upserts whole _ 1 _ _ _ 1 refl (λ keys olds news. refl) TextLemmas.put_query (Int (pos n) ∷ Text name ∷ Blob text ∷ []) old new at.schema TextLemmas.put_query_plain count ran
    TextLemmas.three_terms 4 _ row (pos n) (cast_query n name text) refl refl
    TextLemmas.put_query_is in
    let put : Sets whole 1 (put_row row (db 1)) db new.now = elim it.2 [
      | inl fresh ↦ fresh.1
      | inr there ↦
          let found = it.1.sound there.0 there.1 in
          let is = sym (conflict_test whole.indexes queries row found.0 (pos n) refl refl) ∙ found.2 in
          let same = asks n (db 1) shaped found.0 found.1 is there.0 found.3 in
          let perm = answered 1 _ _ [] (overlay db []) _ there.2 there.3 in
          let asked = subst (λ (p : Row → Bool). IsPermutation (Rattle.std.proofs.Common.map (λ s. rowid s ∷ rowid s ∷ rest) (filter p (db 1))) there.2) (λ i s. same s i) perm in
          subst (λ rows. Sets whole 1 rows db new.now) (replaced queries n rest (db 1) shaped (cast_query n name text) (λ s. true) there.2 found.0 asked found.1 is) there.4
    ] in
    queries_set db new.now t at.told _ _ put (kept_put query_in query_number query_keyed row _ (query_made n name text fits) (db 1) t.queries at.told.queries)

-- a cursor is put, whose place its bytes spell
pub puts_cursor : (old new : State) (n : ℕ) (name bytes place : List ℕ) (count : ℕ) → n < 4294967296 → spelt_place bytes ≡ Some place → Executes TextLemmas.put_cursor
    (Int (pos n) ∷ Text name ∷ Blob bytes ∷ []) old new (Ok count)
    → Changes old new (λ t. record t { cursors = put cursor_number (record { number = n; name = name; place = place }) t.cursors })
puts_cursor old new n name bytes place count fits read ran t at =
    let db = old.now.trees in
    let rest = Null ∷ Text name ∷ Blob bytes ∷ [] in
    let row = Int (pos n) ∷ rest in
    let shaped = at.told.cursors.shaped in
    let it = upserts whole _ 3 _ [] [] 2 refl (λ keys olds news. refl) TextLemmas.put_cursor (Int (pos n) ∷ Text name ∷ Blob bytes ∷ []) old new at.schema TextLemmas.put_cursor_plain count ran
    TextLemmas.three_terms 4 _ row (pos n) (cast_cursor n name bytes) refl refl
    TextLemmas.put_cursor_is in
    let put : Sets whole 3 (put_row row (db 3)) db new.now = elim it.2 [
      | inl fresh ↦ fresh.1
      | inr there ↦
          let found = it.1.sound there.0 there.1 in
          let is = sym (conflict_test whole.indexes cursors row found.0 (pos n) refl refl) ∙ found.2 in
          let same = asks n (db 3) shaped found.0 found.1 is there.0 found.3 in
          let perm = answered 3 _ _ [] (overlay db []) _ there.2 there.3 in
          let asked = subst (λ (p : Row → Bool). IsPermutation (Rattle.std.proofs.Common.map (λ s. rowid s ∷ rowid s ∷ rest) (filter p (db 3))) there.2) (λ i s. same s i) perm in
          subst (λ rows. Sets whole 3 rows db new.now) (replaced cursors n rest (db 3) shaped (cast_cursor n name bytes) (λ s. true) there.2 found.0 asked found.1 is) there.4
    ] in
    cursors_set db new.now t at.told _ _ put (kept_put cursor_in cursor_number cursor_keyed row _ (cursor_made n name bytes place fits read) (db 3) t.cursors at.told.cursors)

-- ---- the next numbers

truth_of : (b : Bool) → is_true (from_truth (Some b)) ≡ b
truth_of true = refl
truth_of false = refl

less_test : (a b : ℕ) → is_true (binary (Compare Lt Binary) (Int (pos a)) (Int (pos b))) ≡ nat_lt a b
unfolding binary
less_test a b = truth_of _ ∙ ap is_lt (value_cmp-Int (pos a) (pos b)) ∙ grind (arith, ints, nat_tests)

abbrev is_less : ℕ → Row → Bool
is_less v r = is_true (binary (Compare Lt Binary) (column r 2) (Int (pos v)))

number_of : (v : ℕ) → v < 4294967296 → number_by (Int (pos v)) ≡ Some v
number_of v h = rw (Rattle.std.proofs.lemmas.Bool.lt-ltb v 4294967296 h)

-- the rows after the upsert
abbrev IsRaised : ℕ → ℕ → List Row → List Row → Type 0
IsRaised w v rows after =
    (((r : Row) → Has rows r → has_rowid (pos w) r ≡ false) × (after ≡ put_row (Int (pos w) ∷ Null ∷ Int (pos v) ∷ []) rows))
    ⊎ ((r : Row) × Has rows r × (has_rowid (pos w) r ≡ true) × (after ≡ cond (is_less v r) (put_row (Int (pos w) ∷ Null ∷ Int (pos v) ∷ []) rows) rows))

own_number : (w v : ℕ) → has_rowid (pos w) (Int (pos w) ∷ Null ∷ Int (pos v) ∷ []) ≡ true
own_number w v = ap is_eq (value_cmp-Int (pos w) (pos w)) ∙ grind (arith, ints)

module _ (w v : ℕ) (rows after : List Row) (shaped : IsShaped Table rows) (fits : v < 4294967296) (raised : IsRaised w v rows after) where
  abbrev new_row : Row
  new_row = Int (pos w) ∷ Null ∷ Int (pos v) ∷ []

  new_next : next_in (pos w) (put_row new_row rows) ≡ Some v
  new_next = rw (found_put (pos w) new_row rows (own_number w v) refl) (number_of v fits)

  -- its own number is the greater
  own_next : (m : ℕ) → 1 ≤ v → next_in (pos w) rows ≡ Some m → next_in (pos w) after ≡ Some (max m v)
  own_next m some is = elim raised [
    | inl fresh ↦
        let first : m ≡ 1 = let e = (rw (not_found (pos w) rows fresh.0) at is) in cc in
        let greater : max m v ≡ v = grind (arith, common_steps) in
        rw (fresh.1, greater) new_next
    | inr there ↦
        let value = number_is (column there.0 2) m (rw (found_row (pos w) rows there.0 shaped.0 there.1 there.2) at is) in
        let less : is_less v there.0 ≡ nat_lt m v = ap (λ x. is_true (binary (Compare Lt Binary) x (Int (pos v)))) value ∙ less_test m v in
        go (nat_lt m v) refl (there.3 ∙ ap (λ b. cond b (put_row new_row rows) rows) less)
  ]
    where
      go : (b : Bool) → nat_lt m v ≡ b → after ≡ cond b (put_row new_row rows) rows → next_in (pos w) after ≡ Some (max m v)
      go true e now = let l = ltb-true m v e in let greater : max m v ≡ v = grind (arith, common_steps) in rw (now, greater) new_next
      go false e now = let l = ltb-false m v e in let greater : max m v ≡ m = grind (arith, common_steps) in rw (now, greater) is

  -- another number stays
  other_next : (k m : ℕ) → k ≢ w → next_in (pos k) rows ≡ Some m → next_in (pos k) after ≡ Some m
  other_next k m apart is = elim raised [ inl fresh ↦ rw fresh.1 put_in | inr there ↦ go (is_less v there.0) there.3 ]
    where
      not_it : has_rowid (pos k) new_row ≡ false
      not_it = ap is_eq (value_cmp-Int (pos w) (pos k)) ∙ grind (arith, ints)

      put_in : next_in (pos k) (put_row new_row rows) ≡ Some m
      put_in = rw (found_other (pos k) new_row rows not_it) is

      go : (b : Bool) → after ≡ cond b (put_row new_row rows) rows → next_in (pos k) after ≡ Some m
      go true now = rw now put_in
      go false now = rw now is

  still_shaped : IsShaped Table after
  still_shaped = elim raised [ inl fresh ↦ rw fresh.1 put_in | inr there ↦ go (is_less v there.0) there.3 ]
    where
      put_in : IsShaped Table (put_row new_row rows)
      put_in = IsShaped-put_row new_row rows refl shaped

      go : (b : Bool) → after ≡ cond b (put_row new_row rows) rows → IsShaped Table after
      go true now = rw now put_in
      go false now = rw now shaped

-- the statement raises a number
raises : (old new : State) (w v count : ℕ) → Executes TextLemmas.raise_next (Int (pos w) ∷ Int (pos v) ∷ []) old new (Ok count) → old.now.schema ≡ whole → IsShaped Table (old.now.trees 4)
    → (after : List Row) × Sets whole 4 after old.now.trees new.now × IsRaised w v (old.now.trees 4) after
raises old new w v count ran has shaped =
    let db = old.now.trees in
    let rest = Null ∷ Int (pos v) ∷ [] in
    let row = Int (pos w) ∷ rest in
    let it = upserts whole _ 4 _ [] [] 3 refl (λ keys olds news. refl) TextLemmas.raise_next (Int (pos w) ∷ Int (pos v) ∷ []) old new has TextLemmas.raise_next_plain count ran
    TextLemmas.two_terms 3 _ row (pos w) (cast_next w v) refl refl
    TextLemmas.raise_next_is in
    elim it.2 [
      | inl fresh ↦ (
        _,
        fresh.1,
        inl (
          λ r h. false_from_ne_true _ (λ is.
              let there = it.1.complete r h (conflict_test whole.indexes nexts row r (pos w) refl refl ∙ is) in
              subst (λ l. Has l (rowid r ∷ [])) fresh.0 there),
          refl,
        ),
      )
      | inr there ↦
          let found = it.1.sound there.0 there.1 in
          let is = sym (conflict_test whole.indexes nexts row found.0 (pos w) refl refl) ∙ found.2 in
          let same = λ (s : Row). ap (λ b. is_less v s && b) (asks w (db 4) shaped found.0 found.1 is there.0 found.3 s) in
          let perm = answered 4 _ _ [] (overlay db []) _ there.2 there.3 in
          let asked = subst (λ (p : Row → Bool). IsPermutation (Rattle.std.proofs.Common.map (λ s. rowid s ∷ rowid s ∷ rest) (filter p (db 4))) there.2) (λ i s. same s i) perm in
          (_, there.4, inr (found.0, found.1, is, replaced nexts w rest (db 4) shaped (cast_next w v) (is_less v) there.2 found.0 asked found.1 is))
    ]

-- the next number of records is raised where it is below the value
pub raises_next_record : (old new : State) (v count : ℕ) → 1 ≤ v → v < 4294967296 → Executes TextLemmas.raise_next (Int (pos 1) ∷ Int (pos v) ∷ []) old new (Ok count)
    → Changes old new (λ t. record t { next_record = max t.next_record v })
raises_next_record old new v count some fits ran t at =
    let next = at.told.nexts in
    let it = raises old new 1 v count ran at.schema next.shaped in
    nexts_set old.now.trees new.now t at.told it.0 _ _ it.1 (record {
      shaped = still_shaped 1 v _ _ next.shaped fits it.2;
      for_records = own_next 1 v _ _ next.shaped fits it.2 t.next_record some next.for_records;
      for_cursors = other_next 1 v _ _ next.shaped fits it.2 2 t.next_cursor (λ e. omega arith) next.for_cursors;
    })

-- the next number of cursors is raised where it is below the value
pub raises_next_cursor : (old new : State) (v count : ℕ) → 1 ≤ v → v < 4294967296 → Executes TextLemmas.raise_next (Int (pos 2) ∷ Int (pos v) ∷ []) old new (Ok count)
    → Changes old new (λ t. record t { next_cursor = max t.next_cursor v })
raises_next_cursor old new v count some fits ran t at =
    let next = at.told.nexts in
    let it = raises old new 2 v count ran at.schema next.shaped in
    nexts_set old.now.trees new.now t at.told it.0 _ _ it.1 (record {
      shaped = still_shaped 2 v _ _ next.shaped fits it.2;
      for_records = other_next 2 v _ _ next.shaped fits it.2 1 t.next_record (λ e. omega arith) next.for_records;
      for_cursors = own_next 2 v _ _ next.shaped fits it.2 t.next_cursor some next.for_cursors;
    })
