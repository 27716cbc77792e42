-- What the selections show of the told tables.
use Rattle.std.proofs.Common.{◌≡◌, ◌≢◌, ◌&&◌, ◌<◌, ℕ, ℤ, pos, List, [], ◌∷◌, map, filter, find, Bool, true, false, cond, Option, Some, None, refl, sym, ap, subst, ◌∙◌, arith, IsPermutation, codes}
use Rattle.std.specs.List.{AllZip}
use Rattle.std.proofs.lemmas.Bool.{lt-ltb}
use Rattle.std.proofs.lemmas.List.Sorted.{length_permutation}
use Rattle.sqlite_value.specs.declared.value.Value.TheVariants.{Null, Int, Text, Blob}
use Rattle.sqlite_value.specs.Order.{Row, column}
use Rattle.sqlite_trees.specs.declared.store.Shape.TheVariants.{Table}
use Rattle.sqlite_trees.specs.Tree.{rowid, has_rowid}
use Rattle.sqlite_trees.specs.View.{IsShaped}
use Rattle.sqlite_sql.specs.Term.{col}
use Rattle.sqlite_sql.specs.Program.{overlay}
use Rattle.sqlite_rules.proofs.ListLemmas.{has_found}
use Rattle.sqlite_schema.specs.declared.schema.Schema.{Schema}
use Rattle.sqlite_resolve.specs.declared.compiled.Compiled.{Compiled}
use Rattle.sqlite.specs.Listing.{understood}
use Rattle.sqlite.specs.State.{State, IsUnchanged, Shown, ShowsRows}
use Rattle.sqlite.specs.Clock.{timed}
use Rattle.sqlite.proofs.Callers.{IsPlain, reads_as, one_permutation}
use Rattle.mk_outside.specs.declared.tables.RecordRow.{RecordRow}
use Rattle.mk_outside.specs.declared.tables.QueryRow.{QueryRow}
use Rattle.mk_outside.specs.declared.tables.CursorRow.{CursorRow}
use Rattle.mk_sqlite.specs.Layout.{all_tables}
use Rattle.mk_sqlite.specs.Told.{record_in, query_in, cursor_in, next_by, next_in, number_by, spelt_place, AreRead}
use Rattle.mk_sqlite.specs.Steps.{HasTables}
use Rattle.mk_sqlite.specs.Stored.{IsRecordRow, IsQueryRow, IsCursorRow, IsNext}
use Rattle.mk_sqlite.proofs.AnswerLemmas.{answered, answered_in_order, passes}
use Rattle.mk_sqlite.proofs.OneRowLemmas.{equal_test, one_row}
use Rattle.mk_sqlite.proofs.TextLemmas
use Rattle.mk_sqlite.proofs.TextLemmas.{whole, same_column}

-- a plain query changes nothing
pub shown_plain : (sql : List ℕ) (params : Row) (old new : State) (schema : Schema) → old.now.schema ≡ schema → IsPlain (understood schema sql) → (rows : List Row) → Shown sql params old new rows
    → IsUnchanged old new
unfolding Shown
shown_plain sql params old new schema has plain rows h =
    let known = sym h.1.is ∙ ap (λ s. understood s sql) has in
    let bare = subst IsPlain (sym known) plain in
    (subst (ShowsRows old new sql h.0 (timed params h.0.formats h.1.now) rows) bare.0 h.2).3

-- ---- rows in order, as they are read

read_record : (r : Row) (x : RecordRow) → IsRecordRow (rowid r ∷ column r 2 ∷ []) x → record_in r ≡ Some x
read_record r x h = rw (h.number, lt-ltb x.number 4294967296 h.fits, h.text)

read_query : (r : Row) (x : QueryRow) → IsQueryRow (rowid r ∷ column r 2 ∷ column r 3 ∷ []) x → query_in r ≡ Some x
read_query r x h = rw (h.number, lt-ltb x.number 4294967296 h.fits, h.name, h.text)

read_cursor : (r : Row) (x : CursorRow) → IsCursorRow (rowid r ∷ column r 2 ∷ column r 3 ∷ []) x → cursor_in r ≡ Some x
read_cursor r x h = rw (h.number, lt-ltb x.number 4294967296 h.fits, h.name, h.place, h.read)

module _ {X : Type 0} (f : Row → Option X) (show : Row → Row) (IsRow : Row → X → Type 0) (read : (r : Row) (x : X) → IsRow (show r) x → f r ≡ Some x) where
  -- rows that are read from what is shown are read from the tree
  pub read_rows : (rows : List Row) (xs : List X) → AllZip IsRow (map show rows) xs → AreRead f rows xs
  read_rows [] [] h = tt
  read_rows [] (x ∷ xs) h = absurd h
  read_rows (r ∷ rows) [] h = absurd h
  read_rows (r ∷ rows) (x ∷ xs) h = (read r x h.0, read_rows rows xs h.1)

-- the records that are selected are those of the tree
pub selects_records : (old new : State) (shown : List Row) (xs : List RecordRow) → HasTables all_tables old.now → Shown TextLemmas.select_records [] old new shown → AllZip IsRecordRow shown xs
    → IsShaped Table (old.now.trees 0) → AreRead record_in (old.now.trees 0) xs
selects_records old new shown xs at h read shaped =
    let db = overlay old.now.trees [] in
    let answer = reads_as TextLemmas.select_records [] old new whole at.schema _ TextLemmas.select_records_is TextLemmas.select_records_plain TextLemmas.select_records_unlisted shown h in
    let rows = answered_in_order 0 (col 1 0 ∷ col 1 2 ∷ []) db [] shown shaped.0 (answer.answer Null) in
    read_rows record_in (λ r. rowid r ∷ column r 2 ∷ []) IsRecordRow read_record (old.now.trees 0) xs (subst (λ l. AllZip IsRecordRow l xs) rows read)

-- the queries that are selected are those of the tree
pub selects_queries : (old new : State) (shown : List Row) (xs : List QueryRow) → HasTables all_tables old.now → Shown TextLemmas.select_queries [] old new shown → AllZip IsQueryRow shown xs
    → IsShaped Table (old.now.trees 1) → AreRead query_in (old.now.trees 1) xs
selects_queries old new shown xs at h read shaped =
    let db = overlay old.now.trees [] in
    let answer = reads_as TextLemmas.select_queries [] old new whole at.schema _ TextLemmas.select_queries_is TextLemmas.select_queries_plain TextLemmas.select_queries_unlisted shown h in
    let rows = answered_in_order 1 (col 1 0 ∷ col 1 2 ∷ col 1 3 ∷ []) db [] shown shaped.0 (answer.answer Null) in
    read_rows query_in (λ r. rowid r ∷ column r 2 ∷ column r 3 ∷ []) IsQueryRow read_query (old.now.trees 1) xs (subst (λ l. AllZip IsQueryRow l xs) rows read)

-- the cursors that are selected are those of the tree
pub selects_cursors : (old new : State) (shown : List Row) (xs : List CursorRow) → HasTables all_tables old.now → Shown TextLemmas.select_cursors [] old new shown → AllZip IsCursorRow shown xs
    → IsShaped Table (old.now.trees 3) → AreRead cursor_in (old.now.trees 3) xs
selects_cursors old new shown xs at h read shaped =
    let db = overlay old.now.trees [] in
    let answer = reads_as TextLemmas.select_cursors [] old new whole at.schema _ TextLemmas.select_cursors_is TextLemmas.select_cursors_plain TextLemmas.select_cursors_unlisted shown h in
    let rows = answered_in_order 3 (col 1 0 ∷ col 1 2 ∷ col 1 3 ∷ []) db [] shown shaped.0 (answer.answer Null) in
    read_rows cursor_in (λ r. rowid r ∷ column r 2 ∷ column r 3 ∷ []) IsCursorRow read_cursor (old.now.trees 3) xs (subst (λ l. AllZip IsCursorRow l xs) rows read)

-- ---- a next number

none_kept : (p : Row → Bool) (rows : List Row) → find p rows ≡ None → filter p rows ≡ []
none_kept p [] h = refl
none_kept p (r ∷ rows) h = go (p r) h (none_kept p rows)
  where
    go : (b : Bool) → cond b (Some r) (find p rows) ≡ None → (find p rows ≡ None → filter p rows ≡ []) → cond b (r ∷ filter p rows) (filter p rows) ≡ []
    go true e more = cc
    go false e more = more e

none_permuted : {X : Type 0} (ys : List X) → IsPermutation [] ys → ys ≡ []
none_permuted [] h = refl
none_permuted (y ∷ ys) h = absurd (omega (arith, length_permutation [] (y ∷ ys) h))

and_true : (b : Bool) → (b && true) ≡ b
and_true true = refl
and_true false = refl

read_next : (row : Row) (next : ℕ) → column row 2 ≡ Int (pos next) → next < 4294967296 → next_by (Some row) ≡ Some next
read_next row next is fits = rw (is, lt-ltb next 4294967296 fits)

-- what the query shows is the value of the one row of the number
next_is : (w : ℕ) (rows shown : List Row) (next : ℕ) → IsPermutation (map (λ r. column r 2 ∷ []) (filter (has_rowid (pos w)) rows)) shown → IsNext shown next → IsShaped Table rows
    → next_in (pos w) rows ≡ Some next
next_is w rows shown next perm is shaped = go (find (has_rowid (pos w)) rows) refl
  where
    go : (o : Option Row) → find (has_rowid (pos w)) rows ≡ o → next_by o ≡ Some next
    go None e =
        let none : shown ≡ [] = none_permuted shown (rw (none_kept _ rows e) at perm) in
        let one : next ≡ 1 = rw none at is in
        ap Some (sym one)
    go (Some r) e =
        let found = has_found (has_rowid (pos w)) rows r e in
        let one : shown ≡ (column r 2 ∷ []) ∷ [] = one_permutation _ shown (rw (one_row (pos w) rows r shaped.0 found.0 found.1) at perm) in
        let value : (column r 2 ≡ Int (pos next)) × (next < 4294967296) = rw one at is in
        read_next r next value.0 value.1

-- the next number of records that is selected is that of the tree
pub selects_next_record : (old new : State) (shown : List Row) (next : ℕ) → HasTables all_tables old.now → Shown TextLemmas.select_next (Int (pos 1) ∷ []) old new shown → IsNext shown next
    → IsShaped Table (old.now.trees 4) → next_in (pos 1) (old.now.trees 4) ≡ Some next
selects_next_record old new shown next at h is =
    let params = Int (pos 1) ∷ [] in
    let rows = old.now.trees 4 in
    let answer = reads_as TextLemmas.select_next params old new whole at.schema _ TextLemmas.select_next_is TextLemmas.select_next_plain TextLemmas.select_next_unlisted shown h in
    let perm = answered 4 (same_column 0 0 ∷ []) (col 1 2 ∷ []) [] (overlay old.now.trees []) params shown (answer.answer Null) in
    let asked = subst (λ (p : Row → Bool). IsPermutation (map (λ r. column r 2 ∷ []) (filter p rows)) shown) (λ i r. (and_true _ ∙ equal_test (rowid r) (pos 1)) i) perm in
    next_is 1 rows shown next asked is

-- the next number of cursors that is selected is that of the tree
pub selects_next_cursor : (old new : State) (shown : List Row) (next : ℕ) → HasTables all_tables old.now → Shown TextLemmas.select_next (Int (pos 2) ∷ []) old new shown → IsNext shown next
    → IsShaped Table (old.now.trees 4) → next_in (pos 2) (old.now.trees 4) ≡ Some next
selects_next_cursor old new shown next at h is =
    let params = Int (pos 2) ∷ [] in
    let rows = old.now.trees 4 in
    let answer = reads_as TextLemmas.select_next params old new whole at.schema _ TextLemmas.select_next_is TextLemmas.select_next_plain TextLemmas.select_next_unlisted shown h in
    let perm = answered 4 (same_column 0 0 ∷ []) (col 1 2 ∷ []) [] (overlay old.now.trees []) params shown (answer.answer Null) in
    let asked = subst (λ (p : Row → Bool). IsPermutation (map (λ r. column r 2 ∷ []) (filter p rows)) shown) (λ i r. (and_true _ ∙ equal_test (rowid r) (pos 2)) i) perm in
    next_is 2 rows shown next asked is
