-- Rows that are read one after another.
--     rows_more         the first rows with one more
--     bad_at            the first row that doesn't read, by its place
--     query_fails, cursor_fails      a row of either kind that doesn't read
use Rattle.std.proofs.Common.{◌≡◌, ℕ, zero, suc, ◌+◌, List, [], ◌∷◌, ◌++◌, take, drop, Some, add-one, refl, ap, subst, arith}
use Rattle.std.specs.Prelude.{Ok, Err, slice_get}
use Rattle.std.proofs.lemmas.Grind.{common_steps}
use Rattle.mk_outside.specs.declared.tables.CursorRow.{CursorRow}
use Rattle.mk_outside.specs.declared.tables.QueryRow.{QueryRow}
use Rattle.mk_outside.specs.declared.tables.Tables.{Tables}
use Rattle.mk_outside.specs.Tables.{cursor_number, query_number}
use Rattle.mk_kept.specs.declared.stored_rows.BeginFail.{BeginFail}
use Rattle.mk_kept.specs.declared.stored_rows.BeginFail.TheVariants as begin
use Rattle.mk_kept.specs.declared.stored_rows.RowKind.TheVariants.{Queries, Cursors}
use Rattle.mk_kept.specs.Restored.{IsFirstBadOf, IsRestored, ReadsRows}
use Rattle.mk_kept.specs.StoredRows.{AllRead, BadCursor, BadQuery, EachReads, ReadsCursor, ReadsQuery, RecordsRead}

-- ---- by places

module _ {R : Type 0} where
  take_more : (rows : List R) (i : ℕ) (row : R) → slice_get rows i ≡ Some row → take (suc i) rows ≡ take i rows ++ row ∷ []
  take_more [] i row there = cc
  take_more (x ∷ rows) zero row there = grind (arith, common_steps)
  take_more (x ∷ rows) (suc i) row there = ap (λ (xs : List R). x ∷ xs) (take_more rows i row there)

  pub rows_more : (rows : List R) (i : ℕ) (row : R) → slice_get rows i ≡ Some row → take (i + 1) rows ≡ take i rows ++ row ∷ []
  rows_more rows i row there = rw add-one (take_more rows i row there)

  split_there : (rows : List R) (i : ℕ) (row : R) → slice_get rows i ≡ Some row → rows ≡ take i rows ++ row ∷ drop (suc i) rows
  split_there [] i row there = cc
  split_there (x ∷ rows) zero row there = grind (arith, common_steps)
  split_there (x ∷ rows) (suc i) row there = ap (λ (xs : List R). x ∷ xs) (split_there rows i row there)

  pub bad_at : (Reads : List R → R → Type 0) (number : R → ℕ) (rows : List R) (i : ℕ) (row : R) → slice_get rows i ≡ Some row → EachReads Reads (take i rows)
      → (Reads (take i rows) row → ⊥) → IsFirstBadOf Reads number rows (number row)
  bad_at Reads number rows i row there before bad = record {
    row = row;
    bad = record { front = take i rows; others = drop (suc i) rows; whole = split_there rows i row there; before = before; bad = bad };
    is = refl;
  }

-- ---- both kinds

-- a query that doesn't read
pub query_fails : (A : Type 0) (t : Tables) (rows : List QueryRow) (fail : BeginFail) → rows ≡ t.queries → ReadsRows {A = A} ReadsQuery query_number Queries rows (Err fail) → IsRestored t (Err fail)
query_fails A t rows begin.Store are reads = absurd reads
query_fails A t rows (begin.BadStore kind n) are reads = λ records.
    let bad = subst (λ (xs : List QueryRow). IsFirstBadOf ReadsQuery query_number xs n) are reads.1 in
    BadQuery records bad.row bad.bad reads.0 bad.is
query_fails A t rows begin.Memory are reads = tt

-- a saved search that doesn't, behind queries that do
pub cursor_fails : (A : Type 0) (t : Tables) (queries : List QueryRow) (next : ℕ) (rows : List CursorRow) (fail : BeginFail) → queries ≡ t.queries → next ≡ t.next_cursor → rows ≡ t.cursors
    → EachReads ReadsQuery t.queries → ReadsRows {A = A} (ReadsCursor queries next) cursor_number Cursors rows (Err fail) → IsRestored t (Err fail)
cursor_fails A t queries next rows begin.Store are is those each reads = absurd reads
cursor_fails A t queries next rows (begin.BadStore kind n) are is those each reads = λ records.
    let bad = subst (λ (xs : List CursorRow). IsFirstBadOf (ReadsCursor t.queries t.next_cursor) cursor_number xs n) those
    (subst (λ m. IsFirstBadOf (ReadsCursor t.queries m) cursor_number rows n) is (subst (λ (qs : List QueryRow). IsFirstBadOf (ReadsCursor qs next) cursor_number rows n) are reads.1)) in
    BadCursor records each bad.row bad.bad reads.0 bad.is
cursor_fails A t queries next rows begin.Memory are is those each reads = tt

-- both kinds read
pub both_read : (A B : Type 0) (t : Tables) (queries rows : List QueryRow) (next : ℕ) (cursors : List CursorRow) (a : A)
    (b : B) → rows ≡ t.queries → queries ≡ t.queries → next ≡ t.next_cursor → cursors ≡ t.cursors
    → ReadsRows {A = A} ReadsQuery query_number Queries rows (Ok a) → ReadsRows {A = B} (ReadsCursor queries next) cursor_number Cursors cursors (Ok b) → RecordsRead t → AllRead t
both_read A B t queries rows next cursors a b these are is those reads others records = record {
  records = records;
  queries = subst (λ (xs : List QueryRow). EachReads ReadsQuery xs) these reads;
  cursors = subst (λ (xs : List CursorRow). EachReads (ReadsCursor t.queries t.next_cursor) xs) those
      (subst (λ m. EachReads (ReadsCursor t.queries m) cursors) is (subst (λ (qs : List QueryRow). EachReads (ReadsCursor qs next) cursors) are others));
}
