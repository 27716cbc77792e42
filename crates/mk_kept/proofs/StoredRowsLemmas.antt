-- Stored rows that read, and the first that doesn't.
--     reads_not_bad       where each row reads there is no first that doesn't
--     one_first_bad       there is at most one
--     read_none, read_more, bad_at    rows that read, one after another, and one that doesn't
use Rattle.std.proofs.Common.{◌≡◌, ℕ, suc, ◌⊎◌, inl, inr, List, [], ◌∷◌, ◌++◌, append_assoc, refl, sym, ap, ◌∙◌, subst, arith}
use Rattle.std.specs.Prelude.{Some, slice_get}
use Rattle.std.proofs.lemmas.Bool.Decides.{leb_tells}
use Rattle.std.proofs.lemmas.List.{append-nil}
use Rattle.mk_outside.specs.declared.tables.Tables.{Tables}
use Rattle.mk_outside.specs.Tables.{cursor_number, query_number, record_number}
use Rattle.mk_outside.specs.declared.tables.RecordRow.{RecordRow}
use Rattle.mk_library.specs.StoredRows as library
use Rattle.mk_kept.specs.declared.stored_rows.RowKind.{RowKind}
use Rattle.mk_kept.specs.declared.stored_rows.RowKind.TheVariants.{Queries, Cursors}
use Rattle.mk_kept.specs.StoredRows.{AllRead, EachReads, IsFirstBad, IsFirstBadRow, ReadsCursor, ReadsQuery, BadRecord, BadQuery, BadCursor}

-- ---- rows of any kind

module _ {R : Type 0} (Reads : List R → R → Type 0) where
  each_not_bad : (rows : List R) (row : R) → EachReads Reads rows → IsFirstBadRow Reads rows row → ⊥
  each_not_bad rows row each bad = bad.bad (each bad.front row bad.others bad.whole)

  none_read : EachReads Reads []
  none_read [] row others whole = absurd cc
  none_read (x ∷ front) row others whole = absurd cc

  -- the last of some rows, or one before it
  last_or_before : (rows front : List R) (last row : R) (others : List R) → rows ++ last ∷ [] ≡ front ++ row ∷ others
      → ((front ≡ rows) × (row ≡ last)) ⊎ ((later : List R) × (rows ≡ front ++ row ∷ later))
  last_or_before [] [] last row others same = inl (refl, cc)
  last_or_before [] (y ∷ []) last row others same = absurd cc
  last_or_before [] (y ∷ z ∷ front) last row others same = absurd cc
  last_or_before (x ∷ rows) [] last row others same = inr (rows, let here : x ≡ row = cc in ap (λ (r : R). r ∷ rows) here)
  last_or_before (x ∷ rows) (y ∷ front) last row others same =
      let here : x ≡ y = cc in
      let rest : rows ++ last ∷ [] ≡ front ++ row ∷ others = cc in
      elim (last_or_before rows front last row others rest) [
        | inl is ↦ inl ((λ j. sym here j ∷ is.0 j), is.1)
        | inr before ↦ inr (before.0, (λ j. here j ∷ before.1 j))
      ]

  -- one more row that reads
  pub read_more : (rows : List R) (last : R) → EachReads Reads rows → Reads rows last → EachReads Reads (rows ++ last ∷ [])
  read_more rows last each reads front row others whole = elim (last_or_before rows front last row others whole) [
    | inl is ↦ subst (λ (r : R). Reads front r) (sym is.1) (subst (λ (f : List R). Reads f last) (sym is.0) reads)
    | inr before ↦ each front row before.0 before.1
  ]

-- ---- at most one

module _ {R : Type 0} (Reads : List R → R → Type 0) where
  -- one row is bad behind these rows, and another behind those: neither stands among the rows before the other
  one_bad_row : (front other : List R) (row bad : R) (rows others : List R) → front ++ row ∷ rows ≡ other ++ bad ∷ others
      → EachReads Reads front → EachReads Reads other → (Reads front row → ⊥) → (Reads other bad → ⊥) → row ≡ bad
  one_bad_row front other row bad rows others same each each' not not' = by_fronts front other [] refl refl same
    where
      by_fronts : (xs ys passed : List R) → front ≡ passed ++ xs → other ≡ passed ++ ys → xs ++ row ∷ rows ≡ ys ++ bad ∷ others → row ≡ bad
      by_fronts [] [] passed p q is = cc
      by_fronts [] (y ∷ ys) passed p q is =
          let here : row ≡ y = cc in
          absurd (not (subst (λ (r : R). Reads front r) (sym here) (subst (λ (f : List R). Reads f y) (sym (append-nil passed) ∙ sym p) (each' passed y ys q))))
      by_fronts (x ∷ xs) [] passed p q is =
          let here : x ≡ bad = cc in
          absurd (not' (subst (λ (r : R). Reads other r) here (subst (λ (f : List R). Reads f x) (sym (append-nil passed) ∙ sym q) (each passed x xs p))))
      by_fronts (x ∷ xs) (y ∷ ys) passed p q is =
          let here : x ≡ y = cc in
          let rest : xs ++ row ∷ rows ≡ ys ++ bad ∷ others = cc in
          by_fronts xs ys (passed ++ x ∷ []) (p ∙ sym (append_assoc passed (x ∷ []) xs))
          (q ∙ ap (λ (z : R). passed ++ z ∷ ys) (sym here) ∙ sym (append_assoc passed (x ∷ []) ys)) rest

  one_first : (rows : List R) (row bad : R) → IsFirstBadRow Reads rows row → IsFirstBadRow Reads rows bad → row ≡ bad
  one_first rows row bad p q = one_bad_row p.front q.front row bad p.others q.others (sym p.whole ∙ q.whole) p.before q.before p.bad q.bad

-- the first row of one kind that doesn't read is one
numbered : {R : Type 0} (Reads : List R → R → Type 0) (number : R → ℕ) (rows : List R) (row bad : R) (kind other same : RowKind) (n m : ℕ)
    → IsFirstBadRow Reads rows row → IsFirstBadRow Reads rows bad → kind ≡ same → other ≡ same → n ≡ number row → m ≡ number bad → (kind ≡ other) × (n ≡ m)
numbered Reads number rows row bad kind other same n m p q k o is is' = (k ∙ sym o, is ∙ ap number (one_first Reads rows row bad p q) ∙ sym is')

-- where each record reads there is no first that doesn't
read_not_bad : (next : ℕ) (rows : List RecordRow) (n : ℕ) → library.AllRead next rows → library.IsFirstBad next rows n → ⊥
read_not_bad next rows n all bad = bad.fails (all bad.place bad.row bad.there)

-- the first record that doesn't read has one number
one_bad_record : (next : ℕ) (rows : List RecordRow) (n m : ℕ) → library.IsFirstBad next rows n → library.IsFirstBad next rows m → n ≡ m
one_bad_record next rows n m p q = elim (leb_tells (suc p.place) q.place) [
  | inl below ↦ absurd (p.fails (q.before p.place p.row (omega (arith, below.1)) p.there))
  | inr above ↦ elim (leb_tells (suc q.place) p.place) [
    | inl below ↦ absurd (q.fails (p.before q.place q.row (omega (arith, below.1)) q.there))
    | inr other ↦ at_one_place (omega (arith, above.1, other.1))
  ]
]
  where
    at_one_place : q.place ≡ p.place → n ≡ m
    at_one_place same =
        let there : slice_get rows q.place ≡ Some p.row = ap (slice_get rows) same ∙ p.there in
        let h = sym there ∙ q.there in
        let one : p.row ≡ q.row = cc in
        sym p.numbered ∙ ap record_number one ∙ q.numbered

pub one_first_bad : (t : Tables) (kind other : RowKind) (n m : ℕ) → IsFirstBad t kind n → IsFirstBad t other m → (kind ≡ other) × (n ≡ m)
one_first_bad t kind other n m (BadRecord p k) (BadRecord q o) = (k ∙ sym o, one_bad_record t.next_record t.records n m p q)
one_first_bad t kind other n m (BadRecord p k) (BadQuery records bad q o is') = absurd (read_not_bad t.next_record t.records n records p)
one_first_bad t kind other n m (BadRecord p k) (BadCursor records queries bad q o is') = absurd (read_not_bad t.next_record t.records n records p)
one_first_bad t kind other n m (BadQuery records row p k is) (BadRecord q o) = absurd (read_not_bad t.next_record t.records m records q)
one_first_bad t kind other n m (BadQuery records row p k is) (BadQuery records' bad q o is') = numbered ReadsQuery query_number t.queries row bad kind other Queries n m p q k o is is'
one_first_bad t kind other n m (BadQuery records row p k is) (BadCursor records' queries bad q o is') = absurd (each_not_bad ReadsQuery t.queries row queries p)
one_first_bad t kind other n m (BadCursor records queries row p k is) (BadRecord q o) = absurd (read_not_bad t.next_record t.records m records q)
one_first_bad t kind other n m (BadCursor records queries row p k is) (BadQuery records' bad q o is') = absurd (each_not_bad ReadsQuery t.queries bad queries q)
one_first_bad t kind other n m (BadCursor records queries row p k is) (BadCursor records' queries' bad q o is') =
    numbered (ReadsCursor t.queries t.next_cursor) cursor_number t.cursors row bad kind other Cursors n m p q k o is is'

-- ---- tables

pub reads_not_bad : (t : Tables) (kind : RowKind) (number : ℕ) → AllRead t → IsFirstBad t kind number → ⊥
reads_not_bad t kind number all (BadRecord bad is) = read_not_bad t.next_record t.records number all.records bad
reads_not_bad t kind number all (BadQuery records row bad is same) = each_not_bad ReadsQuery t.queries row all.queries bad
reads_not_bad t kind number all (BadCursor records queries row bad is same) = each_not_bad (ReadsCursor t.queries t.next_cursor) t.cursors row all.cursors bad
