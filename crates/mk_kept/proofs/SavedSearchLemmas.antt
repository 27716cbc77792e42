-- Saved searches as rows: what is known of them after one was put in its place, and after one was taken out.
--     new_kept, held_kept, out_kept          what is kept then
--     new_tables, held_tables, out_tables    and the tables
use Rattle.std.proofs.Common.{◌≡◌, ℕ, ◌+◌, ◌<◌, ◌≤◌, max, true, false, not, List, [], ◌∷◌, nat_eq, nat_lt, inl, inr, arith, refl, sym, ap, ◌∙◌}
use Rattle.std.specs.List.{AllByRecursion, list_any}
use Rattle.std.specs.Global.{Vec}
use Rattle.std.proofs.lemmas.Bool.{cases_lt, cond_both, eqb-true, true≢false}
use Rattle.std.proofs.lemmas.Grind.{common_steps}
use Rattle.mk_rows.specs.declared.by_number.Numbered.{Numbered}
use Rattle.mk_rows.specs.Rows.{holds, IsLeastFrom, NoneFrom, put_in_order, replaced, without}
use Rattle.mk_rows.proofs.ForCallers.{none_of}
use Rattle.mk_outside.specs.declared.tables.CursorRow.{CursorRow}
use Rattle.mk_outside.specs.declared.tables.QueryRow.{QueryRow}
use Rattle.mk_outside.specs.declared.tables.Change.TheVariants.{PutCursor, DropCursor}
use Rattle.mk_outside.specs.Rows.{put, in_place, in_order}
use Rattle.mk_outside.specs.Rows as outside
use Rattle.mk_outside.specs.Tables.{after_change, cursor_number}
use Rattle.mk_kept.specs.declared.saved.Kept.{Kept}
use Rattle.mk_kept.specs.declared.saved.SavedSearch.{SavedSearch}
use Rattle.mk_kept.specs.Saved.{IsKeptSearch, IsSaved, cursor_row, cursors_of, kept_tables, rows_of}

-- ---- rows under their numbers

held_of : (n : ℕ) (rows : List (Numbered SavedSearch)) → holds n rows ≡ list_any (λ (row : CursorRow). nat_eq row.number n) (cursors_of rows)
held_of n [] = refl
held_of n (row ∷ rows) = grind (arith, common_steps, held_of n rows)

in_order_of : (row : Numbered SavedSearch) (rows : List (Numbered SavedSearch)) → cursors_of (put_in_order row rows) ≡ in_order cursor_number (cursor_row row) (cursors_of rows)
in_order_of row [] = refl
in_order_of row (x ∷ rows) = grind (arith, common_steps, in_order_of row rows)

in_place_of : (row : Numbered SavedSearch) (rows : List (Numbered SavedSearch)) → cursors_of (replaced row rows) ≡ in_place cursor_number (cursor_row row) (cursors_of rows)
in_place_of row [] = refl
in_place_of row (x ∷ rows) = grind (arith, common_steps, in_place_of row rows)

put_new : (row : Numbered SavedSearch) (rows : List (Numbered SavedSearch)) → holds row.number rows ≡ false → cursors_of (put_in_order row rows) ≡ put cursor_number (cursor_row row) (cursors_of rows)
unfolding put
put_new row rows new =
    let none = sym (held_of row.number rows) ∙ new in
    rw none (in_order_of row rows)

put_held : (row : Numbered SavedSearch) (rows : List (Numbered SavedSearch)) → holds row.number rows ≡ true → cursors_of (replaced row rows) ≡ put cursor_number (cursor_row row) (cursors_of rows)
unfolding put
put_held row rows held =
    let some = sym (held_of row.number rows) ∙ held in
    rw some (in_place_of row rows)

without_of : (n : ℕ) (rows : List (Numbered SavedSearch)) → cursors_of (without n rows) ≡ outside.without cursor_number n (cursors_of rows)
unfolding outside.without
without_of n [] = refl
without_of n (x ∷ rows) = grind (arith, common_steps, without_of n rows)

-- ---- a number above all

first_under : {T : Type 0} (n : ℕ) (x : Numbered T) (rows : List (Numbered T)) → NoneFrom n (x ∷ rows) → x.number < n
first_under n x rows none = elim (cases_lt x.number n) [
  | inl less ↦ less
  | inr le ↦ absurd (true≢false (sym (grind (arith, common_steps)) ∙ none x.number (omega (arith, le))))
]

-- where none is held from a number on, all are below it
pub all_under : (n : ℕ) (rows : List (Numbered SavedSearch)) → NoneFrom n rows → AllByRecursion (λ (row : CursorRow). row.number < n) (cursors_of rows)
all_under n [] none = tt
all_under n (x ∷ rows) none = (first_under n x rows none, all_under n rows (λ m le. (none_of m x rows (none m le)).1))

under_held : (n m : ℕ) (rows : List (Numbered SavedSearch)) → AllByRecursion (λ (row : CursorRow). row.number < n) (cursors_of rows) → holds m rows ≡ true → m < n
under_held n m [] all held = cc
under_held n m (x ∷ rows) all held =
    cond_both (nat_eq x.number m) true (holds m rows) (λ b. b ≡ true → m < n)
    (λ e. λ _. let same = eqb-true x.number m e in omega (arith, all.0, same)) (λ _. λ later. under_held n m rows all.1 later)
    (grind (arith, common_steps, held))

-- where one is held from a number on, not all are below it
pub not_under : (n m : ℕ) (rows : List (Numbered SavedSearch)) → IsLeastFrom n rows m → AllByRecursion (λ (row : CursorRow). row.number < n) (cursors_of rows) → ⊥
not_under n m rows least all = let less = under_held n m rows all least.held in omega (arith, less, least.not_below)

-- ---- what holds of each

all_put : (P : CursorRow → Type 0) (row : Numbered SavedSearch) (rows : List (Numbered SavedSearch))
    → P (cursor_row row) → AllByRecursion P (cursors_of rows) → AllByRecursion P (cursors_of (put_in_order row rows))
all_put P row [] p all = (p, tt)
all_put P row (x ∷ rows) p all =
    cond_both (nat_lt row.number x.number) (row ∷ x ∷ rows) (x ∷ put_in_order row rows) (λ xs. AllByRecursion P (cursors_of xs))
    (λ _. (p, all)) (λ _. (all.0, all_put P row rows p all.1))

all_replaced : (P : CursorRow → Type 0) (row : Numbered SavedSearch) (rows : List (Numbered SavedSearch))
    → P (cursor_row row) → AllByRecursion P (cursors_of rows) → AllByRecursion P (cursors_of (replaced row rows))
all_replaced P row [] p all = tt
all_replaced P row (x ∷ rows) p all =
    cond_both (nat_eq x.number row.number) (row ∷ rows) (x ∷ replaced row rows) (λ xs. AllByRecursion P (cursors_of xs))
    (λ _. (p, all.1)) (λ _. (all.0, all_replaced P row rows p all.1))

all_without : (P : CursorRow → Type 0) (n : ℕ) (rows : List (Numbered SavedSearch)) → AllByRecursion P (cursors_of rows) → AllByRecursion P (cursors_of (without n rows))
all_without P n [] all = tt
all_without P n (x ∷ rows) all =
    cond_both (not (nat_eq x.number n)) (x ∷ without n rows) (without n rows) (λ xs. AllByRecursion P (cursors_of xs))
    (λ _. (all.0, all_without P n rows all.1)) (λ _. all_without P n rows all.1)

all_below : (queries : List QueryRow) (m n : ℕ) (rows : List CursorRow) → m ≤ n → AllByRecursion (IsKeptSearch queries m) rows → AllByRecursion (IsKeptSearch queries n) rows
all_below queries m n [] le all = tt
all_below queries m n (row ∷ rows) le all =
    (record { known = all.0.known; below = omega (arith, all.0.below); named = all.0.named; short = all.0.short }, all_below queries m n rows le all.1)

-- ---- one more

module _ (es : List (Vec ℕ × Kept)) (bytes next : ℕ) (rows : List (Numbered SavedSearch)) (row : Numbered SavedSearch) where
  later_kept : IsSaved es bytes rows next → (later : List (Numbered SavedSearch))
      → AllByRecursion (IsKeptSearch (rows_of es) (max next (row.number + 1))) (cursors_of later) → IsSaved es bytes later (max next (row.number + 1))
  later_kept kept later all =
      record { each = kept.each; rising = kept.rising; distinct = kept.distinct; few = kept.few; short = kept.short; counted = kept.counted; searches = all }

  pub new_kept : IsSaved es bytes rows next → IsKeptSearch (rows_of es) (max next (row.number + 1)) (cursor_row row) → IsSaved es bytes (put_in_order row rows) (max next (row.number + 1))
  new_kept kept is =
      later_kept kept (put_in_order row rows) (all_put (IsKeptSearch (rows_of es) (max next (row.number + 1))) row rows
      is (all_below (rows_of es) next (max next (row.number + 1)) (cursors_of rows) (omega arith) kept.searches))

  pub held_kept : IsSaved es bytes rows next → IsKeptSearch (rows_of es) (max next (row.number + 1)) (cursor_row row) → IsSaved es bytes (replaced row rows) (max next (row.number + 1))
  held_kept kept is =
      later_kept kept (replaced row rows) (all_replaced (IsKeptSearch (rows_of es) (max next (row.number + 1))) row rows
      is (all_below (rows_of es) next (max next (row.number + 1)) (cursors_of rows) (omega arith) kept.searches))

  pub new_tables : (queries : List QueryRow) → holds row.number rows ≡ false
      → kept_tables queries (cursors_of (put_in_order row rows)) (max next (row.number + 1)) ≡ after_change
      (PutCursor row.number row.item.name row.item.place) (kept_tables queries (cursors_of rows) next)
  new_tables queries new = ap (λ (xs : List CursorRow). kept_tables queries xs (max next (row.number + 1))) (put_new row rows new)

  pub held_tables : (queries : List QueryRow) → holds row.number rows ≡ true
      → kept_tables queries (cursors_of (replaced row rows)) (max next (row.number + 1)) ≡ after_change (PutCursor row.number row.item.name row.item.place) (kept_tables queries (cursors_of rows) next)
  held_tables queries held = ap (λ (xs : List CursorRow). kept_tables queries xs (max next (row.number + 1))) (put_held row rows held)

-- ---- one fewer

pub out_kept : (es : List (Vec ℕ × Kept)) (bytes next n : ℕ) (rows : List (Numbered SavedSearch)) → IsSaved es bytes rows next → IsSaved es bytes (without n rows) next
out_kept es bytes next n rows kept = record {
  each = kept.each;
  rising = kept.rising;
  distinct = kept.distinct;
  few = kept.few;
  short = kept.short;
  counted = kept.counted;
  searches = all_without (IsKeptSearch (rows_of es) next) n rows kept.searches;
}

pub out_tables : (queries : List QueryRow) (next n : ℕ) (rows : List (Numbered SavedSearch))
    → kept_tables queries (cursors_of (without n rows)) next ≡ after_change (DropCursor n) (kept_tables queries (cursors_of rows) next)
out_tables queries next n rows = ap (λ (xs : List CursorRow). kept_tables queries xs next) (without_of n rows)
