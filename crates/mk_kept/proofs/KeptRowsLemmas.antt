-- Rows that each read behind those before them, after some were left out or one took the place of another.
--     all_of_each        what holds of each row that reads
--     each_for           the same rows, read in another way
--     filter_reads       rows of which some were left out
--     replaced_reads     rows of which one took the place of another of its number
use Rattle.std.proofs.Common.{◌≡◌, ℕ, Bool, true, false, nat_eq, ◌⊎◌, inl, inr, List, [], ◌∷◌, ◌++◌, map, filter, append_assoc, refl, sym, ap, ◌∙◌, subst}
use Rattle.std.specs.List.{AllByRecursion}
use Rattle.std.proofs.lemmas.Bool.{cond_both, eqb-true}
use Rattle.mk_outside.specs.Rows.{in_place}
use Rattle.mk_kept.specs.StoredRows.{EachReads}

module _ {R : Type 0} (Reads : List R → R → Type 0) where
  all_behind : (P : R → Type 0) → ((front : List R) (row : R) → Reads front row → P row) → (passed rows : List R) → EachReads Reads (passed ++ rows) → AllByRecursion P rows
  all_behind P says passed [] each = tt
  all_behind P says passed (row ∷ rows) each = (
    says passed row (each passed row rows refl),
    all_behind P says (passed ++ row ∷ []) rows (subst (λ (all : List R). EachReads Reads all) (sym (append_assoc passed (row ∷ []) rows)) each),
  )

  -- what holds of each row that reads
  pub all_of_each : (P : R → Type 0) → ((front : List R) (row : R) → Reads front row → P row) → (rows : List R) → EachReads Reads rows → AllByRecursion P rows
  all_of_each P says rows each = all_behind P says [] rows each

  -- the same rows, read in another way
  pub each_for : (Others : List R → R → Type 0) (rows : List R) → ((front : List R) (row : R) (later : List R) → rows ≡ front ++ row ∷ later → Reads front row → Others front row)
      → EachReads Reads rows → EachReads Others rows
  each_for Others rows says each = λ front row later whole. says front row later whole (each front row later whole)

-- ---- rows of which some are left out

-- before the row stood these among all rows, and of them those are left that stand before it now
record IsLeftAt {R : Type 0} (stays : R → Bool) (rows front : List R) (row : R) : Type 0 where
  before : List R
  later : List R
  whole : rows ≡ before ++ row ∷ later
  fewer : front ≡ filter stays before

module _ {R : Type 0} (stays : R → Bool) where
  filter_first : (x : R) (rows : List R) → stays x ≡ true → x ∷ filter stays rows ≡ filter stays (x ∷ rows)
  filter_first x rows stands = rw stands refl

  filter_later : (x : R) (rows : List R) → stays x ≡ false → filter stays rows ≡ filter stays (x ∷ rows)
  filter_later x rows gone = rw gone refl

  left_at : (rows front others : List R) (row : R) → filter stays rows ≡ front ++ row ∷ others → IsLeftAt stays rows front row
  left_at [] [] others row is = absurd cc
  left_at [] (y ∷ front) others row is = absurd cc
  left_at (x ∷ rows) [] others row is =
      cond_both (stays x) (x ∷ filter stays rows) (filter stays rows) (λ (left : List R). left ≡ row ∷ others → IsLeftAt stays (x ∷ rows) [] row)
      (λ stands. λ e. let same : x ≡ row = cc in record { before = []; later = rows; whole = ap (λ (r : R). r ∷ rows) same; fewer = refl })
      (λ gone. λ e. let at = left_at rows [] others row e
      in record {
        before = x ∷ at.before;
        later = at.later;
        whole = ap (λ (rs : List R). x ∷ rs) at.whole;
        fewer = at.fewer ∙ filter_later x at.before gone;
      })
      is
  left_at (x ∷ rows) (y ∷ front) others row is =
      cond_both (stays x) (x ∷ filter stays rows) (filter stays rows) (λ (left : List R). left ≡ y ∷ front ++ row ∷ others → IsLeftAt stays (x ∷ rows) (y ∷ front) row)
      (λ stands. λ e.
      let same : y ≡ x = cc in
      let rest : filter stays rows ≡ front ++ row ∷ others = cc in
      let at = left_at rows front others row rest in
      record { before = x ∷ at.before; later = at.later; whole = ap (λ (rs : List R). x ∷ rs) at.whole; fewer = (λ j. same j ∷ at.fewer j) ∙ filter_first x at.before stands })
      (λ gone. λ e. let at = left_at rows (y ∷ front) others row e
      in record {
        before = x ∷ at.before;
        later = at.later;
        whole = ap (λ (rs : List R). x ∷ rs) at.whole;
        fewer = at.fewer ∙ filter_later x at.before gone;
      })
      is

  -- rows of which some are left out read where each reads with fewer before it
  pub filter_reads : (Reads : List R → R → Type 0) → ((front : List R) (row : R) → Reads front row
      → Reads (filter stays front) row) → (rows : List R) → EachReads Reads rows → EachReads Reads (filter stays rows)
  filter_reads Reads still rows each = λ front row others whole.
      let at = left_at rows front others row whole in
      subst (λ (f : List R). Reads f row) (sym at.fewer) (still at.before row (each at.before row at.later at.whole))

-- ---- a row in place of another of its number

-- at the row's place stood this one, which is the row itself, or of the number of the new one, which is the row now
record IsStandingAt {R : Type 0} (number : R → ℕ) (new : R) (rows front : List R) (row : R) : Type 0 where
  before : List R
  former : R
  later : List R
  whole : rows ≡ before ++ former ∷ later
  numbers : map number front ≡ map number before
  is : (former ≡ row) ⊎ ((row ≡ new) × (number former ≡ number new))

module _ {R : Type 0} (number : R → ℕ) (new : R) where
  standing_at : (rows front others : List R) (row : R) → in_place number new rows ≡ front ++ row ∷ others → IsStandingAt number new rows front row
  standing_at [] [] others row is = absurd cc
  standing_at [] (y ∷ front) others row is = absurd cc
  standing_at (x ∷ rows) [] others row is =
      cond_both (nat_eq (number x) (number new)) (new ∷ rows) (x ∷ in_place number new rows) (λ (all : List R). all ≡ row ∷ others → IsStandingAt number new (x ∷ rows) [] row)
      (λ stands. λ e. let same : row ≡ new = cc in record { before = []; former = x; later = rows; whole = refl; numbers = refl; is = inr (same, eqb-true _ _ stands) })
      (λ gone. λ e. let same : x ≡ row = cc in record { before = []; former = x; later = rows; whole = refl; numbers = refl; is = inl same })
      is
  standing_at (x ∷ rows) (y ∷ front) others row is =
      cond_both (nat_eq (number x) (number new)) (new ∷ rows) (x ∷ in_place number new rows) (λ (all : List R). all ≡ y ∷ front ++ row ∷ others → IsStandingAt number new (x ∷ rows) (y ∷ front) row)
      (λ stands. λ e.
      let same : y ≡ new = cc in
      let rest : rows ≡ front ++ row ∷ others = cc in
      record {
        before = x ∷ front;
        former = row;
        later = others;
        whole = ap (λ (rs : List R). x ∷ rs) rest;
        numbers = ap (λ (n : ℕ). n ∷ map number front) (ap number same ∙ sym (eqb-true _ _ stands));
        is = inl refl;
      })
      (λ gone. λ e.
      let same : y ≡ x = cc in
      let rest : in_place number new rows ≡ front ++ row ∷ others = cc in
      let at = standing_at rows front others row rest in
      record {
        before = x ∷ at.before;
        former = at.former;
        later = at.later;
        whole = ap (λ (rs : List R). x ∷ rs) at.whole;
        numbers = (λ j. number (same j) ∷ at.numbers j);
        is = at.is;
      })
      is

  -- Rows of which one was replaced by the new one read, where reading asks of the rows before for their numbers alone, and the new
  -- one reads wherever one of its number did.
  pub replaced_reads : (Reads : List R → R → Type 0) → ((front before : List R) (row : R) → map number front ≡ map number before → Reads before row → Reads front row)
      → ((front : List R) (former : R) → number former ≡ number new → Reads front former → Reads front new)
      → (rows : List R) → EachReads Reads rows → EachReads Reads (in_place number new rows)
  replaced_reads Reads by_numbers takes rows each = λ front row others whole.
      let at = standing_at rows front others row whole in
      let there = each at.before at.former at.later at.whole in
      elim at.is [
        | inl same ↦ by_numbers front at.before row at.numbers (subst (λ (r : R). Reads at.before r) same there)
        | inr (same, numbered) ↦ by_numbers front at.before row at.numbers (subst (λ (r : R). Reads at.before r) (sym same) (takes at.before at.former numbered there))
      ]
