-- Kept queries as rows: what is known of them after a query was put behind all, and after one was taken out.
--     named_by_key       a name is looked up as it stands in the rows
--     greatest_is_last   the greatest number is that of the last row
--     put_kept, put_tables       a query put behind all: what is kept, and the tables
--     out_kept, out_tables       a query taken out
use Rattle.std.proofs.Common.{◌≡◌, ℕ, zero, suc, ◌+◌, ◌-◌, ◌<◌, ◌≤◌, Bool, true, false, cond, ◌||◌, List, [], ◌∷◌, ◌++◌, length, nat_eq, bytes_eq, Option, Some, is_some, arith, refl, sym, ap, ◌∙◌, subst, length-append}
use Rattle.std.specs.Prelude.{slice_get, Result, Ok, Err, IsOk, OnOk}
use Rattle.std.specs.List.{AllByRecursion, list_any}
use Rattle.std.specs.Map.{lookup, remove_entry}
use Rattle.std.specs.Global.{Vec}
use Rattle.std.proofs.lemmas.Bool.{cond_both}
use Rattle.std.proofs.lemmas.Cmp.{nat_list_eq_equiv}
use Rattle.std.proofs.lemmas.List.{length-map, map-append}
use Rattle.std.proofs.lemmas.Slice.Eq.{bytes_eq-Decides}
use Rattle.std.proofs.lemmas.Grind.{common_steps}
use Rattle.indexmap.specs.IndexMap.{insert_entry}
use Rattle.mk_rows.specs.declared.by_number.Numbered.{Numbered}
use Rattle.mk_outside.specs.declared.tables.QueryRow.{QueryRow}
use Rattle.mk_outside.specs.declared.tables.CursorRow.{CursorRow}
use Rattle.mk_outside.specs.declared.tables.Change.TheVariants.{PutQuery, DropQuery}
use Rattle.mk_outside.specs.Rows.{put, in_order}
use Rattle.mk_outside.specs.Tables.{after_change, query_number, without_name}
use Rattle.mk_kept.specs.declared.saved.Kept.{Kept}
use Rattle.mk_kept.specs.declared.saved.SavedSearch.{SavedSearch}
use Rattle.mk_kept.specs.Saved.{AreDistinct, AreRisingQueries, IsKeptEntry, IsKeptSearch, IsSaved, bytes_of_texts, cursors_of, greatest_number, is_named, is_waiting, kept_tables, most_queries, query_row, rows_of}
use Rattle.mk_kept.specs.SavedPending.{IsInPlace}

-- ---- names

pub same_names : (a b : List ℕ) → bytes_eq a b ≡ bytes_eq b a
same_names a b = nat_list_eq_equiv.symm a b

some_if : {X : Type 0} (here : Bool) (x : X) (later : Option X) → is_some (cond here (Some x) later) ≡ (here || is_some later)
some_if true x later = refl
some_if false x later = refl

-- a name is looked up as it stands in the rows
pub named_by_key : (name : List ℕ) (es : List (Vec ℕ × Kept)) → is_some (lookup (λ k. bytes_eq name k.items) es) ≡ is_named name (rows_of es)
named_by_key name [] = refl
named_by_key name (e ∷ es) =
    some_if (bytes_eq name e.0.items) e.1 (lookup (λ k. bytes_eq name k.items) es)
    ∙ ap (λ (b : Bool). b || is_some (lookup (λ k. bytes_eq name k.items) es)) (same_names name e.0.items)
    ∙ ap (λ (b : Bool). bytes_eq e.0.items name || b) (named_by_key name es)

or_assoc : (a b c : Bool) → (a || (b || c)) ≡ ((a || b) || c)
or_assoc true b c = refl
or_assoc false b c = refl

or_false : (a : Bool) → (a || false) ≡ a
or_false true = refl
or_false false = refl

-- the names with one more
pub named_push : (name : List ℕ) (rows : List QueryRow) (row : QueryRow) → is_named name (rows ++ row ∷ []) ≡ (is_named name rows || bytes_eq row.name name)
named_push name [] row = or_false (bytes_eq row.name name)
named_push name (x ∷ rows) row =
    ap (λ (b : Bool). bytes_eq x.name name || b) (named_push name rows row) ∙ or_assoc (bytes_eq x.name name) (is_named name rows) (bytes_eq row.name name)

pub or_left_false : (a b : Bool) → (a || b) ≡ false → a ≡ false
or_left_false true b is = cc
or_left_false false b is = refl

pub or_right_false : (a b : Bool) → (a || b) ≡ false → b ≡ false
or_right_false true b is = cc
or_right_false false b is = is

pub or_left_true : (a b : Bool) → a ≡ true → (a || b) ≡ true
or_left_true true b is = refl
or_left_true false b is = cc

pub or_both_false : (a b : Bool) → a ≡ false → b ≡ false → (a || b) ≡ false
or_both_false true b p q = p
or_both_false false b p q = q

-- ---- a row behind all

pub each_push : {X : Type 0} (P : X → Type 0) (xs : List X) (x : X) → AllByRecursion P xs → P x → AllByRecursion P (xs ++ x ∷ [])
each_push P [] x all p = (p, tt)
each_push P (y ∷ xs) x all p = (all.0, each_push P xs x all.1 p)

pub bytes_push : (rows : List QueryRow) (row : QueryRow) → bytes_of_texts (rows ++ row ∷ []) ≡ bytes_of_texts rows + length row.text
bytes_push [] row = omega arith
bytes_push (x ∷ rows) row = let rest = bytes_push rows row in omega (arith, rest)

rising_push : (rows : List QueryRow) (row : QueryRow) → AreRisingQueries rows → AllByRecursion (λ (x : QueryRow). x.number < row.number) rows → AreRisingQueries (rows ++ row ∷ [])
rising_push [] row rising below = (tt, tt)
rising_push (x ∷ rows) row rising below = (each_push (λ (later : QueryRow). x.number < later.number) rows row rising.0 below.0, rising_push rows row rising.1 below.1)

distinct_push : (rows : List QueryRow) (row : QueryRow) → AreDistinct rows → is_named row.name rows ≡ false → AreDistinct (rows ++ row ∷ [])
distinct_push [] row distinct new = (refl, tt)
distinct_push (x ∷ rows) row distinct new =
    let here : bytes_eq row.name x.name ≡ false = same_names row.name x.name ∙ or_left_false (bytes_eq x.name row.name) (is_named row.name rows) new in (
      named_push x.name rows row ∙ or_both_false (is_named x.name rows) (bytes_eq row.name x.name) distinct.0 here,
      distinct_push rows row distinct.1 (or_right_false (bytes_eq x.name row.name) (is_named row.name rows) new),
    )

module _ {R : Type 0} (number : R → ℕ) (row : R) where
  none_there : (rows : List R) → AllByRecursion (λ x. number x < number row) rows → list_any (λ x. nat_eq (number x) (number row)) rows ≡ false
  none_there [] below = refl
  none_there (x ∷ rows) below =
      let less : number x < number row = below.0 in
      grind (arith, common_steps, none_there rows below.1)

  behind_all : (rows : List R) → AllByRecursion (λ x. number x < number row) rows → in_order number row rows ≡ rows ++ row ∷ []
  behind_all [] below = refl
  behind_all (x ∷ rows) below =
      let less : number x < number row = below.0 in
      grind (arith, common_steps, behind_all rows below.1)

  -- a row whose number is above all is put behind them
  pub put_behind : (rows : List R) → AllByRecursion (λ x. number x < number row) rows → put number row rows ≡ rows ++ row ∷ []
  unfolding put
  put_behind rows below = rw (none_there rows below) (behind_all rows below)

-- ---- searches whose queries are still held

pub searches_named : (queries later : List QueryRow) (next : ℕ) (rows : List CursorRow)
    → ((name : List ℕ) → is_named name queries ≡ true → is_named name later ≡ true)
    → AllByRecursion (IsKeptSearch queries next) rows → AllByRecursion (IsKeptSearch later next) rows
searches_named queries later next [] still all = tt
searches_named queries later next (row ∷ rows) still all =
    (record { known = all.0.known; below = all.0.below; named = still row.name all.0.named; short = all.0.short }, searches_named queries later next rows still all.1)

-- ---- a query put behind all

-- an answer that says nothing of a failure, where there is none
pub on_ok : {A E P : Type 0} (r : Result A E) → IsOk r → OnOk r P → P
on_ok (Ok x) is p = p
on_ok (Err e) is p = cc

-- a new name goes last
pub entries_push : (es : List (Vec ℕ × Kept)) (name : Vec ℕ) (kept : Kept) → is_named name.items (rows_of es) ≡ false
    → insert_entry (λ a b. bytes_eq a.items b.items) es name kept ≡ es ++ (name, kept) ∷ []
entries_push [] name kept new = refl
entries_push (e ∷ es) name kept new =
    let here : bytes_eq name.items e.0.items ≡ false = same_names name.items e.0.items ∙ or_left_false (bytes_eq e.0.items name.items) (is_named name.items (rows_of es)) new in
    let later = or_right_false (bytes_eq e.0.items name.items) (is_named name.items (rows_of es)) new in
    rw here (ap (λ (xs : List (Vec ℕ × Kept)). e ∷ xs) (entries_push es name kept later))

module _ (es : List (Vec ℕ × Kept)) (e : Vec ℕ × Kept) where
  pub rows_push : rows_of (es ++ e ∷ []) ≡ rows_of es ++ query_row e ∷ []
  rows_push = map-append query_row es (e ∷ [])

  pub put_kept : (bytes next : ℕ) (cursors : List (Numbered SavedSearch)) → IsSaved es bytes cursors next → IsKeptEntry e
      → IsInPlace (PutQuery e.1.number e.0.items e.1.text) (kept_tables (rows_of es) (cursors_of cursors) next)
      → IsSaved (es ++ e ∷ []) (bytes + length e.1.text) cursors next
  put_kept bytes next cursors kept entry place = record {
    each = each_push IsKeptEntry es e kept.each entry;
    rising = subst AreRisingQueries (sym rows_push) (rising_push (rows_of es) (query_row e) kept.rising place.0);
    distinct = subst AreDistinct (sym rows_push) (distinct_push (rows_of es) (query_row e) kept.distinct place.1);
    few = rw length-append (let few : length (rows_of es) < most_queries = place.2 in omega (arith, few, length-map es query_row));
    short = rw rows_push (let more = bytes_push (rows_of es) (query_row e) in omega (arith, more, place.3));
    counted = rw rows_push (let more = bytes_push (rows_of es) (query_row e) in omega (arith, more, kept.counted));
    searches = rw rows_push (searches_named (rows_of es) (rows_of es ++ query_row e ∷ []) next (cursors_of cursors)
        (λ name named. named_push name (rows_of es) (query_row e) ∙ or_left_true (is_named name (rows_of es)) (bytes_eq e.0.items name) named) kept.searches);
  }

  pub put_tables : (next : ℕ) (cursors : List CursorRow) → IsInPlace (PutQuery e.1.number e.0.items e.1.text) (kept_tables (rows_of es) cursors next)
      → kept_tables (rows_of (es ++ e ∷ [])) cursors next ≡ after_change (PutQuery e.1.number e.0.items e.1.text) (kept_tables (rows_of es) cursors next)
  put_tables next cursors place =
      ap (λ (rows : List QueryRow). kept_tables rows cursors next) (rows_push ∙ sym (put_behind query_number (query_row e) (rows_of es) place.0))

-- ---- the greatest number

below_weaker : (m n : ℕ) (rows : List QueryRow) → m ≤ n → AllByRecursion (λ (row : QueryRow). row.number ≤ m) rows → AllByRecursion (λ (row : QueryRow). row.number ≤ n) rows
below_weaker m n [] le all = tt
below_weaker m n (row ∷ rows) le all = (omega (arith, all.0), below_weaker m n rows le all.1)

-- no number is above the greatest
pub none_above_greatest : (rows : List QueryRow) → AllByRecursion (λ (row : QueryRow). row.number ≤ greatest_number rows) rows
none_above_greatest [] = tt
none_above_greatest (row ∷ rows) =
    (omega arith, below_weaker (greatest_number rows) (greatest_number (row ∷ rows)) rows (omega arith) (none_above_greatest rows))

pub below_all : (m n : ℕ) (rows : List QueryRow) → m < n → AllByRecursion (λ (row : QueryRow). row.number ≤ m) rows → AllByRecursion (λ (row : QueryRow). row.number < n) rows
below_all m n [] less all = tt
below_all m n (row ∷ rows) less all = (omega (arith, all.0), below_all m n rows less all.1)

-- what is above all is above the greatest
pub above_greatest : (n : ℕ) (rows : List QueryRow) → 1 ≤ n → AllByRecursion (λ (row : QueryRow). row.number < n) rows → greatest_number rows < n
above_greatest n [] some all = omega arith
above_greatest n (row ∷ rows) some all = let rest = above_greatest n rows some all.1 in omega (arith, rest, all.0)

some_entry : (a b : Vec ℕ × Kept) → Some a ≡ Some b → a ≡ b
some_entry a b is = cc

greatest_at : (es : List (Vec ℕ × Kept)) (i : ℕ) (e : Vec ℕ × Kept) → AreRisingQueries (rows_of es) → length es ≡ suc i → slice_get es i ≡ Some e → greatest_number (rows_of es) ≡ e.1.number
greatest_at [] i e rising size at = absurd (omega (arith, size))
greatest_at (x ∷ []) zero e rising size at =
    let same : x.1.number ≡ e.1.number = ap (λ (y : Vec ℕ × Kept). y.1.number) (some_entry x e at) in
    omega (arith, same)
greatest_at (x ∷ []) (suc i) e rising size at = absurd (omega (arith, size))
greatest_at (x ∷ y ∷ es) zero e rising size at = absurd (omega (arith, size))
greatest_at (x ∷ y ∷ es) (suc i) e rising size at =
    let rest : greatest_number (rows_of (y ∷ es)) ≡ e.1.number = greatest_at (y ∷ es) i e rising.1 (omega (arith, size)) at in
    let below : x.1.number < y.1.number = rising.0.0 in
    omega (arith, rest, below)

-- the numbers rise, so the last one is the greatest
pub greatest_is_last : (es : List (Vec ℕ × Kept)) (e : Vec ℕ × Kept) → AreRisingQueries (rows_of es) → slice_get es (length es - 1) ≡ Some e → greatest_number (rows_of es) ≡ e.1.number
greatest_is_last [] e rising last = cc
greatest_is_last (x ∷ es) e rising last =
    greatest_at (x ∷ es) (length es) e rising refl (subst (λ k. slice_get (x ∷ es) k ≡ Some e) (omega arith) last)

-- ---- a query taken out

-- the test by which the name is looked up
abbrev has_key : List ℕ → Vec ℕ → Bool
has_key name k = bytes_eq name k.items

none_without : (name : List ℕ) (rows : List QueryRow) → is_named name rows ≡ false → without_name name rows ≡ rows
unfolding without_name
none_without name [] none = refl
none_without name (x ∷ rows) none =
    let here : bytes_eq x.name name ≡ false = or_left_false (bytes_eq x.name name) (is_named name rows) none in
    rw here (ap (λ (later : List QueryRow). x ∷ later) (none_without name rows (or_right_false (bytes_eq x.name name) (is_named name rows) none)))

out_by : (name : List ℕ) (e : Vec ℕ × Kept) (es : List (Vec ℕ × Kept)) (here : Bool) → bytes_eq name e.0.items ≡ here → is_named e.0.items (rows_of es) ≡ false
    → rows_of (remove_entry (has_key name) es) ≡ without_name name (rows_of es) → rows_of (remove_entry (has_key name) (e ∷ es)) ≡ without_name name (rows_of (e ∷ es))
unfolding without_name
out_by name e es true is new rest =
    let there : bytes_eq e.0.items name ≡ true = same_names e.0.items name ∙ is in
    let same : name ≡ e.0.items = (bytes_eq-Decides name e.0.items).0 is in
    rw (is, there) (sym (none_without name (rows_of es) (subst (λ (n : List ℕ). is_named n (rows_of es) ≡ false) (sym same) new)))
out_by name e es false is new rest =
    let there : bytes_eq e.0.items name ≡ false = same_names e.0.items name ∙ is in
    rw (is, there) (ap (λ (later : List QueryRow). query_row e ∷ later) rest)

-- the rows without the query of the name
pub out_rows : (name : List ℕ) (es : List (Vec ℕ × Kept)) → AreDistinct (rows_of es) → rows_of (remove_entry (has_key name) es) ≡ without_name name (rows_of es)
unfolding without_name
out_rows name [] distinct = refl
out_rows name (e ∷ es) distinct = out_by name e es (bytes_eq name e.0.items) refl distinct.0 (out_rows name es distinct.1)

module _ (name : List ℕ) where
  each_out : (P : Vec ℕ × Kept → Type 0) (es : List (Vec ℕ × Kept)) → AllByRecursion P es → AllByRecursion P (remove_entry (has_key name) es)
  each_out P [] all = tt
  each_out P (e ∷ es) all =
      cond_both (has_key name e.0) es (e ∷ remove_entry (has_key name) es) (AllByRecursion P) (λ _. all.1) (λ _. (all.0, each_out P es all.1))

  rows_out : (P : QueryRow → Type 0) (es : List (Vec ℕ × Kept)) → AllByRecursion P (rows_of es) → AllByRecursion P (rows_of (remove_entry (has_key name) es))
  rows_out P [] all = tt
  rows_out P (e ∷ es) all =
      cond_both (has_key name e.0) es (e ∷ remove_entry (has_key name) es) (λ xs. AllByRecursion P (rows_of xs)) (λ _. all.1) (λ _. (all.0, rows_out P es all.1))

  rising_out : (es : List (Vec ℕ × Kept)) → AreRisingQueries (rows_of es) → AreRisingQueries (rows_of (remove_entry (has_key name) es))
  rising_out [] rising = tt
  rising_out (e ∷ es) rising =
      cond_both (has_key name e.0) es (e ∷ remove_entry (has_key name) es) (λ xs. AreRisingQueries (rows_of xs))
      (λ _. rising.1) (λ _. (rows_out (λ (later : QueryRow). e.1.number < later.number) es rising.0, rising_out es rising.1))

  new_out : (n : List ℕ) (es : List (Vec ℕ × Kept)) → is_named n (rows_of es) ≡ false → is_named n (rows_of (remove_entry (has_key name) es)) ≡ false
  new_out n [] new = refl
  new_out n (e ∷ es) new =
      let here = or_left_false (bytes_eq e.0.items n) (is_named n (rows_of es)) new in
      let later = or_right_false (bytes_eq e.0.items n) (is_named n (rows_of es)) new in
      cond_both (has_key name e.0) es (e ∷ remove_entry (has_key name) es) (λ xs. is_named n (rows_of xs) ≡ false)
      (λ _. later) (λ _. or_both_false (bytes_eq e.0.items n) (is_named n (rows_of (remove_entry (has_key name) es))) here (new_out n es later))

  distinct_out : (es : List (Vec ℕ × Kept)) → AreDistinct (rows_of es) → AreDistinct (rows_of (remove_entry (has_key name) es))
  distinct_out [] distinct = tt
  distinct_out (e ∷ es) distinct =
      cond_both (has_key name e.0) es (e ∷ remove_entry (has_key name) es) (λ xs. AreDistinct (rows_of xs))
      (λ _. distinct.1) (λ _. (new_out e.0.items es distinct.0, distinct_out es distinct.1))

  fewer_out : (es : List (Vec ℕ × Kept)) → length (remove_entry (has_key name) es) ≤ length es
  fewer_out [] = omega arith
  fewer_out (e ∷ es) =
      let rest = fewer_out es in
      cond_both (has_key name e.0) es (e ∷ remove_entry (has_key name) es) (λ xs. length xs ≤ length (e ∷ es)) (λ _. omega arith) (λ _. omega (arith, rest))

  pub some_same : (a b : Kept) → Some a ≡ Some b → a ≡ b
  some_same a b is = cc

  pub bytes_out : (es : List (Vec ℕ × Kept)) (kept : Kept) → lookup (has_key name) es ≡ Some kept
      → bytes_of_texts (rows_of (remove_entry (has_key name) es)) + length kept.text ≡ bytes_of_texts (rows_of es)
  bytes_out [] kept is = cc
  bytes_out (e ∷ es) kept is =
      cond_both (has_key name e.0) (Some e.1) (lookup (has_key name) es)
      (λ found. found ≡ Some kept → bytes_of_texts (rows_of (cond (has_key name e.0) es (e ∷ remove_entry (has_key name) es))) + length kept.text ≡ bytes_of_texts (rows_of (e ∷ es)))
      (λ found. λ here. let same : length e.1.text ≡ length kept.text = ap (λ (k : Kept). length k.text) (some_same e.1 kept here) in rw found (omega (arith, same)))
      (λ other. λ later. let rest = bytes_out es kept later in rw other (omega (arith, rest)))
      is

  -- another name stays
  named_out : (n : List ℕ) (es : List (Vec ℕ × Kept)) → bytes_eq n name ≡ false → is_named n (rows_of es) ≡ true → is_named n (rows_of (remove_entry (has_key name) es)) ≡ true
  named_out n [] other named = cc
  named_out n (e ∷ es) other named =
      cond_both (has_key name e.0) es (e ∷ remove_entry (has_key name) es) (λ xs. is_named n (rows_of xs) ≡ true)
      (λ found. not_here found) (λ _. or_rest (bytes_eq e.0.items n) (is_named n (rows_of es)) (is_named n (rows_of (remove_entry (has_key name) es))) (named_out n es other) named)
    where
      or_rest : (a b c : Bool) → (b ≡ true → c ≡ true) → (a || b) ≡ true → (a || c) ≡ true
      or_rest true b c later is = refl
      or_rest false b c later is = later is

      or_false_rest : (a b : Bool) → a ≡ false → (a || b) ≡ true → b ≡ true
      or_false_rest true b p is = cc
      or_false_rest false b p is = is

      not_here : bytes_eq name e.0.items ≡ true → is_named n (rows_of es) ≡ true
      not_here found =
          let same : name ≡ e.0.items = (bytes_eq-Decides name e.0.items).0 found in
          let away : bytes_eq e.0.items n ≡ false = same_names e.0.items n ∙ subst (λ (m : List ℕ). bytes_eq n m ≡ false) same other in
          or_false_rest (bytes_eq e.0.items n) (is_named n (rows_of es)) away named

  searches_out : (es : List (Vec ℕ × Kept)) (next : ℕ) (rows : List CursorRow) → is_waiting name rows ≡ false
      → AllByRecursion (IsKeptSearch (rows_of es) next) rows → AllByRecursion (IsKeptSearch (rows_of (remove_entry (has_key name) es)) next) rows
  searches_out es next [] none all = tt
  searches_out es next (row ∷ rows) none all =
      let other = or_left_false (bytes_eq row.name name) (is_waiting name rows) none in
      let later = or_right_false (bytes_eq row.name name) (is_waiting name rows) none in
      (record { known = all.0.known; below = all.0.below; named = named_out row.name es other all.0.named; short = all.0.short }, searches_out es next rows later all.1)

  pub out_kept : (es : List (Vec ℕ × Kept)) (bytes next : ℕ) (cursors : List (Numbered SavedSearch)) (kept : Kept) → IsSaved es bytes cursors next
      → lookup (has_key name) es ≡ Some kept → is_waiting name (cursors_of cursors) ≡ false
      → IsSaved (remove_entry (has_key name) es) (bytes - length kept.text) cursors next
  out_kept es bytes next cursors kept is found none =
      let all = bytes_out es kept found in
      record {
        each = each_out IsKeptEntry es is.each;
        rising = rising_out es is.rising;
        distinct = distinct_out es is.distinct;
        few = let fewer = fewer_out es in omega (arith, fewer, is.few);
        short = omega (arith, all, is.short);
        counted = omega (arith, all, is.counted);
        searches = searches_out es next (cursors_of cursors) none is.searches;
      }

  pub out_tables : (es : List (Vec ℕ × Kept)) (next : ℕ) (cursors : List CursorRow) → AreDistinct (rows_of es)
      → kept_tables (rows_of (remove_entry (has_key name) es)) cursors next ≡ after_change (DropQuery name) (kept_tables (rows_of es) cursors next)
  out_tables es next cursors distinct = ap (λ (rows : List QueryRow). kept_tables rows cursors next) (out_rows name es distinct)
