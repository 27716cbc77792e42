-- What an upsert by rowid comes to: a row that is put.
use Rattle.std.proofs.Common.{◌≡◌, ◌&&◌, ◌||◌, ◌⊎◌, inl, inr, ℕ, ◌<◌, ◌≤◌, ℤ, pos, List, [], ◌∷◌, length, map, drop, filter, find, fold, Bool, true}
use Rattle.std.proofs.Common.{false, not, cond, Option, Some, None, Ordering, Less, Equal, Greater, is_eq, is_lt, int_cmp, refl, sym, ap, subst, ◌∙◌, arith, IsPermutation, IsTrue, max}
use Rattle.std.specs.Prelude.{nat_lt}
use Rattle.std.specs.List.{AllByRecursion, list_any, list_all}
use Rattle.std.proofs.lemmas.Bool.{cases_Bool, and_parts, or_cases, false_from_ne_true, ltb-true, ltb-false}
use Rattle.std.proofs.lemmas.Int.{ints}
use Rattle.std.proofs.lemmas.List.Sorted.{length_permutation}
use Rattle.sqlite_value.specs.declared.value.Value.{Value}
use Rattle.sqlite_value.specs.declared.value.Value.TheVariants.{Null, Int, Real, Text, Blob}
use Rattle.sqlite_value.specs.declared.keys.Collation.TheVariants.{Binary}
use Rattle.sqlite_value.specs.Order.{Row, value_cmp, column}
use Rattle.sqlite_value.specs.Keys.{plain}
use Rattle.sqlite_value.proofs.OrderLemmas.{value_cmp-Int}
use Rattle.sqlite_value.proofs.KeyLemmas.{first_key-plain}
use Rattle.sqlite_trees.specs.declared.store.Shape.TheVariants.{Table}
use Rattle.sqlite_trees.specs.Tree.{rowid, IsTable, has_rowid, put_row, without_rowid}
use Rattle.sqlite_trees.specs.View.{is_int, IsShaped}
use Rattle.sqlite_schema.specs.declared.schema.Table as schema
use Rattle.sqlite_schema.specs.declared.schema.Index.{Index}
use Rattle.sqlite_schema.specs.Rules.{agree, equal}
use Rattle.sqlite_rules.specs.Cast.{cast_row}
use Rattle.sqlite_rules.specs.Keys.{AreConflicts, conflicts, shares}
use Rattle.sqlite_rules.specs.Edit.{without_all, put_all}
use Rattle.sqlite_rules.specs.Calls.{ids_of}
use Rattle.sqlite_rules.specs.Lists.{Has}
use Rattle.sqlite_rules.proofs.ListLemmas.{all_has}
use Rattle.sqlite.proofs.Callers.{one_permutation}
use Rattle.mk_sqlite.proofs.OneRowLemmas.{equal_test, one_row, put_over}

equal_is : (o : Ordering) → is_eq o ≡ true → o ≡ Equal
equal_is Less h = cc
equal_is Equal h = refl
equal_is Greater h = cc

same_int : (m n : ℤ) → int_cmp m n ≡ Equal → m ≡ n
same_int m n h = grind (arith, ints)

-- an integer rowid that ties with a number is that number
pub its_number : (r : Row) (n : ℤ) → IsTrue (is_int (rowid r)) → has_rowid n r ≡ true → rowid r ≡ Int n
its_number r n keyed h = go (rowid r) keyed (equal_is _ h)
  where
    go : (v : Value) → IsTrue (is_int v) → value_cmp v (Int n) ≡ Equal → v ≡ Int n
    go Null k e = cc
    go (Int m) k e = ap Int (same_int m n (sym (value_cmp-Int m n) ∙ e))
    go (Real x) k e = cc
    go (Text t) k e = cc
    go (Blob b) k e = cc

and_true : (b : Bool) → (b && true) ≡ b
and_true true = refl
and_true false = refl

or_false : (b : Bool) → (b || false) ≡ b
or_false true = refl
or_false false = refl

-- a row conflicts by its rowid alone, where no index has the rowid as its key
pub conflict_test : (indexes : List Index) (table : schema.Table) (new r : Row) (n : ℤ) → rowid new ≡ Int n → list_any (shares (Some (0 ∷ [])) table new r) indexes ≡ false
    → conflicts (Some (0 ∷ [])) indexes table new r ≡ has_rowid n r
conflict_test indexes table new r n id none =
    rw (none, first_key-plain, id) (or_false _ ∙ and_true _ ∙ equal_test (rowid r) n)

filter_both : {X : Type 0} (a b : X → Bool) (xs : List X) → filter (λ x. a x && b x) xs ≡ filter a (filter b xs)
filter_both a b [] = refl
filter_both {X} a b (x ∷ xs) = go (a x) (b x) refl (filter_both a b xs)
  where
    go : (c d : Bool) → a x ≡ c → filter (λ y. a y && b y) xs ≡ filter a (filter b xs) → cond (c && d) (x ∷ filter (λ y. a y && b y) xs) (filter (λ y. a y && b y) xs) ≡ filter a
        (cond d (x ∷ filter b xs) (filter b xs))
    go true true e more = rw e (ap (λ l. x ∷ l) more)
    go true false e more = more
    go false true e more = rw e more
    go false false e more = more

none_permuted : {X : Type 0} (ys : List X) → IsPermutation [] ys → ys ≡ []
none_permuted [] h = refl
none_permuted (y ∷ ys) h = absurd (omega (arith, length_permutation [] (y ∷ ys) h))

module _ (table : schema.Table) (n : ℕ) (rest : Row) (rows : List Row) (shaped : IsShaped Table rows) (cast : cast_row table (Int (pos n) ∷ rest) ≡ Int (pos n) ∷ rest) where
  abbrev row : Row
  row = Int (pos n) ∷ rest

  -- what replaces the row that is there
  pub replaced : (extra : Row → Bool) (asked : List Row) (r : Row)
      → IsPermutation (map (λ s. rowid s ∷ rowid s ∷ rest) (filter (λ s. extra s && has_rowid (pos n) s) rows)) asked → Has rows r → has_rowid (pos n) r ≡ true
      → put_all (without_all rows (ids_of asked)) (map (λ s. cast_row table (drop 1 s)) asked) ≡ cond (extra r) (put_row row rows) rows
  replaced extra asked r same there is = go (extra r) refl (subst (λ l. IsPermutation (map (λ s. rowid s ∷ rowid s ∷ rest) l) asked)
      (filter_both extra (has_rowid (pos n)) rows ∙ ap (filter extra) (one_row (pos n) rows r shaped.0 there is)) same)
    where
      go : (b : Bool) → extra r ≡ b → IsPermutation (map (λ s. rowid s ∷ rowid s ∷ rest) (cond (extra r) (r ∷ []) [])) asked
          → put_all (without_all rows (ids_of asked)) (map (λ s. cast_row table (drop 1 s)) asked) ≡ cond b (put_row row rows) rows
      go true e perm =
          let id = its_number r (pos n) (all_has (λ s. IsTrue (is_int (rowid s))) rows r shaped.1 there) is in
          let one : asked ≡ (Int (pos n) ∷ row) ∷ [] = one_permutation _ asked (subst (λ v. IsPermutation ((v ∷ v ∷ rest) ∷ []) asked) id (rw e at perm)) in
          rw one (rw cast (put_over (pos n) row rows refl shaped.0))
      go false e perm =
          let none : asked ≡ [] = none_permuted asked (rw e at perm) in
          rw none refl

-- ---- look-ups

-- the row of the number is what a look-up finds
pub found_row : (n : ℤ) (rows : List Row) (r : Row) → IsTable rows → Has rows r → has_rowid n r ≡ true → find (has_rowid n) rows ≡ Some r
found_row n rows r up h is = first (has_rowid n) rows r (one_row n rows r up h is)
  where
    first : (p : Row → Bool) (xs : List Row) (x : Row) → filter p xs ≡ x ∷ [] → find p xs ≡ Some x
    first p [] x e = cc
    first p (y ∷ xs) x e = go (p y) e (first p xs x)
      where
        go : (b : Bool) → cond b (y ∷ filter p xs) (filter p xs) ≡ x ∷ [] → (filter p xs ≡ x ∷ [] → find p xs ≡ Some x) → cond b (Some y) (find p xs) ≡ Some x
        go true e more = let same : y ≡ x = cc in ap Some same
        go false e more = more e

-- a row that was put is found
pub found_put : (n : ℤ) (new : Row) (rows : List Row) → has_rowid n new ≡ true → rowid new ≡ Int n → find (has_rowid n) (put_row new rows) ≡ Some new
found_put n new [] is id = rw is
found_put n new (r ∷ rows) is id = go (value_cmp (rowid r) (rowid new)) refl (found_put n new rows is id)
  where
    go : (o : Ordering) → value_cmp (rowid r) (rowid new) ≡ o → find (has_rowid n) (put_row new rows) ≡ Some new → find (has_rowid n)
        (Rattle.std.specs.Ordering.match_ordering o (r ∷ put_row new rows) (new ∷ rows) (new ∷ r ∷ rows)) ≡ Some new
    go Less e more = let other : has_rowid n r ≡ false = ap is_eq (ap (value_cmp (rowid r)) (sym id) ∙ e) in rw other more
    go Equal e more = rw is
    go Greater e more = rw is

-- a row of another number is found as before
pub found_other : (n : ℤ) (new : Row) (rows : List Row) → has_rowid n new ≡ false → find (has_rowid n) (put_row new rows) ≡ find (has_rowid n) rows
found_other n new [] is = rw is
found_other n new (r ∷ rows) is = go (value_cmp (rowid r) (rowid new)) refl (found_other n new rows is)
  where
    go : (o : Ordering) → value_cmp (rowid r) (rowid new) ≡ o → find (has_rowid n) (put_row new rows) ≡ find (has_rowid n) rows
        → find (has_rowid n) (Rattle.std.specs.Ordering.match_ordering o (r ∷ put_row new rows) (new ∷ rows) (new ∷ r ∷ rows)) ≡ find (has_rowid n) (r ∷ rows)
    go Less e more = rw more
    go Equal e more = let other : has_rowid n r ≡ false = ap is_eq (Rattle.sqlite_value.proofs.OrderLemmas.value_cmp_total.congr (rowid r) (rowid new) (Int n) e) ∙ is in rw (is, other)
    go Greater e more = rw is

-- none is found where none has the number
pub not_found : (n : ℤ) (rows : List Row) → ((r : Row) → Has rows r → has_rowid n r ≡ false) → find (has_rowid n) rows ≡ None
not_found n [] none = refl
not_found n (r ∷ rows) none = rw (none r (inl refl)) (not_found n rows (λ s h. none s (inr h)))
