-- The one row of a number, and tests that SQL makes.
use Rattle.std.proofs.Common.{◌≡◌, ◌&&◌, ◌||◌, ◌⊎◌, Some, ℕ, ℤ, pos, Bool, true, false, not, cond, List, [], ◌∷◌}
use Rattle.std.proofs.Common.{filter, refl, sym, ap, ◌∙◌, inl, inr, Ordering, Less, Equal, Greater, is_eq, is_lt, bytes_eq, nat_cmp, arith, subst}
use Rattle.std.specs.List.{AllByRecursion, list_all}
use Rattle.std.specs.Ordering.{match_ordering, ordering_then}
use Rattle.std.specs.Cmp.Lexicographic.{slice_cmp}
use Rattle.std.proofs.lemmas.Bool.Decides.{nat_tests}
use Rattle.std.proofs.lemmas.Cmp.{alike_right}
use Rattle.sqlite_value.specs.declared.value.Value.{Value}
use Rattle.sqlite_value.specs.declared.value.Value.TheVariants.{Null, Int, Real, Text, Blob}
use Rattle.sqlite_value.specs.declared.keys.Collation.TheVariants.{Binary}
use Rattle.sqlite_value.specs.Order.{Row, value_cmp, column}
use Rattle.sqlite_value.proofs.OrderLemmas.{value_cmp_total, value_cmp-Null, value_cmp-Text}
use Rattle.sqlite_trees.specs.Tree.{rowid, IsTable, has_rowid, put_row, without_rowid}
use Rattle.sqlite_trees.proofs.ListLemmas.{filter_all, filter_none, all_weaker}
use Rattle.sqlite_trees.proofs.TreeLemmas.{later_rowids}
use Rattle.sqlite_sql.specs.declared.ops.BinaryOp.TheVariants.{Compare}
use Rattle.sqlite_sql.specs.declared.ops.CompareOp.TheVariants.{Eq}
use Rattle.sqlite_sql.specs.Ops.{is_true, from_truth, unary, binary}
use Rattle.sqlite_schema.specs.declared.schema.Kind.TheVariants.{Integer}
use Rattle.sqlite_rules.specs.Cast.{cast}
use Rattle.sqlite_rules.specs.Lists.{Has}
use Rattle.sqlite_rules.proofs.ListLemmas.{all_has}

-- ---- tests

truth_of : (b : Bool) → is_true (from_truth (Some b)) ≡ b
truth_of true = refl
truth_of false = refl

-- the test of a column against a number
pub equal_test : (v : Value) (n : ℤ) → is_true (binary (Compare Eq Binary) v (Int n)) ≡ is_eq (value_cmp v (Int n))
unfolding binary
equal_test Null n = sym (ap is_eq (value_cmp-Null (Int n)))
equal_test (Int m) n = truth_of _
equal_test (Real x) n = truth_of _
equal_test (Text t) n = truth_of _
equal_test (Blob b) n = truth_of _

same_tests : (xs ys : List ℕ) → is_eq (slice_cmp nat_cmp xs ys) ≡ bytes_eq xs ys
same_tests [] [] = refl
same_tests [] (y ∷ ys) = refl
same_tests (x ∷ xs) [] = refl
same_tests (x ∷ xs) (y ∷ ys) = step x y _ _ (same_tests xs ys)
  where
    step : (a b : ℕ) (o : Ordering) (r : Bool) → is_eq o ≡ r → is_eq (ordering_then (nat_cmp a b) o) ≡ (Rattle.std.proofs.Common.eqb a b && r)
    step a b o r e = grind (arith, nat_tests)

-- the test of two texts
pub text_test : (a b : List ℕ) → is_true (binary (Compare Eq Binary) (Text a) (Text b)) ≡ bytes_eq a b
unfolding binary
text_test a b = truth_of _ ∙ ap is_eq (value_cmp-Text a b) ∙ same_tests a b

-- ---- values that a column takes as they are

either : (b : Bool) (x : Value) → cond b x x ≡ x
either true x = refl
either false x = refl

-- no value is cast to none
pub cast_null : cast Integer Null ≡ Null
unfolding unary
cast_null = either _ Null

-- a number is cast to itself
pub cast_int : (n : ℤ) → cast Integer (Int n) ≡ Int n
unfolding unary
cast_int n = either _ (Int n)

-- ---- the row of a number

equal_is : (o : Ordering) → is_eq o ≡ true → o ≡ Equal
equal_is Less h = cc
equal_is Equal h = refl
equal_is Greater h = cc

none_later : (n : ℤ) (x : Row) (rows : List Row) → is_lt (value_cmp (rowid x) (Int n)) ≡ false → AllByRecursion (λ r. value_cmp (rowid x) (rowid r) ≡ Less) rows → filter (has_rowid n) rows ≡ []
none_later n x rows h above = filter_none (has_rowid n) rows (later_rowids (Int n) x rows h above)

all_later : (n : ℤ) (x : Row) (rows : List Row) → is_lt (value_cmp (rowid x) (Int n)) ≡ false → AllByRecursion (λ r. value_cmp (rowid x) (rowid r) ≡ Less) rows → without_rowid n rows ≡ rows
all_later n x rows h above = filter_all (λ r. not (has_rowid n r)) rows (all_weaker (λ r. has_rowid n r ≡ false) (λ r. not (has_rowid n r) ≡ true) (λ r e. ap not e) rows
    (later_rowids (Int n) x rows h above))

-- no other row has the number
pub one_row : (n : ℤ) (rows : List Row) (r : Row) → IsTable rows → Has rows r → has_rowid n r ≡ true → filter (has_rowid n) rows ≡ r ∷ []
one_row n [] r up h is = absurd h
one_row n (x ∷ rows) r up (inl same) is =
    let here : has_rowid n x ≡ true = ap (has_rowid n) (sym same) ∙ is in
    rw (here, none_later n x rows (ap is_lt (equal_is _ here)) up.0) (ap (λ y. y ∷ []) (sym same))
one_row n (x ∷ rows) r up (inr later) is =
    let low : value_cmp (rowid x) (Int n) ≡ Less = sym (alike_right value_cmp_total (rowid r) (Int n) (rowid x) (equal_is _ is)) ∙ all_has (λ y. value_cmp (rowid x) (rowid y) ≡ Less) rows r up.0
    later in
    rw low (one_row n rows r up.1 later is)

first_put : (new x : Row) (rows : List Row) → value_cmp (rowid new) (rowid x) ≡ Less ⊎ (rowid new ≡ rowid x) → AllByRecursion (λ r. value_cmp (rowid x) (rowid r) ≡ Less) rows → put_row new rows ≡
    new ∷ rows
first_put new x [] h above = refl
first_put new x (r ∷ rows) h above = go (value_cmp (rowid r) (rowid new)) refl
  where
    lower : value_cmp (rowid new) (rowid r) ≡ Less
    lower = elim h [ inl less ↦ value_cmp_total.trans (rowid new) (rowid x) (rowid r) less above.0 | inr same ↦ rw same above.0 ]

    turned : value_cmp (rowid r) (rowid new) ≡ Greater
    turned = value_cmp_total.antisymm (rowid r) (rowid new) ∙ ap Rattle.std.specs.Ordering.ordering_reverse lower

    go : (o : Ordering) → value_cmp (rowid r) (rowid new) ≡ o → match_ordering o (r ∷ put_row new rows) (new ∷ rows) (new ∷ r ∷ rows) ≡ new ∷ r ∷ rows
    go Less e = let k = turned in cc
    go Equal e = let k = turned in cc
    go Greater e = refl

-- a row that is put takes the place of the row of its number
pub put_over : (n : ℤ) (new : Row) (rows : List Row) → rowid new ≡ Int n → IsTable rows → put_row new (without_rowid n rows) ≡ put_row new rows
put_over n new [] id up = refl
put_over n new (x ∷ rows) id up = go (value_cmp (rowid x) (Int n)) refl (put_over n new rows id up.1)
  where
    go : (o : Ordering) → value_cmp (rowid x) (Int n) ≡ o → put_row new (without_rowid n rows) ≡ put_row new rows → put_row new (without_rowid n (x ∷ rows)) ≡ put_row new (x ∷ rows)
    go Less e more = rw (e, ap (value_cmp (rowid x)) id ∙ e) (ap (λ l. x ∷ l) more)
    go Equal e more =
        let alike : value_cmp (rowid new) (rowid x) ≡ Equal = Rattle.std.proofs.lemmas.Cmp.tied_back value_cmp_total (rowid x) (rowid new) (ap (value_cmp (rowid x)) id ∙ e) in
        rw (e, ap (value_cmp (rowid x)) id ∙ e, all_later n x rows (ap is_lt e) up.0) (first_of new x rows alike up.0)
      where
        first_of : (new x : Row) (rows : List Row) → value_cmp (rowid new) (rowid x) ≡ Equal → AllByRecursion (λ r. value_cmp (rowid x) (rowid r) ≡ Less) rows → put_row new rows ≡ new ∷ rows
        first_of new x rows tie above = first_put new new rows (inr refl) (all_weaker (λ r. value_cmp (rowid x) (rowid r) ≡ Less) (λ r. value_cmp (rowid new) (rowid r) ≡ Less)
            (λ r h. value_cmp_total.congr (rowid new) (rowid x) (rowid r) tie ∙ h) rows above)
    go Greater e more = rw (e, ap (value_cmp (rowid x)) id ∙ e, all_later n x rows (ap is_lt e) up.0)
