-- The atoms that bear attachment points, found atom by atom.
use Rattle.std.proofs.Common.{◌≡◌, ◌+◌, ◌-◌, ℕ, Bool, true, false, cond, List, [], ◌∷◌, ◌++◌, refl, ap, sym, ◌∙◌, length, arith}
use Rattle.std.specs.Prelude.{ℤ, pos}
use Rattle.std.specs.List.{filter, range_with_len}
use Rattle.std.proofs.lemmas.List.{append-nil, append_assoc}
use Rattle.mk_tables.specs.declared.raw.RawTable.{RawTable}
use Rattle.mk_demands.specs.Charges.{last_or, values_for}
use Rattle.mk_query.specs.Compiled.{points_of}
use Rattle.mk_query.specs.Drawn.{bears_point, gives_point, pairs_by}
use Rattle.mk_query.specs.Drawn.{point_pairs}
use Rattle.mk_query.specs.LastValues.{AreLastValues}
use Rattle.mk_query.specs.TemplateMarks.{bearers, bears_by}
use Rattle.mk_query.proofs.RangeLemmas.{filter_more, filter_same}

-- the atom behind the first i bears the point
pub bearer_yes : (start points : List ℕ) (values : List ℤ) (p i : ℕ) → bears_by values p (i + 1) ≡ true
    → points ≡ start ++ bearers values p i → points ++ (i + 1) ∷ [] ≡ start ++ bearers values p (i + 1)
bearer_yes start points values p i test are =
    let next : bearers values p (i + 1) ≡ bearers values p i ++ (i + 1) ∷ [] = filter_more (bears_by values p) i ∙ ap (λ (b : Bool). bearers values p i ++ cond b ((i + 1) ∷ []) []) test in
    ap (λ (l : List ℕ). l ++ (i + 1) ∷ []) are ∙ append_assoc start (bearers values p i) ((i + 1) ∷ []) ∙ ap (λ (l : List ℕ). start ++ l) (sym next)

-- it doesn't
pub bearer_no : (start points : List ℕ) (values : List ℤ) (p i : ℕ) → bears_by values p (i + 1) ≡ false → points ≡ start ++ bearers values p i → points ≡ start ++ bearers values p (i + 1)
bearer_no start points values p i test are =
    let next : bearers values p (i + 1) ≡ bearers values p i = filter_more (bears_by values p) i
    ∙ ap (λ (b : Bool). bearers values p i ++ cond b ((i + 1) ∷ []) []) test ∙ append-nil (bearers values p i) in
    are ∙ ap (λ (l : List ℕ). start ++ l) (sym next)

-- those of a table
bearers_are : (table : RawTable) (values : List ℤ) (p : ℕ) → length values ≡ length table.atoms
    → AreLastValues point_pairs table.props values → bearers values p (length values) ≡ filter (bears_point table p)
    (range_with_len 1 (length table.atoms))
bearers_are table values p size are =
    filter_same (bears_by values p) (bears_point table p) (length values)
    (λ x least most.
    let place : x - 1 + 1 ≡ x = omega (arith, least) in
    ap (gives_point p) (are (x - 1) (omega (arith, least, most)) ∙ ap (λ (y : ℕ). last_or (pos 0) (values_for y (pairs_by point_pairs table.props))) place))
    ∙ ap (λ (n : ℕ). filter (bears_point table p) (range_with_len 1 n)) size

points_are : (table : RawTable) (values : List ℤ) → length values ≡ length table.atoms
    → AreLastValues point_pairs table.props values → bearers values 1 (length values) ++ bearers values 2
    (length values) ≡ points_of table
points_are table values size are = rw (bearers_are table values 1 size are, bearers_are table values 2 size are) refl

-- first those with point 1, and then those with point 2
pub points_put : (table : RawTable) (values first second : List ℤ) (none one two points : List ℕ) → none ≡ [] → first ≡ values → second ≡ values
    → one ≡ none ++ bearers first 1 (length first) → two ≡ one ++ bearers second 2 (length second) → points ≡ two
    → length values ≡ length table.atoms → AreLastValues point_pairs table.props values → points ≡ points_of table
points_put table values first second none one two points empty first_is second_is one_is two_is is size are =
    let one_are : one ≡ bearers values 1 (length values) = one_is ∙ ap (λ (l : List ℕ). l ++ bearers first 1 (length first)) empty ∙ ap (λ (v : List ℤ). bearers v 1 (length v)) first_is in
    let two_are : two ≡ one ++ bearers values 2 (length values) = two_is ∙ ap (λ (v : List ℤ). one ++ bearers v 2 (length v)) second_is in
    is ∙ two_are ∙ ap (λ (l : List ℕ). l ++ bearers values 2 (length values)) one_are ∙ points_are table values size are
