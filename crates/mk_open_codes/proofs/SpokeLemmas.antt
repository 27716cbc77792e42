-- The bonds of an atom that lead to atoms which pass a test.
--     meets_at P p x y      one of x and y is p, and the other passes the test
--     spoke P p bond        the bond is one of p's, and its other end passes the test
--     spoke_between         of a bond between two places
--     spanned_count         of the bonds between two pieces
--     pieces_claim          no more of them lead away from a part than it has loose ends
--     pieces_lower          and none of them is lost
use Rattle.std.proofs.Common.{◌≡◌, ◌≢◌, ℕ, ◌+◌, ◌≤◌, Bool, true, false, cond, ◌&&◌, ◌||◌, not, eqb, ltb, [], ◌∷◌, refl, ap, arith}
use Rattle.std.specs.Prelude.{count_by}
use Rattle.std.proofs.lemmas.Bool.Decides.{nat_tests}
use Rattle.mk_model.specs.declared.template.QueryBond.{QueryBond}
use Rattle.mk_model.specs.Expansions.{bond_between, is_hydrogens, is_nothing, spanned}
use Rattle.mk_model.specs.Pieces.{Piece}
use Rattle.mk_pieces.proofs.FoundBondLemmas.{either_way}
use Rattle.mk_expand.proofs.CountLemmas.{count_cons, one_if}

-- one of x and y is p, and the other passes the test
abbrev pub meets_at : (ℕ → Bool) → ℕ → ℕ → ℕ → Bool
meets_at P p x y = (eqb x p && P y) || (eqb y p && P x)

-- the bond ends at p, and its other end passes the test
abbrev pub spoke : (ℕ → Bool) → ℕ → QueryBond → Bool
spoke P p bond = meets_at P p bond.first bond.second

pub spoke_between : (P : ℕ → Bool) (p x y kind topology : ℕ) → spoke P p (bond_between x y kind topology) ≡ meets_at P p x y
spoke_between P p x y kind topology = by (ltb x y)
  where
    by : (less : Bool) → spoke P p (cond less (record { first = x; second = y; kind = kind; topology = topology }) (record { first = y; second = x; kind = kind; topology = topology }))
        ≡ meets_at P p x y
    by true = refl
    by false = either_way (eqb y p && P x) (eqb x p && P y)

-- a bond that doesn't end there
pub no_spoke : (P : ℕ → Bool) (p x y : ℕ) → x ≢ p → y ≢ p → meets_at P p x y ≡ false
no_spoke P p x y first second = (let e : eqb x p ≡ false = grind (arith, nat_tests) in let f : eqb y p ≡ false = grind (arith, nat_tests) in rw (e, f) refl)

one_counted : (P : ℕ → Bool) (p x y kind topology : ℕ) → count_by (spoke P p) (bond_between x y kind topology ∷ []) ≡ one_if (meets_at P p x y)
one_counted P p x y kind topology = (let own : one_if (spoke P p (bond_between x y kind topology)) ≡ one_if (meets_at P p x y) = ap one_if (spoke_between P p x y kind topology) in
    omega (arith, own, count_cons (spoke P p) (bond_between x y kind topology) []))

-- none where a piece is nothing, and else one where it is one
pub spanned_count : (P : ℕ → Bool) (p : ℕ) (A B : Piece) (bond : QueryBond) (x y : ℕ)
    → count_by (spoke P p) (spanned A B bond x y) ≡ cond (is_nothing A || is_nothing B) 0 (one_if (meets_at P p x y))
spanned_count P p A B bond x y = by (is_nothing A || is_nothing B) (is_hydrogens A || is_hydrogens B)
  where
    by : (a h : Bool) → count_by (spoke P p) (cond a [] (cond h (bond_between x y 1 0 ∷ []) (bond_between x y bond.kind bond.topology ∷ []))) ≡ cond a 0 (one_if (meets_at P p x y))
    by true h = refl
    by false true = one_counted P p x y 1 0
    by false false = one_counted P p x y bond.kind bond.topology

-- ---- a bond between two pieces

-- what is so of one end of a bond, in a part and in the whole: nothing stands there, it is the place
-- in question, and it passes the test
pub record IsEndSo (none none' here here' passes passes' : Bool) : Type 0 where
  pub stands : none ≡ false → none' ≡ false
  pub same_place : none ≡ false → here' ≡ here
  pub same_test : none ≡ false → passes' ≡ passes
  pub elsewhere : none ≡ true → none' ≡ false → here' ≡ false

one_most : (a b : Bool) → one_if (a && b) ≤ one_if a
one_most true true = omega arith
one_most true false = omega arith
one_most false b = omega arith

-- in the whole no more spokes and loose ends than in the part
pub pieces_claim : (n m n' m' h k h' k' p q p' q' : Bool) → IsEndSo n n' h h' p p' → IsEndSo m m' k k' q q'
    → cond (n' || m') 0 (one_if ((h' && q') || (k' && p'))) + one_if ((m' && (not n' && h')) || (n' && (not m' && k')))
    ≤ cond (n || m) 0 (one_if ((h && q) || (k && p))) + one_if ((m && (not n && h)) || (n && (not m && k)))
pieces_claim false false n' m' h k h' k' p q p' q' one other =
    rw (one.stands refl, other.stands refl, one.same_place refl, other.same_place refl, one.same_test refl, other.same_test refl) (omega arith)
pieces_claim false true n' true h k h' k' p q p' q' one other = rw (one.stands refl, one.same_place refl) (omega arith)
pieces_claim false true n' false h k h' k' p q p' q' one other =
    rw (one.stands refl, one.same_place refl, other.elsewhere refl refl) (by h q')
  where
    by : (a b : Bool) → one_if ((a && b) || false) + 0 ≤ 0 + one_if (a || false)
    by true true = omega arith
    by true false = omega arith
    by false b = omega arith
pieces_claim true false true m' h k h' k' p q p' q' one other = rw (other.stands refl, other.same_place refl) (omega arith)
pieces_claim true false false m' h k h' k' p q p' q' one other =
    rw (other.stands refl, other.same_place refl, one.elsewhere refl refl) (by k p')
  where
    by : (a b : Bool) → one_if (false || (a && b)) + 0 ≤ 0 + one_if (false || a)
    by true true = omega arith
    by true false = omega arith
    by false b = omega arith
pieces_claim true true true true h k h' k' p q p' q' one other = omega arith
pieces_claim true true true false h k h' k' p q p' q' one other = rw (other.elsewhere refl refl) (omega arith)
pieces_claim true true false true h k h' k' p q p' q' one other = rw (one.elsewhere refl refl) (omega arith)
pieces_claim true true false false h k h' k' p q p' q' one other = rw (one.elsewhere refl refl, other.elsewhere refl refl) (omega arith)

-- and no fewer spokes
pub pieces_lower : (n m n' m' h k h' k' p q p' q' : Bool) → IsEndSo n n' h h' p p' → IsEndSo m m' k k' q q'
    → cond (n || m) 0 (one_if ((h && q) || (k && p))) ≤ cond (n' || m') 0 (one_if ((h' && q') || (k' && p')))
pieces_lower false false n' m' h k h' k' p q p' q' one other =
    rw (one.stands refl, other.stands refl, one.same_place refl, other.same_place refl, one.same_test refl, other.same_test refl) (omega arith)
pieces_lower false true n' m' h k h' k' p q p' q' one other = omega arith
pieces_lower true m n' m' h k h' k' p q p' q' one other = omega arith
