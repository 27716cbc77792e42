-- Bonds that no earlier bond joins, and one more of them.
--     AreNew atoms earlier bonds      each of the bonds is new behind those before it
use Rattle.std.proofs.Common.{[], ◌∷◌, ◌++◌, ◌≡◌, ℕ, zero, suc, ◌+◌, ◌-◌, ◌<◌, ◌≤◌, List, Some, take, arith, sym, subst, inl, inr, lit<, lit≤}
use Rattle.std.specs.Prelude.{slice_get}
use Rattle.std.specs.List.{AllByRecursion}
use Rattle.std.proofs.lemmas.Int.{ints}
use Rattle.std.proofs.lemmas.List.{append-nil, append_assoc}
use Rattle.std.proofs.lemmas.List.Elements.{All-from_recursion, All-weaker}
use Rattle.mk_tables.specs.declared.raw.RawBond.{RawBond}
use Rattle.mk_demands.specs.Bonds.{HasTwoEnds, IsNewBond, IsNewBondAt, JoinSame}
use Rattle.mk_drill.specs.Draws.{plain_bond}

-- each of the bonds is new behind the earlier ones and those before it
abbrev pub AreNew : ℕ → List RawBond → List RawBond → Type 0
AreNew atoms earlier [] = Unit {0}
AreNew atoms earlier (bond ∷ bonds) = IsNewBond atoms earlier bond × AreNew atoms (earlier ++ bond ∷ []) bonds

-- ---- by their numbers

-- the bond of a number is new, where those before it are
new_from : (atoms : ℕ) (earlier bonds : List RawBond) → AreNew atoms earlier bonds → (k : ℕ) (bond : RawBond) → slice_get bonds k ≡ Some bond → IsNewBond atoms (earlier ++ take k bonds) bond
new_from atoms earlier [] are k bond at = absurd cc
new_from atoms earlier (first ∷ bonds) are zero bond at =
    let same : first ≡ bond = cc in
    rw append-nil (subst (IsNewBond atoms earlier) same are.0)
new_from atoms earlier (first ∷ bonds) are (suc k) bond at =
    subst (λ (before : List RawBond). IsNewBond atoms before bond) (append_assoc earlier (first ∷ []) (take k bonds)) (new_from atoms (earlier ++ first ∷ []) bonds are.1 k bond at)

-- so each is new by its number
pub new_at : (atoms : ℕ) (bonds : List RawBond) → AreNew atoms [] bonds → (item : ℕ) → IsNewBondAt atoms bonds item
new_at atoms bonds are item = λ bond least at. new_from atoms [] bonds are (item - 1) bond at

-- ---- one bond more

wider_end : (atoms : ℕ) (bond : RawBond) → HasTwoEnds atoms bond → HasTwoEnds (atoms + 1) bond
wider_end atoms bond ends = record {
  first = record { least = ends.first.least; most = omega (arith, ints, ends.first.most) };
  second = record { least = ends.second.least; most = omega (arith, ints, ends.second.most) };
  differ = ends.differ;
}

-- with one atom more the bonds are new as before
wider : (atoms : ℕ) (earlier bonds : List RawBond) → AreNew atoms earlier bonds → AreNew (atoms + 1) earlier bonds
wider atoms earlier [] are = tt
wider atoms earlier (bond ∷ bonds) are = (record { ends = wider_end atoms bond are.0.ends; new = are.0.new }, wider atoms (earlier ++ bond ∷ []) bonds are.1)

-- a bond behind them that is new
one_behind : (atoms : ℕ) (earlier bonds : List RawBond) (last : RawBond) → AreNew atoms earlier bonds → IsNewBond atoms (earlier ++ bonds) last → AreNew atoms earlier (bonds ++ last ∷ [])
one_behind atoms earlier [] last are new = (subst (λ (before : List RawBond). IsNewBond atoms before last) (append-nil earlier) new, tt)
one_behind atoms earlier (bond ∷ bonds) last are new = (
  are.0,
  one_behind atoms (earlier ++ bond ∷ []) bonds last are.1 (subst (λ (before : List RawBond). IsNewBond atoms before last) (sym (append_assoc earlier (bond ∷ []) bonds)) new),
)

-- the ends of each are two of the atoms
pub all_between : (atoms : ℕ) (earlier bonds : List RawBond) → AreNew atoms earlier bonds → AllByRecursion (HasTwoEnds atoms) bonds
all_between atoms earlier [] are = tt
all_between atoms earlier (bond ∷ bonds) are = (are.0.ends, all_between atoms (earlier ++ bond ∷ []) bonds are.1)

-- no bond between some atoms joins another to one of them
not_joined : (atoms x kind : ℕ) (bond : RawBond) → HasTwoEnds atoms bond → JoinSame bond (plain_bond x (atoms + 1) kind) → ⊥
not_joined atoms x kind bond ends (inl same) = omega (arith, ints, ends.second.most, same.1)
not_joined atoms x kind bond ends (inr same) = omega (arith, ints, ends.first.most, same.0)

-- a bond to an atom behind all is new
pub new_behind : (atoms x kind : ℕ) (bonds : List RawBond) → 1 ≤ x → x ≤ atoms → AreNew atoms [] bonds → AreNew (atoms + 1) [] (bonds ++ plain_bond x (atoms + 1) kind ∷ [])
new_behind atoms x kind bonds least most are =
    one_behind (atoms + 1) [] bonds (plain_bond x (atoms + 1) kind) (wider atoms [] bonds are) (record {
      ends = record {
        first = record { least = omega (arith, ints); most = omega (arith, ints) };
        second = record { least = omega (arith, ints); most = omega (arith, ints) };
        differ = λ same. omega (arith, ints, same, most);
      };
      new =
          All-weaker (HasTwoEnds atoms) (λ other. JoinSame other (plain_bond x (atoms + 1) kind) → ⊥) (not_joined atoms x kind) bonds
          (All-from_recursion (HasTwoEnds atoms) bonds (all_between atoms [] bonds are));
    })

-- ---- six bonds in a ring

-- the bonds 1=2 2-3 3=4 4-5 5=6
abbrev open_ring : List RawBond
open_ring = plain_bond 1 2 2 ∷ plain_bond 2 3 1 ∷ plain_bond 3 4 2 ∷ plain_bond 4 5 1 ∷ plain_bond 5 6 2 ∷ []

open_is_new : AreNew 6 [] open_ring
open_is_new =
    new_behind 5 5 2 (plain_bond 1 2 2 ∷ plain_bond 2 3 1 ∷ plain_bond 3 4 2 ∷ plain_bond 4 5 1 ∷ []) (lit≤ tt) (lit≤ tt)
    (new_behind 4 4 1 (plain_bond 1 2 2 ∷ plain_bond 2 3 1 ∷ plain_bond 3 4 2 ∷ []) (lit≤ tt) (lit≤ tt)
    (new_behind 3 3 2 (plain_bond 1 2 2 ∷ plain_bond 2 3 1 ∷ []) (lit≤ tt) (lit≤ tt)
    (new_behind 2 2 1 (plain_bond 1 2 2 ∷ []) (lit≤ tt) (lit≤ tt)
    (new_behind 1 1 2 [] (lit≤ tt) (lit≤ tt) tt))))

-- none of them joins the first atom to the sixth
not_closing : (x kind : ℕ) → x < 6 → JoinSame (plain_bond x (x + 1) kind) (plain_bond 1 6 1) → ⊥
not_closing x kind less (inl same) = omega (arith, ints, same.0, same.1)
not_closing x kind less (inr same) = omega (arith, ints, same.0, less)

-- so the ring's bonds are new
abbrev pub ring : List RawBond
ring = open_ring ++ plain_bond 1 6 1 ∷ []

pub ring_is_new : AreNew 6 [] ring
ring_is_new = one_behind 6 [] open_ring (plain_bond 1 6 1) open_is_new (record {
  ends = record {
    first = record { least = omega (arith, ints); most = omega (arith, ints) };
    second = record { least = omega (arith, ints); most = omega (arith, ints) };
    differ = λ same. omega (arith, ints, same);
  };
  new = All-from_recursion (λ other. JoinSame other (plain_bond 1 6 1) → ⊥) open_ring
      (not_closing 1 2 (lit< tt), (not_closing 2 1 (lit< tt), (not_closing 3 2 (lit< tt), (not_closing 4 1 (lit< tt), (not_closing 5 2 (lit< tt), tt)))));
})
