-- The atoms that bear attachment points.
--     bearer_none, bearer_here     the lowest atom that bears a point
--     pointed_is                   the demand on an atom by these is the demand
use Rattle.std.proofs.Common.{◌≡◌, ◌≤◌, ◌<◌, ◌+◌, ℕ, Bool, true, false, refl, sym, subst, ◌∙◌, length, arith, ⊎_elim, inl, inr}
use Rattle.std.specs.Prelude.{◌⊎◌, ◌↔◌, IsTrue}
use Rattle.std.proofs.lemmas.Bool.{cases_eq, cases_order, true≢false}
use Rattle.mk_tables.specs.declared.raw.RawTable.{RawTable}
use Rattle.mk_query.specs.declared.atom_marks.Standing.{Standing}
use Rattle.mk_query.specs.AtomMarks.{AreStanding, bears}
use Rattle.mk_query.specs.Drawn.{bears_point, is_site_at}
use Rattle.mk_query.specs.LinkChecks.{BearsSome, IsPointed}
use Rattle.mk_query.specs.PointSearch.{IsFirstBearer, IsPointedBy}
use Rattle.mk_query.proofs.AtomMarkLemmas.{bears_is, link_none, none_link, site_is}

-- ---- the lowest

-- no atom bears the point
pub bearer_none : (standing : Standing) (p atoms i : ℕ) → atoms ≤ i → ((y : ℕ) → 1 ≤ y → y ≤ i → bears standing p y ≡ false) → IsFirstBearer standing p atoms 0
bearer_none standing p atoms i all before = record {
  none = λ e y least most. before y least (omega arith);
  some = λ some. absurd (some refl);
  lower = λ y least below. absurd (omega arith);
}

-- the atom behind the first i does
pub bearer_here : (standing : Standing) (p atoms i : ℕ) → i < atoms → bears standing p (i + 1) ≡ true → ((y : ℕ) → 1 ≤ y → y ≤ i → bears standing p y ≡ false) → IsFirstBearer standing p atoms (i + 1)
bearer_here standing p atoms i below here before = record {
  none = λ e. absurd (omega (arith, e));
  some = λ some. (omega arith, here);
  lower = λ y least lower. before y least (omega arith);
}

-- ---- the demand

not_true : (b : Bool) → ¬ (b ≡ true) → b ≡ false
not_true true not = absurd (not refl)
not_true false not = refl

module _ (is_root : Bool) (table : RawTable) (standing : Standing) (are : AreStanding table standing) (first second x : ℕ) (least : 1 ≤ x) (most : x ≤ length table.atoms)
    (one : IsFirstBearer standing 1 (length table.atoms) first) (two : IsFirstBearer standing 2 (length table.atoms) second) where
  -- what the code finds is what the definition tells, and back
  told : (p y : ℕ) (b : Bool) → 1 ≤ y → y ≤ length table.atoms → bears standing p y ≡ b → bears_point table p y ≡ b
  told p y b from to is = sym (bears_is table standing p y are from to) ∙ is

  known : (p y : ℕ) (b : Bool) → 1 ≤ y → y ≤ length table.atoms → bears_point table p y ≡ b → bears standing p y ≡ b
  known p y b from to is = bears_is table standing p y are from to ∙ is

  -- the atom is the lowest that bears a point, where no lower one does
  is_lowest : (p lowest : ℕ) → IsFirstBearer standing p (length table.atoms) lowest → bears standing p x ≡ true → ((y : ℕ) → 1 ≤ y → y < x → ¬ (IsTrue (bears_point table p y))) → lowest ≡ x
  is_lowest p lowest is here alone =
      ⊎_elim
      (λ none. absurd (true≢false (sym here ∙ is.none none x least most)))
      (λ some.
      let there = is.some some in
      ⊎_elim
      (λ same. same)
      (λ differ.
      ⊎_elim
      (λ below. absurd (alone lowest (omega (arith, some)) below (told p lowest true (omega (arith, some)) there.0 there.1)))
      (λ above. absurd (true≢false (sym here ∙ is.lower x least above)))
      differ)
      (cases_order lowest x))
      (cases_eq lowest 0)

  -- no lower atom bears a point of which this is the lowest
  none_lower : (p lowest : ℕ) → IsFirstBearer standing p (length table.atoms) lowest → lowest ≡ x → (y : ℕ) → 1 ≤ y → y < x → ¬ (IsTrue (bears_point table p y))
  none_lower p lowest is same y from below bears_it = true≢false (sym (known p y true from (omega arith) bears_it) ∙ is.lower y from (omega (arith, same)))

  some_point : BearsSome table x → (bears standing 1 x ≡ true) ⊎ (bears standing 2 x ≡ true)
  some_point (p, from, to, is) =
      ⊎_elim
      (λ same. inl (known 1 x true least most (subst (λ (q : ℕ). bears_point table q x ≡ true) same is)))
      (λ other. (let same : p ≡ 2 = omega (arith, other, from, to) in inr (known 2 x true least most (subst (λ (q : ℕ). bears_point table q x ≡ true) same is))))
      (cases_eq p 1)

  point_some : (bears standing 1 x ≡ true) ⊎ (bears standing 2 x ≡ true) → BearsSome table x
  point_some (inl is) = (1, omega arith, omega arith, told 1 x true least most is)
  point_some (inr is) = (2, omega arith, omega arith, told 2 x true least most is)

  by_table : IsPointedBy is_root standing first second x → IsPointed is_root table x
  by_table by = record {
    member = λ some. (by.free (some_point some)).0;
    no_site = λ some site. true≢false (sym (site_is table standing x are ∙ site) ∙ (by.free (some_point some)).1);
    no_link = λ some. link_none table standing x are least most (by.free (some_point some)).2;
    alone = λ p y p_from p_to from below is.
        ⊎_elim
        (λ (same : p ≡ 1).
        let here = known 1 x true least most (subst (λ (q : ℕ). bears_point table q x ≡ true) same is) in
        subst (λ (q : ℕ). ¬ (IsTrue (bears_point table q y))) (sym same) (none_lower 1 first one (by.one_alone here) y from below))
        (λ other.
        let same : p ≡ 2 = omega (arith, other, p_from, p_to) in
        let here = known 2 x true least most (subst (λ (q : ℕ). bears_point table q x ≡ true) same is) in
        subst (λ (q : ℕ). ¬ (IsTrue (bears_point table q y))) (sym same) (none_lower 2 second two (by.two_alone here) y from below))
        (cases_eq p 1);
    first = λ is.
        let some = by.has_first (known 2 x true least most is) in
        let there = one.some some in
        (first, omega (arith, some), there.0, told 1 first true (omega (arith, some)) there.0 there.1);
  }

  by_search : IsPointed is_root table x → IsPointedBy is_root standing first second x
  by_search right = record {
    free = λ some.
        let bears_it = point_some some in (
          right.member bears_it,
          site_is table standing x are ∙ not_true (is_site_at table x) (right.no_site bears_it),
          none_link table standing x are least most (right.no_link bears_it),
        );
    one_alone = λ is. is_lowest 1 first one is (λ y from below. right.alone 1 y (omega arith) (omega arith) from below (told 1 x true least most is));
    two_alone = λ is. is_lowest 2 second two is (λ y from below. right.alone 2 y (omega arith) (omega arith) from below (told 2 x true least most is));
    has_first = λ is none.
        let found = right.first (told 2 x true least most is) in
        true≢false (sym (known 1 found.0 true found.1 found.2 found.3) ∙ one.none none found.0 found.1 found.2);
  }

pub pointed_is : (is_root : Bool) (table : RawTable) (standing : Standing) (first second x : ℕ) → AreStanding table standing → 1 ≤ x → x ≤ length table.atoms
    → IsFirstBearer standing 1 (length table.atoms) first → IsFirstBearer standing 2 (length table.atoms) second → IsPointedBy is_root standing first second x ↔ IsPointed is_root table x
pointed_is is_root table standing first second x are least most one two = (
  by_table is_root table standing are first second x least most one two,
  by_search is_root table standing are first second x least most one two,
)
