-- What can be told: which atoms are plain hydrogens, and what is found below some numbers.
--     Told P            P holds, or it doesn't
--     told_as, told_both      of what says the same, and of two
--     told_below, told_three  for some number below another; for three of them
--     told_member       whether a number stands in a list
--     told_drawn        whether an atom of a graph is a plain hydrogen on another
--     told_plain        whether an atom of a molecule is one on another
use Rattle.std.proofs.Common.{◌≡◌, ◌<◌, ◌-◌, ◌⊎◌, ℕ, zero, suc, ℤ, pos, negsuc, Bool, true, false, List, [], ◌∷◌, Option, Some, None, refl, ap, sym, subst, ◌∙◌, inl, inr, length, get_or, arith, Contains}
use Rattle.std.specs.Prelude.{slice_get}
use Rattle.std.proofs.lemmas.Bool.{cases_eq, cases_lt}
use Rattle.mk_model.specs.declared.atom_test.AtomTest.{AtomTest}
use Rattle.mk_model.specs.declared.atom_test.Kind.{Kind}
use Rattle.mk_model.specs.declared.atom_test.Kind.TheVariants.{Element, OneOf, NoneOf, NotHydrogen, Hetero, Anything}
use Rattle.mk_model.specs.declared.edge.Edge.{Edge}
use Rattle.mk_model.specs.declared.graph.GraphAtom.{GraphAtom}
use Rattle.mk_model.specs.declared.graph.GraphBond.{GraphBond}
use Rattle.mk_model.specs.declared.molecule.MolBond.{MolBond}
use Rattle.mk_model.specs.Edges.{HasEnds, degree}
use Rattle.mk_model.specs.Molecules.{IsBondOf, Molecule, edge_of, edges}
use Rattle.mk_model.specs.Graphs.{GraphView, graph_edge, graph_edges}
use Rattle.mk_model.specs.Fitting.{is_drawn_hydrogen, is_hydrogen}
use Rattle.mk_model.specs.Hits.{IsPlainAt, IsPlainDrawn, IsPlainTest}

-- P holds, or it doesn't
abbrev pub Told : Type 0 → Type 0
Told P = P ⊎ (P → ⊥)

-- ---- putting together

-- what says the same is told too
pub told_as : {P Q : Type 0} → (P → Q) → (Q → P) → Told P → Told Q
told_as on back (inl p) = inl (on p)
told_as on back (inr not) = inr (λ q. not (back q))

pub told_both : {P Q : Type 0} → Told P → Told Q → Told (P × Q)
told_both (inl p) (inl q) = inl (p, q)
told_both (inl p) (inr not) = inr (λ both. not both.1)
told_both (inr not) q = inr (λ both. not both.0)

pub told_either : {P Q : Type 0} → Told P → Told Q → Told (P ⊎ Q)
told_either (inl p) q = inl (inl p)
told_either (inr not) (inl q) = inl (inr q)
told_either (inr not) (inr nor) = inr (λ either. elim either [ inl p ↦ not p | inr q ↦ nor q ])

pub told_not : {P : Type 0} → Told P → Told (P → ⊥)
told_not (inl p) = inr (λ not. not p)
told_not (inr not) = inl not

told_true : (b : Bool) → Told (b ≡ true)
told_true true = inl refl
told_true false = inr (λ e. cc)

told_false : (b : Bool) → Told (b ≡ false)
told_false true = inr (λ e. cc)
told_false false = inl refl

told_same : (m n : ℕ) → Told (m ≡ n)
told_same m n = cases_eq m n

pub told_less : (m n : ℕ) → Told (m < n)
told_less m n = elim (cases_lt m n) [ inl less ↦ inl less | inr not ↦ inr (λ less. omega (arith, less, not)) ]

-- ---- numbers

-- one below n has P, or none has
pub told_below : (P : ℕ → Type 0) → ((k : ℕ) → Told (P k)) → (n : ℕ) → Told ((k : ℕ) × (k < n) × P k)
told_below P told zero = inr (λ found. omega (arith, found.1))
told_below P told (suc n) = by_last (told n) (told_below P told n)
  where
    on : (k : ℕ) × (k < n) × P k → (k : ℕ) × (k < suc n) × P k
    on found = (found.0, omega (arith, found.1), found.2)

    earlier : (P n → ⊥) → (k : ℕ) × (k < suc n) × P k → (k : ℕ) × (k < n) × P k
    earlier not found = (
      found.0,
      (elim (cases_eq found.0 n) [
        | inl same ↦ absurd (not (subst P same found.2))
        | inr other ↦ omega (arith, found.1, other)
      ]),
      found.2,
    )

    by_last : Told (P n) → Told ((k : ℕ) × (k < n) × P k) → Told ((k : ℕ) × (k < suc n) × P k)
    by_last (inl here) before = inl (n, omega arith, here)
    by_last (inr not) before = told_as on (earlier not) before

-- the same of three numbers, each below another
pub told_three : (P : ℕ → ℕ → ℕ → Type 0) → ((i j k : ℕ) → Told (P i j k)) → (l m n : ℕ)
    → Told ((i : ℕ) × (i < l) × ((j : ℕ) × (j < m) × ((k : ℕ) × (k < n) × P i j k)))
told_three P told l m n =
    told_below (λ i. (j : ℕ) × (j < m) × ((k : ℕ) × (k < n) × P i j k))
    (λ i. told_below (λ j. (k : ℕ) × (k < n) × P i j k) (λ j. told_below (λ k. P i j k) (λ k. told i j k) n) m) l

-- ---- lists

-- one of a list has P, or none has
pub told_among : {X : Type 0} (P : X → Type 0) → ((x : X) → Told (P x)) → (xs : List X) → Told ((x : X) × Contains xs x × P x)
told_among {X = X} P told [] = inr (λ found. omega (arith, found.1.1))
told_among {X = X} P told (y ∷ xs) = by_first (told y) (told_among P told xs)
  where
    on : (x : X) × Contains xs x × P x → (x : X) × Contains (y ∷ xs) x × P x
    on found = (found.0, (suc found.1.0, omega (arith, found.1.1), found.1.2), found.2)

    later_at : (x : X) (k : ℕ) → (P y → ⊥) → k < length (y ∷ xs) → get_or (y ∷ xs) k x ≡ x → P x → (x' : X) × Contains xs x' × P x'
    later_at x zero not below is has = absurd (not (subst P (sym is) has))
    later_at x (suc k) not below is has = (x, (k, omega (arith, below), is), has)

    by_first : Told (P y) → Told ((x : X) × Contains xs x × P x) → Told ((x : X) × Contains (y ∷ xs) x × P x)
    by_first (inl here) others = inl (y, (0, omega arith, refl), here)
    by_first (inr not) others = told_as on (λ found. later_at found.0 found.1.0 not found.1.1 found.1.2 found.2) others

-- a number stands in a list, or it doesn't
pub told_member : (xs : List ℕ) (n : ℕ) → Told (Contains xs n)
told_member xs n =
    told_as
    (λ found. subst (λ (m : ℕ). Contains xs m) found.2 found.1)
    (λ has. (n, has, refl))
    (told_among (λ (m : ℕ). m ≡ n) (λ m. told_same m n) xs)

-- ---- plain hydrogens

told_zero : (z : ℤ) → Told (z ≡ pos 0)
told_zero (pos n) = told_as (λ same. ap pos same) (λ same. cc) (told_same n 0)
told_zero (negsuc n) = inr (λ same. cc)

told_kind : (kind : Kind) → Told (kind ≡ Element 1)
told_kind (Element z) = told_as (λ same. ap Element same) (λ same. cc) (told_same z 1)
told_kind (OneOf list) = inr (λ same. cc)
told_kind (NoneOf list) = inr (λ same. cc)
told_kind NotHydrogen = inr (λ same. cc)
told_kind Hetero = inr (λ same. cc)
told_kind Anything = inr (λ same. cc)

told_test : (test : AtomTest) → Told (IsPlainTest test)
told_test test =
    told_as
    (λ all. record {
      kind = all.0;
      charge = all.1.0;
      radical = all.1.1.0;
      hydrogens = all.1.1.1.0;
      ring_bonds = all.1.1.1.1.0;
      substitution = all.1.1.1.1.1.0;
      unsaturated = all.1.1.1.1.1.1;
    })
    (λ is. (is.kind, (is.charge, (is.radical, (is.hydrogens, (is.ring_bonds, (is.substitution, is.unsaturated)))))))
    (told_both (told_kind test.kind) (told_both (told_zero test.charge) (told_both (told_same test.radical 0) (told_both (told_same test.hydrogens 0)
    (told_both (told_zero test.ring_bonds) (told_both (told_zero test.substitution) (told_false test.unsaturated)))))))

told_ends : (edge : Edge) (x y : ℕ) → Told (HasEnds edge x y)
told_ends edge x y =
    told_either
    (told_both (told_same edge.first x) (told_same edge.second y))
    (told_both (told_same edge.first y) (told_same edge.second x))

-- an atom of a graph is a plain hydrogen on another, or it isn't
pub told_drawn : (graph : GraphView) (x h : ℕ) → Told (IsPlainDrawn graph x h)
told_drawn graph x h = by_atom (slice_get graph.atoms (h - 1)) refl
  where
    Joined : GraphBond → Type 0
    Joined bond = HasEnds (graph_edge bond) x h × ((bond.kind ≡ 1) × (bond.topology ≡ 0))

    Alone : Type 0
    Alone = (degree (graph_edges graph.bonds) h ≡ 1) × (is_drawn_hydrogen graph.atoms x ≡ false)

    on : (asked : GraphAtom) → slice_get graph.atoms (h - 1) ≡ Some asked
        → IsPlainTest asked.test × (((bond : GraphBond) × Contains graph.bonds bond × Joined bond) × Alone) → IsPlainDrawn graph x h
    on asked at all = record {
      asked = asked;
      asked_at = at;
      test = all.0;
      bond = all.1.0.0;
      drawn = all.1.0.1;
      ends = all.1.0.2.0;
      single = all.1.0.2.1;
      alone = all.1.1.0;
      other = all.1.1.1;
    }

    back : (asked : GraphAtom) → slice_get graph.atoms (h - 1) ≡ Some asked
        → IsPlainDrawn graph x h → IsPlainTest asked.test × (((bond : GraphBond) × Contains graph.bonds bond × Joined bond) × Alone)
    back asked at is =
        let same : is.asked ≡ asked = let there = is.asked_at in cc in
        (subst (λ (a : GraphAtom). IsPlainTest a.test) same is.test, ((is.bond, is.drawn, (is.ends, is.single)), (is.alone, is.other)))

    by_atom : (found : Option GraphAtom) → slice_get graph.atoms (h - 1) ≡ found → Told (IsPlainDrawn graph x h)
    by_atom None at = inr (λ is. let there = is.asked_at in cc)
    by_atom (Some asked) at =
        told_as (on asked at) (back asked at)
        (told_both (told_test asked.test)
        (told_both
        (told_among Joined (λ bond. told_both (told_ends (graph_edge bond) x h) (told_both (told_same bond.kind 1) (told_same bond.topology 0))) graph.bonds)
        (told_both (told_same (degree (graph_edges graph.bonds) h) 1) (told_false (is_drawn_hydrogen graph.atoms x)))))

-- an atom of a molecule is a plain hydrogen on another, or it isn't
pub told_plain : (mol : Molecule) (m y : ℕ) → Told (IsPlainAt mol m y)
told_plain mol m y =
    told_as
    (λ all. record { hydrogen = all.0; bond = all.1.0.0; joins = (all.1.0.1, all.1.0.2.0); single = all.1.0.2.1; alone = all.1.1 })
    (λ is. (is.hydrogen, ((is.bond, is.joins.0, (is.joins.1, is.single)), is.alone)))
    (told_both (told_true (is_hydrogen mol.atoms y))
    (told_both
    (told_among (λ (bond : MolBond). HasEnds (edge_of bond) m y × (bond.kind ≡ 1)) (λ bond. told_both (told_ends (edge_of bond) m y) (told_same bond.kind 1)) mol.bonds)
    (told_same (degree (edges mol.bonds) y) 1)))
