-- A query that keeps what every query keeps: `[C C C R# | 1-2 2-3 3-4]` with `M  LIN  1   2   3   1   3` and the labels 1 and 2 at
-- atom 4; group 1 with `[F | ]` and `[Br | ]`, group 2 with `[Cl | ]`, which stands between them.
use Rattle.std.proofs.Common.{◌≡◌, ◌≢◌, ℕ, zero, suc, ◌-◌, ◌<◌, ◌≤◌, ◌⊎◌, inl, inr, List, [], ◌∷◌, length, replicate, Option, Some, None, refl, sym, ap, subst, ◌∙◌, arith, rules, All}
use Rattle.std.specs.Prelude.{◌==◌, AllPairs, Contains, slice_get, IsTrue, if◌then◌else◌}
use Rattle.std.proofs.lemmas.Bool.Decides.{nat_tests}
use Rattle.std.proofs.lemmas.List.Elements.{All-cons, All-nil}
use Rattle.std.proofs.lemmas.List.Kept.{AllPairs-cons}
use Rattle.mk_model.specs.declared.group.Group.{Group}
use Rattle.mk_model.specs.declared.template.QueryBond.{QueryBond}
use Rattle.mk_model.specs.declared.template.Slot.{Slot}
use Rattle.mk_model.specs.declared.template.Slot.TheVariants.{Link, Site}
use Rattle.mk_model.specs.Tests.{IsBondInRange, IsTestInRange}
use Rattle.mk_model.specs.Templates.{TemplateView, hang_together, joins, slot_atom}
use Rattle.mk_model.specs.Queries.{QueryView, members_of}
use Rattle.mk_model.specs.Sizes.{IsSizing, size_by}
use Rattle.mk_model.specs.Labels.{joint_members, site_labels, members_at}
use Rattle.mk_model.specs.QueryFits.{AreApart, AreNeighbours, AreRisingLabels, FitsPoints, HasClosedBlocks, HasFittingPoints, HasFreePoints, HasPairsOnce, HasRisingLabels, HasRisingSlots, HasSitesApart, IsAtomOf, HoldsItsBlock, IsInRange, IsSlotOf, NamesItsNeighbours, NamesNeighbours, QueryFits}
use Rattle.mk_model.proofs.FewLemmas.{NoPair, all_1, all_2, all_3, all_4, all_same, edge, once_by, pairs_none, pairs_one, pairs_two}
use Rattle.mk_model.proofs.SizesLemmas.{none_in_itself, ranked_by_size}
use Rattle.mk_model.proofs.OnLiterals.{atom, bond, group, plain_group, range, single, site_atom}

unfoldable pub root : TemplateView
root = record {
  atoms = atom 6 ∷ atom 6 ∷ atom 6 ∷ site_atom ∷ [];
  bonds = bond 1 2 ∷ bond 2 3 ∷ bond 3 4 ∷ [];
  slots = Link 2 3 1 3 ∷ Site 4 (1 ∷ 2 ∷ []) 3 0 ∷ [];
  points = [];
}

unfoldable pub query : QueryView
query = record {
  templates = root ∷ single 9 ∷ single 17 ∷ single 35 ∷ [];
  groups = plain_group (1 ∷ 3 ∷ []) ∷ plain_group (2 ∷ []) ∷ replicate 30 (plain_group []);
}

-- ---- no pair twice

edges_apart : AllPairs NoPair (edge 1 2 ∷ edge 2 3 ∷ edge 3 4 ∷ [])
unfolding edge
edges_apart =
    AllPairs-cons NoPair (edge 1 2) (edge 2 3 ∷ edge 3 4 ∷ [])
    (All-cons (NoPair (edge 1 2)) (edge 2 3) (edge 3 4 ∷ []) (λ x y p q. omega (arith, p, q))
    (All-cons (NoPair (edge 1 2)) (edge 3 4) [] (λ x y p q. omega (arith, p, q)) (All-nil (NoPair (edge 1 2)))))
    (AllPairs-cons NoPair (edge 2 3) (edge 3 4 ∷ []) (All-cons (NoPair (edge 2 3)) (edge 3 4) [] (λ x y p q. omega (arith, p, q)) (All-nil (NoPair (edge 2 3)))) (pairs_one NoPair (edge 3 4)))

root_pairs : HasPairsOnce root
unfolding root bond edge
root_pairs = record {
  differ = All-cons (λ b. b.first ≢ b.second) (bond 1 2) (bond 2 3 ∷ bond 3 4 ∷ []) (λ e. omega (arith, e))
      (All-cons (λ b. b.first ≢ b.second) (bond 2 3) (bond 3 4 ∷ []) (λ e. omega (arith, e))
      (All-cons (λ b. b.first ≢ b.second) (bond 3 4) [] (λ e. omega (arith, e))
      (All-nil (λ b. b.first ≢ b.second))));
  once = once_by (edge 1 2 ∷ edge 2 3 ∷ edge 3 4 ∷ []) edges_apart;
}

single_pairs : (z : ℕ) → HasPairsOnce (single z)
unfolding single
single_pairs z = record { differ = All-nil (λ b. b.first ≢ b.second); once = once_by [] (pairs_none NoPair) }

-- ---- in range

carbon : (z : ℕ) → 1 ≤ z → z ≤ 118 → IsTestInRange (atom z)
unfolding atom
carbon z least most = record {
  kind = (least, most);
  charge = search rules;
  radical = omega arith;
  hydrogens = omega arith;
  ring_bonds = search rules;
  no_single_ring_bond = λ e. (cc);
  substitution = search rules;
}

any : IsTestInRange site_atom
unfolding site_atom
any = record { kind = tt; charge = search rules; radical = omega arith; hydrogens = omega arith; ring_bonds = search rules; no_single_ring_bond = λ e. (cc); substitution = search rules }

-- each bond joins two atoms, and asks for a known type and topology
ends : (x y : ℕ) → 1 ≤ x → x ≤ 4 → 1 ≤ y → y ≤ 4 → IsAtomOf root (bond x y).first × IsAtomOf root (bond x y).second
unfolding root bond
ends x y a b c d = ((a, b), (c, d))

asked : (x y : ℕ) → IsBondInRange (bond x y).kind (bond x y).topology
unfolding bond
asked x y = record { kind = (omega arith, omega arith); topology = omega arith }

link : IsSlotOf root (Link 2 3 1 3)
unfolding root bond
link = (
  (omega arith, omega arith),
  record {
    twice = omega arith;
    differ = λ e. omega (arith, e);
    alike = record { one = bond 1 2; one_at = (0, omega arith, refl); one_joins = refl; other = bond 2 3; other_at = (1, omega arith, refl); other_joins = refl; kind = refl; topology = refl };
  },
)

site : IsSlotOf root (Site 4 (1 ∷ 2 ∷ []) 3 0)
unfolding root
site = (omega arith, omega arith)

root_range : IsInRange root
unfolding root
root_range = record {
  tests = all_4 IsTestInRange (atom 6) (atom 6) (atom 6) site_atom (carbon 6 (omega arith) (omega arith)) (carbon 6 (omega arith) (omega arith)) (carbon 6 (omega arith) (omega arith)) any;
  bond_tests = all_3 (λ (b : QueryBond). IsBondInRange b.kind b.topology) (bond 1 2) (bond 2 3) (bond 3 4) (asked 1 2) (asked 2 3) (asked 3 4);
  ends = all_3 (λ (b : QueryBond). IsAtomOf root b.first × IsAtomOf root b.second) (bond 1 2) (bond 2 3) (bond 3 4)
      (ends 1 2 (omega arith) (omega arith) (omega arith) (omega arith))
      (ends 2 3 (omega arith) (omega arith) (omega arith) (omega arith))
      (ends 3 4 (omega arith) (omega arith) (omega arith) (omega arith));
  slots = all_2 (IsSlotOf root) (Link 2 3 1 3) (Site 4 (1 ∷ 2 ∷ []) 3 0) link site;
  points = All-nil (IsAtomOf root);
  few_points = omega arith;
}

single_range : (z : ℕ) → 1 ≤ z → z ≤ 118 → IsInRange (single z)
unfolding single
single_range z least most = record {
  tests = all_1 IsTestInRange (atom z) (carbon z least most);
  bond_tests = All-nil (λ b. IsBondInRange b.kind b.topology);
  ends = All-nil (λ b. IsAtomOf (single z) b.first × IsAtomOf (single z) b.second);
  slots = All-nil (IsSlotOf (single z));
  points = all_1 (IsAtomOf (single z)) 1 (omega arith, omega arith);
  few_points = omega arith;
}

-- ---- the slots of the root

-- a slot is the link or the site
which : (slot : Slot) → Contains (Link 2 3 1 3 ∷ Site 4 (1 ∷ 2 ∷ []) 3 0 ∷ []) slot → (Link 2 3 1 3 ≡ slot) ⊎ (Site 4 (1 ∷ 2 ∷ []) 3 0 ≡ slot)
which slot (zero, below, is) = inl is
which slot (suc zero, below, is) = inr is
which slot (suc (suc k), below, is) = absurd (omega (arith, below))

-- what is joined to atom 4
joined : (y : ℕ) (b : QueryBond) → Contains (bond 1 2 ∷ bond 2 3 ∷ bond 3 4 ∷ []) b → IsTrue (joins 4 y b) → y ≡ 3
unfolding bond
joined y b (zero, below, is) test = (let test' : IsTrue (joins 4 y (bond 1 2)) = subst (λ (c : QueryBond). IsTrue (joins 4 y c)) (sym is) test in grind (arith, nat_tests))
joined y b (suc zero, below, is) test = (let test' : IsTrue (joins 4 y (bond 2 3)) = subst (λ (c : QueryBond). IsTrue (joins 4 y c)) (sym is) test in grind (arith, nat_tests))
joined y b (suc (suc zero), below, is) test = (let test' : IsTrue (joins 4 y (bond 3 4)) = subst (λ (c : QueryBond). IsTrue (joins 4 y c)) (sym is) test in grind (arith, nat_tests))
joined y b (suc (suc (suc k)), below, is) test = absurd (omega (arith, below))

root_neighbours : NamesNeighbours root
unfolding root bond
root_neighbours = all_2 (NamesItsNeighbours root) (Link 2 3 1 3) (Site 4 (1 ∷ 2 ∷ []) 3 0) tt (record {
  some = λ e. omega (arith, e);
  differ = λ e. omega (arith, e);
  neighbours = λ y. (λ found. inl (joined y found.0 found.1 found.2), λ named. from y 0 named refl);
})
  where
    from : (y second : ℕ) → (y ≡ 3) ⊎ ((y ≡ second) × (second ≢ 0)) → second ≡ 0 → AreNeighbours root 4 y
    from y second (inl same) none = (bond 3 4, (2, omega arith, refl), rw same refl)
    from y second (inr other) none = absurd (other.1 none)

root_points : HasFreePoints root
unfolding root
root_points slot at point = (let below = point.1 in omega arith)

root_apart : HasSitesApart root
unfolding root bond
root_apart slot other at at' =
    elim (which slot at) [
      | inl is ↦ subst (λ (s : Slot). AreApart root s other) is tt
      | inr is ↦ elim (which other at') [
        | inl is' ↦ subst (λ (s : Slot). AreApart root slot s) is' (subst (λ (s : Slot). AreApart root s (Link 2 3 1 3)) is tt)
        | inr is' ↦ subst (λ (s : Slot). AreApart root slot s) is'
            (subst (λ (s : Slot). AreApart root s (Site 4 (1 ∷ 2 ∷ []) 3 0)) is
            (λ found. (let same = joined 4 found.0 found.1 found.2 in omega (arith, same))))
      ]
    ]

closed : HoldsItsBlock root (Link 2 3 1 3)
unfolding root hang_together bond
closed x is = (let same : x ≡ 2 = grind (arith, nat_tests) in (λ e. omega (arith, e, same), λ e. omega (arith, e, same), λ _. same))

root_blocks : HasClosedBlocks root
unfolding root
root_blocks = all_2 (HoldsItsBlock root) (Link 2 3 1 3) (Site 4 (1 ∷ 2 ∷ []) 3 0) closed tt

root_rises : HasRisingSlots root
unfolding root
root_rises =
    AllPairs-cons (λ slot later. slot_atom slot < slot_atom later) (Link 2 3 1 3) (Site 4 (1 ∷ 2 ∷ []) 3 0 ∷ [])
    (All-cons (λ later. 2 < slot_atom later) (Site 4 (1 ∷ 2 ∷ []) 3 0) [] (omega arith) (All-nil (λ later. 2 < slot_atom later)))
    (pairs_one (λ slot later. slot_atom slot < slot_atom later) (Site 4 (1 ∷ 2 ∷ []) 3 0))

root_labels : HasRisingLabels root
unfolding root
root_labels =
    all_2 (λ slot. AreRisingLabels (site_labels slot)) (Link 2 3 1 3) (Site 4 (1 ∷ 2 ∷ []) 3 0)
    (record { rise = pairs_none (λ g later. g < later); in_range = All-nil (λ g. (1 ≤ g) × (g ≤ 32)) })
    (record { rise = pairs_two (λ g later. g < later) 1 2 (omega arith); in_range = all_2 (λ g. (1 ≤ g) × (g ≤ 32)) 1 2 (omega arith, omega arith) (omega arith, omega arith) })

-- ---- groups

at_same : {X : Type 0} (n k : ℕ) (x y : X) → slice_get (replicate n x) k ≡ Some y → x ≡ y
at_same zero k x y at = absurd cc
at_same (suc n) zero x y at = cc
at_same (suc n) (suc k) x y at = at_same n k x y at

-- what is among some numbers is the first, or one of those behind it
one_of : (v u : ℕ) (vs : List ℕ) → Contains (v ∷ vs) u → (u ≡ v) ⊎ Contains vs u
one_of v u vs (zero, below, is) = inl (sym is)
one_of v u vs (suc k, below, is) = inr (k, omega (arith, below), is)

none_of : {X : Type 0} (u : ℕ) → Contains [] u → X
none_of u at = absurd (let below = at.1 in omega arith)

-- the group of a template
group_of : ℕ → ℕ
group_of u = if u == 2 then 2 else 1

group_of_first : (u : ℕ) → Contains (1 ∷ 3 ∷ []) u → group_of u ≡ 1
unfolding group_of
group_of_first u at =
    elim (one_of 1 u (3 ∷ []) at) [
      | inl is ↦ rw is refl
      | inr later ↦ elim (one_of 3 u [] later) [
        | inl is ↦ rw is refl
        | inr none ↦ none_of u none
      ]
    ]

group_of_second : (u : ℕ) → Contains (2 ∷ []) u → group_of u ≡ 2
unfolding group_of
group_of_second u at =
    elim (one_of 2 u [] at) [
      | inl is ↦ rw is refl
      | inr none ↦ none_of u none
    ]

-- a member of a group has it as its own
in_group : (g u : ℕ) → 1 ≤ g → Contains (members_of query g) u → g ≡ group_of u
unfolding query plain_group group
in_group g u least at = by_place (g - 1) refl at
  where
    members : Option Group → List ℕ
    members None = []
    members (Some one) = one.members

    by_group : (k : ℕ) (o : Option Group) → slice_get (replicate 30 (plain_group [])) k ≡ o → Contains (members o) u → ⊥
    by_group k None e at = omega (arith, at.1)
    by_group k (Some one) e at =
        let same : plain_group [] ≡ one = at_same 30 k (plain_group []) one e in
        let empty : one.members ≡ [] = sym (ap (λ (h : Group). h.members) same) ∙ no_ones in
        (let at' : Contains [] u = subst (λ (us : List ℕ). Contains us u) empty at in omega (arith, at'.1))
      where
        no_ones : (plain_group []).members ≡ []
        no_ones = refl

    by_place : (k : ℕ) → g - 1 ≡ k
        → Contains (members (slice_get (plain_group (1 ∷ 3 ∷ []) ∷ plain_group (2 ∷ []) ∷ replicate 30 (plain_group [])) k)) u → g ≡ group_of u
    by_place zero e at = omega (arith, e, least, group_of_first u at)
    by_place (suc zero) e at = omega (arith, e, group_of_second u at)
    by_place (suc (suc k)) e at = absurd (by_group k (slice_get (replicate 30 (plain_group [])) k) refl at)

-- ---- sizes

sizes : ℕ → ℕ
sizes t = if t == 0 then 8 else 1

adds_up : IsSizing query sizes
unfolding query root single hang_together bond plain_group group range sizes joint_members
adds_up zero template at = (let same : root ≡ template = cc in subst (λ (p : TemplateView). 8 ≡ size_by query sizes p) same refl)
adds_up (suc zero) template at = (let same : single 9 ≡ template = cc in subst (λ (p : TemplateView). sizes 1 ≡ size_by query sizes p) same refl)
adds_up (suc (suc zero)) template at = (let same : single 17 ≡ template = cc in subst (λ (p : TemplateView). sizes 2 ≡ size_by query sizes p) same refl)
adds_up (suc (suc (suc zero))) template at = (let same : single 35 ≡ template = cc in subst (λ (p : TemplateView). sizes 3 ≡ size_by query sizes p) same refl)
adds_up (suc (suc (suc (suc t)))) template at = absurd cc

small : sizes 0 ≤ 512
unfolding sizes
small = omega arith

-- ---- the whole query

-- a template that is used has one point
one_point : (u : ℕ) (template : TemplateView) → 1 ≤ u → slice_get query.templates u ≡ Some template → length template.points ≡ 1
unfolding query single
one_point zero template least stands = absurd (omega (arith, least))
one_point (suc zero) template least stands = (let is : single 9 ≡ template = cc in sym (ap (λ (p : TemplateView). length p.points) is))
one_point (suc (suc zero)) template least stands = (let is : single 17 ≡ template = cc in sym (ap (λ (p : TemplateView). length p.points) is))
one_point (suc (suc (suc zero))) template least stands = (let is : single 35 ≡ template = cc in sym (ap (λ (p : TemplateView). length p.points) is))
one_point (suc (suc (suc (suc u)))) template least stands = absurd cc

-- the members of the site are the three templates behind the root
site_members : members_at query (Site 4 (1 ∷ 2 ∷ []) 3 0) ≡ 1 ∷ 2 ∷ 3 ∷ []
unfolding query plain_group group joint_members
site_members = refl

used : (u : ℕ) → Contains (1 ∷ 2 ∷ 3 ∷ []) u → 1 ≤ u
used u at =
    elim (one_of 1 u (2 ∷ 3 ∷ []) at) [
      | inl is ↦ omega (arith, is)
      | inr later ↦ elim (one_of 2 u (3 ∷ []) later) [
        | inl is ↦ omega (arith, is)
        | inr last ↦ elim (one_of 3 u [] last) [
          | inl is ↦ omega (arith, is)
          | inr none ↦ none_of u none
        ]
      ]
    ]

link_fits : FitsPoints query (Link 2 3 1 3)
link_fits u template at stands = absurd (let below = at.1 in omega arith)

site_fits : FitsPoints query (Site 4 (1 ∷ 2 ∷ []) 3 0)
site_fits u template at stands = one_point u template (used u (subst (λ (us : List ℕ). Contains us u) site_members at)) stands

no_points : (z : ℕ) → All (FitsPoints query) (single z).slots
unfolding single
no_points z = All-nil (FitsPoints query)

points_fit : HasFittingPoints query
unfolding query root
points_fit =
    all_4 (λ (template : TemplateView). All (FitsPoints query) template.slots) root (single 9) (single 17) (single 35)
    (all_2 (FitsPoints query) (Link 2 3 1 3) (Site 4 (1 ∷ 2 ∷ []) 3 0) link_fits site_fits) (no_points 9) (no_points 17) (no_points 35)

-- ---- members of one atom

no_slots : (z : ℕ) (P : Slot → Type 0) → All P (single z).slots
unfolding single
no_slots z P = All-nil P

single_rises : (z : ℕ) → HasRisingSlots (single z)
unfolding single
single_rises z = pairs_none (λ slot later. slot_atom slot < slot_atom later)

single_points : (z : ℕ) → HasFreePoints (single z)
unfolding single
single_points z slot at point = (let below = at.1 in omega (arith, below))

single_apart : (z : ℕ) → HasSitesApart (single z)
unfolding single
single_apart z slot other at at' = absurd (let below = at.1 in omega (arith, below))

root_atom : 1 ≤ length root.atoms
unfolding root
root_atom = omega arith

pub fits : QueryFits query
unfolding query plain_group group
fits = record {
  in_range = record {
    templates = all_4 IsInRange root (single 9) (single 17) (single 35) root_range
        (single_range 9 (omega arith) (omega arith)) (single_range 17 (omega arith) (omega arith)) (single_range 35 (omega arith) (omega arith));
    members = All-cons (λ (one : Group). All (λ u. (1 ≤ u) × (u < 4)) one.members) (plain_group (1 ∷ 3 ∷ [])) (plain_group (2 ∷ []) ∷ replicate 30 (plain_group []))
        (all_2 (λ u. (1 ≤ u) × (u < 4)) 1 3 (omega arith, omega arith) (omega arith, omega arith))
        (All-cons (λ (one : Group). All (λ u. (1 ≤ u) × (u < 4)) one.members) (plain_group (2 ∷ [])) (replicate 30 (plain_group [])) (all_1 (λ u. (1 ≤ u) × (u < 4)) 2 (omega arith, omega arith))
        (all_same (λ (one : Group). All (λ u. (1 ≤ u) × (u < 4)) one.members) (plain_group []) 30 (All-nil (λ u. (1 ≤ u) × (u < 4)))));
  };
  pairs_once = all_4 HasPairsOnce root (single 9) (single 17) (single 35) root_pairs (single_pairs 9) (single_pairs 17) (single_pairs 35);
  slots_rise = all_4 HasRisingSlots root (single 9) (single 17) (single 35) root_rises (single_rises 9) (single_rises 17) (single_rises 35);
  neighbours = all_4 NamesNeighbours root (single 9) (single 17) (single 35) root_neighbours
      (no_slots 9 (NamesItsNeighbours (single 9))) (no_slots 17 (NamesItsNeighbours (single 17))) (no_slots 35 (NamesItsNeighbours (single 35)));
  points_free = all_4 HasFreePoints root (single 9) (single 17) (single 35) root_points (single_points 9) (single_points 17) (single_points 35);
  sites_apart = all_4 HasSitesApart root (single 9) (single 17) (single 35) root_apart (single_apart 9) (single_apart 17) (single_apart 35);
  blocks_closed = all_4 HasClosedBlocks root (single 9) (single 17) (single 35) root_blocks
      (no_slots 9 (HoldsItsBlock (single 9))) (no_slots 17 (HoldsItsBlock (single 17))) (no_slots 35 (HoldsItsBlock (single 35)));
  no_cycle = none_in_itself query sizes (ranked_by_size query sizes adds_up);
  points_fit = points_fit;
  small_root = record { root = root; at = refl; some = root_atom; size = sizes; adds_up = adds_up; small = small };
  few_members = record { all_groups = refl; few = omega arith };
  members_once = record {
    rise = All-cons (λ (one : Group). AllPairs (λ u later. u < later) one.members) (plain_group (1 ∷ 3 ∷ [])) (plain_group (2 ∷ []) ∷ replicate 30 (plain_group []))
        (pairs_two (λ u later. u < later) 1 3 (omega arith))
        (All-cons (λ (one : Group). AllPairs (λ u later. u < later) one.members) (plain_group (2 ∷ [])) (replicate 30 (plain_group [])) (pairs_one (λ u later. u < later) 2)
        (all_same (λ (one : Group). AllPairs (λ u later. u < later) one.members) (plain_group []) 30 (pairs_none (λ u later. u < later))));
    one_group = λ g h u least least' at at'. in_group g u least at ∙ sym (in_group h u least' at');
  };
  labels_rise = all_4 HasRisingLabels root (single 9) (single 17) (single 35) root_labels (no_slots 9 (λ slot. AreRisingLabels (site_labels slot)))
      (no_slots 17 (λ slot. AreRisingLabels (site_labels slot))) (no_slots 35 (λ slot. AreRisingLabels (site_labels slot)));
}
