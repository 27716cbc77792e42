-- The query of the example keeps what every query keeps: `[C R# R# | 1-2 1-3]` with the groups 1 and 2, `[F | ]` and `[Cl | ]`, of
-- which group 1 may be filled once or not, and then asks that group 2 is filled.
use Rattle.std.proofs.Common.{◌≡◌, ◌≢◌, ℕ, zero, suc, ◌-◌, ◌<◌, ◌≤◌, ◌⊎◌, inl, inr, List, [], ◌∷◌, length, replicate, Option, Some, None, refl, sym, ap, subst, ◌∙◌, arith, rules, All}
use Rattle.std.specs.Prelude.{◌==◌, AllPairs, Contains, slice_get, IsTrue, if◌then◌else◌}
use Rattle.std.proofs.lemmas.Bool.Decides.{nat_tests}
use Rattle.std.proofs.lemmas.List.Elements.{All-cons, All-nil}
use Rattle.mk_model.specs.declared.group.Group.{Group}
use Rattle.mk_model.specs.declared.template.QueryBond.{QueryBond}
use Rattle.mk_model.specs.declared.template.Slot.{Slot}
use Rattle.mk_model.specs.declared.template.Slot.TheVariants.{Site}
use Rattle.mk_model.specs.Tests.{IsBondInRange, IsTestInRange}
use Rattle.mk_model.specs.Templates.{TemplateView, joins, slot_atom}
use Rattle.mk_model.specs.Queries.{members_of}
use Rattle.mk_model.specs.Sizes.{IsSizing, size_by}
use Rattle.mk_model.specs.Labels.{joint_members, site_labels}
use Rattle.mk_model.specs.QueryFits.{AreApart, AreNeighbours, AreRisingLabels, FitsPoints, HasClosedBlocks, HasFittingPoints, HasFreePoints, HasPairsOnce, HasRisingLabels, HasRisingSlots, HasSitesApart, IsAtomOf, HoldsItsBlock, IsInRange, IsSlotOf, NamesItsNeighbours, NamesNeighbours, QueryFits}
use Rattle.mk_model.proofs.ForCallers.{none_in_itself, ranked_by_size}
use Rattle.mk_model.proofs.ForCallers.{NoPair, all_1, all_2, all_3, all_same, edge, once_by, pairs_none, pairs_one, pairs_two}
use Rattle.mk_model.proofs.OnLiterals.{atom, bond, group, plain_group, range, single, site_atom, then_query, two_sites}

-- ---- no pair twice

edges_apart : AllPairs NoPair (edge 1 2 ∷ edge 1 3 ∷ [])
unfolding edge
edges_apart = pairs_two NoPair (edge 1 2) (edge 1 3) (λ x y p q. omega (arith, p, q))

root_pairs : HasPairsOnce (two_sites 1 2)
unfolding two_sites bond edge
root_pairs = record {
  differ = all_2 (λ (b : QueryBond). b.first ≢ b.second) (bond 1 2) (bond 1 3) (λ e. omega (arith, e)) (λ e. omega (arith, e));
  once = once_by (edge 1 2 ∷ edge 1 3 ∷ []) edges_apart;
}

single_pairs : (z : ℕ) → HasPairsOnce (single z)
unfolding single
single_pairs z = record { differ = All-nil (λ b. b.first ≢ b.second); once = once_by [] (pairs_none NoPair) }

-- ---- in range

element : (z : ℕ) → 1 ≤ z → z ≤ 118 → IsTestInRange (atom z)
unfolding atom
element z least most = record {
  kind = (least, most);
  charge = search rules;
  radical = omega arith;
  hydrogens = omega arith;
  ring_bonds = search rules;
  no_single_ring_bond = λ e. (cc);
  substitution = search rules;
}

any : IsTestInRange site_atom
unfolding site_atom
any = record { kind = tt; charge = search rules; radical = omega arith; hydrogens = omega arith; ring_bonds = search rules; no_single_ring_bond = λ e. (cc); substitution = search rules }

-- each bond joins two atoms, and asks for a known type and topology
ends : (y : ℕ) → 1 ≤ y → y ≤ 3 → IsAtomOf (two_sites 1 2) (bond 1 y).first × IsAtomOf (two_sites 1 2) (bond 1 y).second
unfolding two_sites bond
ends y a b = ((omega arith, omega arith), (a, b))

asked : (x y : ℕ) → IsBondInRange (bond x y).kind (bond x y).topology
unfolding bond
asked x y = record { kind = (omega arith, omega arith); topology = omega arith }

site : (x g : ℕ) → 1 ≤ x → x ≤ 3 → IsSlotOf (two_sites 1 2) (Site x (g ∷ []) 1 0)
unfolding two_sites
site x g a b = (a, b)

root_range : IsInRange (two_sites 1 2)
unfolding two_sites
root_range = record {
  tests = all_3 IsTestInRange (atom 6) site_atom site_atom (element 6 (omega arith) (omega arith)) any any;
  bond_tests = all_2 (λ (b : QueryBond). IsBondInRange b.kind b.topology) (bond 1 2) (bond 1 3) (asked 1 2) (asked 1 3);
  ends = all_2 (λ (b : QueryBond). IsAtomOf (two_sites 1 2) b.first × IsAtomOf (two_sites 1 2) b.second) (bond 1 2)
      (bond 1 3) (ends 2 (omega arith) (omega arith)) (ends 3 (omega arith) (omega arith));
  slots = all_2 (IsSlotOf (two_sites 1 2)) (Site 2 (1 ∷ []) 1 0) (Site 3 (2 ∷ []) 1 0)
      (site 2 1 (omega arith) (omega arith)) (site 3 2 (omega arith) (omega arith));
  points = All-nil (IsAtomOf (two_sites 1 2));
  few_points = omega arith;
}

single_range : (z : ℕ) → 1 ≤ z → z ≤ 118 → IsInRange (single z)
unfolding single
single_range z least most = record {
  tests = all_1 IsTestInRange (atom z) (element z least most);
  bond_tests = All-nil (λ b. IsBondInRange b.kind b.topology);
  ends = All-nil (λ b. IsAtomOf (single z) b.first × IsAtomOf (single z) b.second);
  slots = All-nil (IsSlotOf (single z));
  points = all_1 (IsAtomOf (single z)) 1 (omega arith, omega arith);
  few_points = omega arith;
}

-- ---- the slots of the root

-- what is joined to a site
joined : (x y : ℕ) (b : QueryBond) → 2 ≤ x → Contains (bond 1 2 ∷ bond 1 3 ∷ []) b → IsTrue (joins x y b) → y ≡ 1
unfolding bond
joined x y b high (zero, below, is) test = (let test' : IsTrue (joins x y (bond 1 2)) = subst (λ (c : QueryBond). IsTrue (joins x y c)) (sym is) test in grind (arith, nat_tests))
joined x y b high (suc zero, below, is) test = (let test' : IsTrue (joins x y (bond 1 3)) = subst (λ (c : QueryBond). IsTrue (joins x y c)) (sym is) test in grind (arith, nat_tests))
joined x y b high (suc (suc k), below, is) test = absurd (omega (arith, below))

root_neighbours : NamesNeighbours (two_sites 1 2)
unfolding two_sites bond
root_neighbours =
    all_2 (NamesItsNeighbours (two_sites 1 2)) (Site 2 (1 ∷ []) 1 0) (Site 3 (2 ∷ []) 1 0)
    (record { some = λ e. omega (arith, e); differ = λ e. omega (arith, e); neighbours = λ y. (λ found. inl (joined 2 y found.0 (omega arith) found.1 found.2), λ named. first y 0 named refl) })
    (record { some = λ e. omega (arith, e); differ = λ e. omega (arith, e); neighbours = λ y. (λ found. inl (joined 3 y found.0 (omega arith) found.1 found.2), λ named. second y 0 named refl) })
  where
    first : (y none : ℕ) → (y ≡ 1) ⊎ ((y ≡ none) × (none ≢ 0)) → none ≡ 0 → AreNeighbours (two_sites 1 2) 2 y
    first y none (inl same) zero_is = (bond 1 2, (0, omega arith, refl), rw same refl)
    first y none (inr other) zero_is = absurd (other.1 zero_is)

    second : (y none : ℕ) → (y ≡ 1) ⊎ ((y ≡ none) × (none ≢ 0)) → none ≡ 0 → AreNeighbours (two_sites 1 2) 3 y
    second y none (inl same) zero_is = (bond 1 3, (1, omega arith, refl), rw same refl)
    second y none (inr other) zero_is = absurd (other.1 zero_is)

root_points : HasFreePoints (two_sites 1 2)
unfolding two_sites
root_points slot at point = (let below = point.1 in omega arith)

-- a slot is one of the two
which : (slot : Slot) → Contains (Site 2 (1 ∷ []) 1 0 ∷ Site 3 (2 ∷ []) 1 0 ∷ []) slot → (x : ℕ) × (g : ℕ) × (2 ≤ x) × (Site x (g ∷ []) 1 0 ≡ slot)
which slot (zero, below, is) = (2, 1, omega arith, is)
which slot (suc zero, below, is) = (3, 2, omega arith, is)
which slot (suc (suc k), below, is) = absurd (omega (arith, below))

root_apart : HasSitesApart (two_sites 1 2)
unfolding two_sites bond
root_apart slot other at at' =
    let one = which slot at in
    let two = which other at' in
    subst (λ (s : Slot). AreApart (two_sites 1 2) s other) one.3 (subst (λ (s : Slot). AreApart (two_sites 1 2) (Site one.0 (one.1 ∷ []) 1 0) s) two.3
    (λ found. (let same = joined one.0 two.0 found.0 one.2 found.1 found.2 in omega (arith, same, two.2))))

root_blocks : HasClosedBlocks (two_sites 1 2)
unfolding two_sites
root_blocks = all_2 (HoldsItsBlock (two_sites 1 2)) (Site 2 (1 ∷ []) 1 0) (Site 3 (2 ∷ []) 1 0) tt tt

root_rises : HasRisingSlots (two_sites 1 2)
unfolding two_sites
root_rises = pairs_two (λ slot later. slot_atom slot < slot_atom later) (Site 2 (1 ∷ []) 1 0) (Site 3 (2 ∷ []) 1 0) (omega arith)

-- a site of one label
one_label : (x g : ℕ) → 1 ≤ g → g ≤ 32 → AreRisingLabels (site_labels (Site x (g ∷ []) 1 0))
one_label x g least most = record { rise = pairs_one (λ h later. h < later) g; in_range = all_1 (λ h. (1 ≤ h) × (h ≤ 32)) g (least, most) }

root_labels : HasRisingLabels (two_sites 1 2)
unfolding two_sites
root_labels =
    all_2 (λ slot. AreRisingLabels (site_labels slot)) (Site 2 (1 ∷ []) 1 0) (Site 3 (2 ∷ []) 1 0)
    (one_label 2 1 (omega arith) (omega arith)) (one_label 3 2 (omega arith) (omega arith))

-- ---- groups

at_same : {X : Type 0} (n k : ℕ) (x y : X) → slice_get (replicate n x) k ≡ Some y → x ≡ y
at_same zero k x y at = absurd cc
at_same (suc n) zero x y at = cc
at_same (suc n) (suc k) x y at = at_same n k x y at

one_of : (v u : ℕ) → Contains (v ∷ []) u → u ≡ v
one_of v u (zero, below, is) = sym is
one_of v u (suc k, below, is) = absurd (omega (arith, below))

-- a member of a group has its number
in_group : (g u : ℕ) → 1 ≤ g → Contains (members_of then_query g) u → g ≡ u
unfolding then_query plain_group group
in_group g u least at = by_place (g - 1) refl at
  where
    members : Option Group → List ℕ
    members None = []
    members (Some one) = one.members

    by_group : (k : ℕ) (o : Option Group) → slice_get (replicate 30 (plain_group [])) k ≡ o → Contains (members o) u → ⊥
    by_group k None e at = omega (arith, at.1)
    by_group k (Some one) e at =
        let same : plain_group [] ≡ one = at_same 30 k (plain_group []) one e in
        let empty : one.members ≡ [] = sym (ap (λ (h : Group). h.members) same) ∙ no_ones in
        (let at' : Contains [] u = subst (λ (us : List ℕ). Contains us u) empty at in omega (arith, at'.1))
      where
        no_ones : (plain_group []).members ≡ []
        no_ones = refl

    by_place : (k : ℕ) → g - 1 ≡ k → Contains (members (slice_get (group (1 ∷ []) 2 (range 0 1) ∷ group (2 ∷ []) 0 (range 1 1) ∷ replicate 30 (plain_group [])) k)) u → g ≡ u
    by_place zero e at = omega (arith, e, least, one_of 1 u at)
    by_place (suc zero) e at = omega (arith, e, one_of 2 u at)
    by_place (suc (suc k)) e at = absurd (by_group k (slice_get (replicate 30 (plain_group [])) k) refl at)

-- ---- sizes

sizes : ℕ → ℕ
sizes t = if t == 0 then 5 else 1

adds_up : IsSizing then_query sizes
unfolding then_query two_sites single plain_group group range sizes joint_members
adds_up zero template at = (let same : two_sites 1 2 ≡ template = cc in subst (λ (p : TemplateView). 5 ≡ size_by then_query sizes p) same refl)
adds_up (suc zero) template at = (let same : single 9 ≡ template = cc in subst (λ (p : TemplateView). sizes 1 ≡ size_by then_query sizes p) same refl)
adds_up (suc (suc zero)) template at = (let same : single 17 ≡ template = cc in subst (λ (p : TemplateView). sizes 2 ≡ size_by then_query sizes p) same refl)
adds_up (suc (suc (suc t))) template at = absurd cc

small : sizes 0 ≤ 512
unfolding sizes
small = omega arith

-- ---- the whole query

-- a template that is used has one point
one_point : (u : ℕ) (template : TemplateView) → 1 ≤ u → slice_get (two_sites 1 2 ∷ single 9 ∷ single 17 ∷ []) u ≡ Some template → length template.points ≡ 1
unfolding single
one_point zero template least stands = absurd (omega (arith, least))
one_point (suc zero) template least stands = (let is : single 9 ≡ template = cc in sym (ap (λ (p : TemplateView). length p.points) is))
one_point (suc (suc zero)) template least stands = (let is : single 17 ≡ template = cc in sym (ap (λ (p : TemplateView). length p.points) is))
one_point (suc (suc (suc u))) template least stands = absurd cc

points_fit : HasFittingPoints then_query
unfolding then_query two_sites single plain_group group joint_members
points_fit =
    all_3 (λ (template : TemplateView). All (FitsPoints then_query) template.slots) (two_sites 1 2) (single 9) (single 17)
    (all_2 (FitsPoints then_query) (Site 2 (1 ∷ []) 1 0) (Site 3 (2 ∷ []) 1 0)
    (λ u template at stands. one_point u template (omega (arith, one_of 1 u at)) stands) (λ u template at stands. one_point u template (omega (arith, one_of 2 u at)) stands))
    (All-nil (FitsPoints then_query)) (All-nil (FitsPoints then_query))

no_slots : (z : ℕ) (P : Slot → Type 0) → All P (single z).slots
unfolding single
no_slots z P = All-nil P

single_rises : (z : ℕ) → HasRisingSlots (single z)
unfolding single
single_rises z = pairs_none (λ slot later. slot_atom slot < slot_atom later)

single_points : (z : ℕ) → HasFreePoints (single z)
unfolding single
single_points z slot at point = (let below = at.1 in omega (arith, below))

single_apart : (z : ℕ) → HasSitesApart (single z)
unfolding single
single_apart z slot other at at' = absurd (let below = at.1 in omega (arith, below))

root_atom : 1 ≤ length (two_sites 1 2).atoms
unfolding two_sites
root_atom = omega arith

pub fits : QueryFits then_query
unfolding then_query plain_group group
fits = record {
  in_range = record {
    templates = all_3 IsInRange (two_sites 1 2) (single 9) (single 17) root_range (single_range 9 (omega arith) (omega arith)) (single_range 17 (omega arith) (omega arith));
    members = All-cons (λ (one : Group). All (λ u. (1 ≤ u) × (u < 3)) one.members) (group (1 ∷ []) 2 (range 0 1)) (group (2 ∷ []) 0 (range 1 1) ∷ replicate 30 (plain_group []))
        (all_1 (λ u. (1 ≤ u) × (u < 3)) 1 (omega arith, omega arith))
        (All-cons (λ (one : Group). All (λ u. (1 ≤ u) × (u < 3)) one.members) (group (2 ∷ []) 0 (range 1 1))
        (replicate 30 (plain_group [])) (all_1 (λ u. (1 ≤ u) × (u < 3)) 2 (omega arith, omega arith))
        (all_same (λ (one : Group). All (λ u. (1 ≤ u) × (u < 3)) one.members) (plain_group []) 30 (All-nil (λ u. (1 ≤ u) × (u < 3)))));
  };
  pairs_once = all_3 HasPairsOnce (two_sites 1 2) (single 9) (single 17) root_pairs (single_pairs 9) (single_pairs 17);
  slots_rise = all_3 HasRisingSlots (two_sites 1 2) (single 9) (single 17) root_rises (single_rises 9) (single_rises 17);
  neighbours = all_3 NamesNeighbours (two_sites 1 2) (single 9) (single 17) root_neighbours (no_slots 9 (NamesItsNeighbours (single 9))) (no_slots 17 (NamesItsNeighbours (single 17)));
  points_free = all_3 HasFreePoints (two_sites 1 2) (single 9) (single 17) root_points (single_points 9) (single_points 17);
  sites_apart = all_3 HasSitesApart (two_sites 1 2) (single 9) (single 17) root_apart (single_apart 9) (single_apart 17);
  blocks_closed = all_3 HasClosedBlocks (two_sites 1 2) (single 9) (single 17) root_blocks (no_slots 9 (HoldsItsBlock (single 9))) (no_slots 17 (HoldsItsBlock (single 17)));
  no_cycle = none_in_itself then_query sizes (ranked_by_size then_query sizes adds_up);
  points_fit = points_fit;
  small_root = record { root = two_sites 1 2; at = refl; some = root_atom; size = sizes; adds_up = adds_up; small = small };
  few_members = record { all_groups = refl; few = omega arith };
  members_once = record {
    rise = All-cons (λ (one : Group). AllPairs (λ u later. u < later) one.members) (group (1 ∷ []) 2 (range 0 1))
        (group (2 ∷ []) 0 (range 1 1) ∷ replicate 30 (plain_group [])) (pairs_one (λ u later. u < later) 1)
        (All-cons (λ (one : Group). AllPairs (λ u later. u < later) one.members) (group (2 ∷ []) 0 (range 1 1)) (replicate 30 (plain_group [])) (pairs_one (λ u later. u < later) 2)
        (all_same (λ (one : Group). AllPairs (λ u later. u < later) one.members) (plain_group []) 30 (pairs_none (λ u later. u < later))));
    one_group = λ g h u least least' at at'. in_group g u least at ∙ sym (in_group h u least' at');
  };
  labels_rise = all_3 HasRisingLabels (two_sites 1 2) (single 9) (single 17) root_labels
      (no_slots 9 (λ slot. AreRisingLabels (site_labels slot))) (no_slots 17 (λ slot. AreRisingLabels (site_labels slot)));
}

-- lists that are those of the query
pub fits_so : (templates : List TemplateView) (groups : List Group) → templates ≡ two_sites 1 2 ∷ single 9 ∷ single 17 ∷ []
    → groups ≡ group (1 ∷ []) 2 (range 0 1) ∷ group (2 ∷ []) 0 (range 1 1) ∷ replicate 30 (plain_group []) → QueryFits (record { templates = templates; groups = groups })
unfolding then_query
fits_so templates groups same same' = rw (same, same') fits
