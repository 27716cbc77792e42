-- Bonds and neighbours, links and their blocks, of a table that passes.
--     neighbour_of      an atom that a bond joins to x is one of its neighbours
--     links_stand       each link is such as a query may have
--     sites_apart_at    no bond joins two sites
--     block_closed      the block of a link is joined on by the link alone
use Rattle.std.proofs.Common.{◌≡◌, ◌≢◌, ◌≤◌, ℕ, zero, suc, Bool, true, false, cond, eqb, List, [], ◌∷◌, Some, refl, sym, subst, ◌∙◌, length, arith, inl, inr, ⊎_elim}
use Rattle.std.specs.Prelude.{ℤ, ◌⊎◌, ◌&&◌, ◌||◌, All, Contains, IsTrue}
use Rattle.std.proofs.lemmas.Bool.{eq-eqb}
use Rattle.std.proofs.lemmas.Bool.Decides.{nat_tests}
use Rattle.mk_props.specs.declared.property.LinkEntry.{LinkEntry}
use Rattle.mk_model.specs.declared.template.QueryBond.{QueryBond}
use Rattle.mk_model.specs.declared.template.Slot.{Slot}
use Rattle.mk_model.specs.declared.template.Slot.TheVariants.{Link, Site}
use Rattle.mk_model.specs.Templates.{joins}
use Rattle.mk_tables.specs.declared.raw.RawTable.{RawTable}
use Rattle.mk_demands.specs.Numbers.{natural}
use Rattle.mk_query.specs.Compiled.{labelled_groups, ordered_neighbours, slot_with, table_slots}
use Rattle.mk_query.specs.Drawn.{drawn_neighbours, is_site_at, labels_at, links_at, neighbours_at, query_bonds}
use Rattle.mk_query.specs.FirstFault.{link_atoms, site_places}
use Rattle.mk_query.specs.LinkChecks.{AreRightLinks, CanBeLink}
use Rattle.mk_query.specs.Passed.{HasPassed}
use Rattle.mk_query.specs.SiteChecks.{ArePlaced}
use Rattle.mk_query.proofs.FitsPointLemmas.{atom_line}
use Rattle.mk_query.proofs.FitsSlotLemmas.{each_slot, labelled_is_site, same_slot}

-- ---- bonds and neighbours

or_cases : (a b : Bool) → (a || b) ≡ true → (a ≡ true) ⊎ (b ≡ true)
or_cases true b is = inl refl
or_cases false b is = inr is

and_both : (a b : Bool) → (a && b) ≡ true → (a ≡ true) × (b ≡ true)
and_both true b is = (refl, is)
and_both false b is = absurd cc

pub same_number : (m n : ℕ) → eqb m n ≡ true → m ≡ n
same_number m n is = grind (arith, nat_tests)

-- the ends of a bond that joins x and y
pub ends_of : (x y : ℕ) (bond : QueryBond) → IsTrue (joins x y bond) → ((bond.first ≡ x) × (bond.second ≡ y)) ⊎ ((bond.first ≡ y) × (bond.second ≡ x))
ends_of x y bond is =
    ⊎_elim
    (λ forth. (let both = and_both (eqb bond.first x) (eqb bond.second y) forth in inl (same_number bond.first x both.0, same_number bond.second y both.1)))
    (λ back. (let both = and_both (eqb bond.first y) (eqb bond.second x) back in inr (same_number bond.first y both.0, same_number bond.second x both.1)))
    (or_cases (eqb bond.first x && eqb bond.second y) (eqb bond.first y && eqb bond.second x) is)

contains_more : (x : ℕ) (xs : List ℕ) (y : ℕ) → Contains xs y → Contains (x ∷ xs) y
contains_more x xs y (k, below, is) = (suc k, omega (arith, below), is)

-- one bond more, by its two ends
bond_first : (b : QueryBond) (x y : ℕ) (others : List ℕ) (t u : Bool) → eqb b.first x ≡ t → eqb b.second x ≡ u → ((b.first ≡ x) × (b.second ≡ y)) ⊎ ((b.first ≡ y) × (b.second ≡ x))
    → Contains (cond t (b.second ∷ others) (cond u (b.first ∷ others) others)) y
bond_first b x y others true u is_t is_u (inl forth) = (0, omega arith, forth.1)
bond_first b x y others true u is_t is_u (inr back) = (let same = same_number b.first x is_t in (0, omega arith, back.1 ∙ sym same ∙ back.0))
bond_first b x y others false u is_t is_u (inl forth) = absurd (let yes = eq-eqb b.first x forth.0 in cc)
bond_first b x y others false true is_t is_u (inr back) = (0, omega arith, back.0)
bond_first b x y others false false is_t is_u (inr back) = absurd (let yes = eq-eqb b.second x back.1 in cc)

bond_later : (b : QueryBond) (y : ℕ) (others : List ℕ) (t u : Bool) → Contains others y → Contains (cond t (b.second ∷ others) (cond u (b.first ∷ others) others)) y
bond_later b y others true u at = contains_more b.second others y at
bond_later b y others false true at = contains_more b.first others y at
bond_later b y others false false at = at

-- an atom that a bond joins to x is one of its neighbours
pub neighbour_of : (bonds : List QueryBond) (x y : ℕ) (bond : QueryBond) → Contains bonds bond → IsTrue (joins x y bond) → Contains (neighbours_at bonds x) y
neighbour_of [] x y bond (k, below, is) joined = absurd (omega (arith, below))
neighbour_of (b ∷ bonds) x y bond (zero, below, is) joined =
    bond_first b x y (neighbours_at bonds x) (eqb b.first x) (eqb b.second x) refl refl (ends_of x y b (subst (λ (c : QueryBond). IsTrue (joins x y c)) (sym is) joined))
neighbour_of (b ∷ bonds) x y bond (suc k, below, is) joined =
    bond_later b y (neighbours_at bonds x) (eqb b.first x) (eqb b.second x) (neighbour_of bonds x y bond (k, omega (arith, below), is) joined)

-- ---- sites

-- the atom of a site is one
abbrev pub StandsAtSite : RawTable → Slot → Type 0
StandsAtSite table (Link atom most from to) = Unit {0}
StandsAtSite table (Site atom groups first second) = IsTrue (is_site_at table atom) × (1 ≤ atom) × (atom ≤ length table.atoms)

site_with : (table : RawTable) (x : ℕ) (links : List LinkEntry) (labels : List ℤ) (both : ℕ × ℕ) (slot : Slot) → 1 ≤ x
    → x ≤ length table.atoms → (labels ≢ [] → IsTrue (is_site_at table x)) → slot_with x links labels both ≡ Some slot
    → StandsAtSite table slot
site_with table x (link ∷ links) labels both slot least most site is = subst (StandsAtSite table) (same_slot (Link x (natural link.most) (natural link.from) (natural link.to)) slot is) tt
site_with table x [] (label ∷ labels) both slot least most site is =
    subst (StandsAtSite table) (same_slot (Site x (labelled_groups (label ∷ labels)) both.0 both.1) slot is) (site (λ e. absurd cc), least, most)
site_with table x [] [] both slot least most site is = absurd cc

pub sites_stand : (table : RawTable) → HasPassed table → All (StandsAtSite table) (table_slots table)
sites_stand table passed =
    each_slot (StandsAtSite table) table
    (λ x slot least most is. site_with table x (links_at table x) (labels_at table x) (ordered_neighbours table x) slot least most (labelled_is_site table x passed least most) is)

pub placed_at : (table : RawTable) (x : ℕ) → HasPassed table → 1 ≤ x → x ≤ length table.atoms → IsTrue (is_site_at table x) → ArePlaced table (drawn_neighbours table x)
placed_at table x passed least most site =
    let there = atom_line table x least most in
    passed.passes site_places x there.0 least there.1 (rw there.1 at site)

-- no bond joins two sites
pub sites_apart_at : (table : RawTable) (x y : ℕ) (bond : QueryBond) → HasPassed table → 1 ≤ x → x ≤ length table.atoms
    → IsTrue (is_site_at table x) → IsTrue (is_site_at table y) → Contains (query_bonds table.bonds) bond
    → IsTrue (joins x y bond) → ⊥
sites_apart_at table x y bond passed least most site other at joined =
    let (k, below, is) = neighbour_of (query_bonds table.bonds) x y bond at joined in
    (placed_at table x passed least most site).apart k y below (subst (λ (z : ℕ). IsTrue (is_site_at table z)) (sym is) other)

-- ---- links

-- a link that is right and stands at its atom
abbrev pub StandsAsLink : RawTable → Slot → Type 0
StandsAsLink table (Link atom most from to) =
    (link : LinkEntry) × (most ≡ natural link.most) × (from ≡ natural link.from) × (to ≡ natural link.to) × CanBeLink table atom link × (1 ≤ atom) × (atom ≤ length table.atoms)
StandsAsLink table (Site atom groups first second) = Unit {0}

link_with : (table : RawTable) (x : ℕ) (links : List LinkEntry) (labels : List ℤ) (both : ℕ × ℕ) (slot : Slot) → 1 ≤ x
    → x ≤ length table.atoms → AreRightLinks table x links → slot_with x links labels both ≡ Some slot
    → StandsAsLink table slot
link_with table x (link ∷ []) labels both slot least most right is =
    subst (StandsAsLink table) (same_slot (Link x (natural link.most) (natural link.from) (natural link.to)) slot is) (link, refl, refl, refl, right, least, most)
link_with table x (link ∷ second ∷ links) labels both slot least most right is = absurd right
link_with table x [] (label ∷ labels) both slot least most right is = subst (StandsAsLink table) (same_slot (Site x (labelled_groups (label ∷ labels)) both.0 both.1) slot is) tt
link_with table x [] [] both slot least most right is = absurd cc

-- each link is such as a query may have
pub links_stand : (table : RawTable) → HasPassed table → All (StandsAsLink table) (table_slots table)
links_stand table passed =
    each_slot (StandsAsLink table) table
    (λ x slot least most is.
    let there = atom_line table x least most in
    link_with table x (links_at table x) (labels_at table x) (ordered_neighbours table x) slot least most (passed.passes link_atoms x there.0 least there.1) is)
