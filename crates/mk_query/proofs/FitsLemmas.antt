-- What the template of a table that passes keeps of what a query asks of each template.
--     pairs_once, slots_rising, names_neighbours, points_free, sites_apart, blocks_closed
--     in_range             all its numbers are in range
--     labels_rising, has_groups, is_sized
use Rattle.std.proofs.Common.{◌≡◌, ◌≢◌, ◌≤◌, ℕ, List, [], ◌∷◌, Some, refl, ap, sym, subst, ◌∙◌, length, get_or, arith, ⊎_elim}
use Rattle.std.specs.Prelude.{ℤ, pos, negsuc, ◌≤ℤ◌, All, Contains, IsTrue}
use Rattle.std.proofs.lemmas.Int.{ints}
use Rattle.std.proofs.lemmas.Bool.{cases_eq}
use Rattle.std.proofs.lemmas.List.{length-map}
use Rattle.mk_props.specs.declared.property.LinkEntry.{LinkEntry}
use Rattle.mk_model.specs.declared.atom_test.AtomTest.{AtomTest}
use Rattle.mk_model.specs.declared.template.QueryBond.{QueryBond}
use Rattle.mk_model.specs.declared.template.Slot.{Slot}
use Rattle.mk_model.specs.declared.template.Slot.TheVariants.{Link, Site}
use Rattle.mk_model.specs.QueryFits.{AreApart, HasClosedBlocks, HasFreePoints, HasPairsOnce, HasRisingLabels, HasRisingSlots, HasSitesApart, IsAtomOf, HoldsItsBlock, IsInRange, IsMarked, IsSlotOf, NamesItsNeighbours, NamesNeighbours}
use Rattle.mk_model.specs.Tests.{IsBondInRange}
use Rattle.mk_model.specs.Templates.{TemplateView, is_in_block, slot_atom}
use Rattle.mk_tables.specs.declared.raw.RawTable.{RawTable}
use Rattle.mk_demands.specs.Numbers.{natural}
use Rattle.mk_demands.proofs.ForCallers.{atoms_differ}
use Rattle.mk_query.specs.Compiled.{IsTemplateOf, labelled_groups, ordered_neighbours, points_of, slot_at, slot_with, table_slots}
use Rattle.mk_query.specs.Drawn.{labels_at, links_at, query_bond, query_bonds}
use Rattle.mk_query.specs.InRange.{IsTableInRange}
use Rattle.mk_query.specs.OwnSizes.{IsSized}
use Rattle.mk_query.specs.Passed.{HasPassed}
use Rattle.mk_query.specs.Recursion.{NamesGroups}
use Rattle.mk_query.proofs.FitsBondLemmas.{bonds_in_range, each_between, simple}
use Rattle.mk_query.proofs.FitsNeighbourLemmas.{StandsAsLink, StandsAtSite, links_stand, placed_at, sites_apart_at, sites_stand}
use Rattle.mk_query.proofs.FitsOrderLemmas.{joined_names, site_names}
use Rattle.mk_query.proofs.FitsPointLemmas.{IsBearer, points_few, points_in_range}
use Rattle.mk_query.proofs.FitsTestLemmas.{tests_in_range}
use Rattle.mk_query.proofs.FitsSlotLemmas.{atom_of_slot, each_slot, free_at, no_slot_at, same_slot, slots_labels_rise, slots_rise, slots_stand}

-- what holds of all holds of one that is there
all_contained : {X : Type 0} (P : X → Type 0) (xs : List X) (x : X) → All P xs → Contains xs x → P x
all_contained P xs x all (k, below, is) = subst P is (all k x below)

-- the template of a table with these tests
abbrev view : RawTable → List AtomTest → TemplateView
view table tests = record { atoms = tests; bonds = query_bonds table.bonds; slots = table_slots table; points = points_of table }

template_is : (table : RawTable) (template : TemplateView) → IsTemplateOf table template → template ≡ view table template.atoms
template_is table template is =
    ap (λ (bonds : List QueryBond). record { atoms = template.atoms; bonds = bonds; slots = template.slots; points = template.points }) is.bonds
    ∙ ap (λ (slots : List Slot). record { atoms = template.atoms; bonds = query_bonds table.bonds; slots = slots; points = template.points }) is.slots
    ∙ ap (λ (points : List ℕ). record { atoms = template.atoms; bonds = query_bonds table.bonds; slots = table_slots table; points = points }) is.points

-- what holds of the template of a table with its tests holds of the template
by_view : (P : TemplateView → Type 0) (table : RawTable) (template : TemplateView) → IsTemplateOf table template → P (view table template.atoms) → P template
by_view P table template is holds = subst P (sym (template_is table template is)) holds

-- ---- bonds, slots and points

pub pairs_once : (table : RawTable) (template : TemplateView) → HasPassed table → IsTemplateOf table template → HasPairsOnce template
pairs_once table template passed is =
    by_view HasPairsOnce table template is
    (record { differ = λ k d below. (each_between table passed k d below).differ; once = (simple table passed).once })

pub slots_rising : (table : RawTable) (template : TemplateView) → IsTemplateOf table template → HasRisingSlots template
slots_rising table template is = by_view HasRisingSlots table template is (slots_rise table)

-- each slot is that of its atom
abbrev IsOwn : RawTable → Slot → Type 0
IsOwn table slot = (slot_at table (slot_atom slot) ≡ Some slot) × (1 ≤ slot_atom slot) × (slot_atom slot ≤ length table.atoms)

own_slots : (table : RawTable) → All (IsOwn table) (table_slots table)
own_slots table =
    each_slot (IsOwn table) table
    (λ x slot least most is. (let at = atom_of_slot table x slot is in subst (λ (y : ℕ). (slot_at table y ≡ Some slot) × (1 ≤ y) × (y ≤ length table.atoms)) (sym at) (is, least, most)))

pub points_free : (table : RawTable) (template : TemplateView) → HasPassed table → IsTemplateOf table template → HasFreePoints template
points_free table template passed is =
    by_view HasFreePoints table template is
    (λ slot at point.
    let own = all_contained (IsOwn table) (table_slots table) slot (own_slots table) at in
    let bearer = all_contained (IsBearer table) (points_of table) (slot_atom slot) (points_in_range table) point in
    free_at table (slot_atom slot) slot passed own.1 own.2 own.0 bearer.1)

apart : (table : RawTable) (tests : List AtomTest) (slot other : Slot) → HasPassed table → StandsAtSite table slot → StandsAtSite table other → AreApart (view table tests) slot other
apart table tests (Site atom groups first second) (Site atom' groups' first' second') passed one two =
    λ joined. sites_apart_at table atom atom' joined.0 passed one.1 one.2 one.0 two.0 joined.1 joined.2
apart table tests (Link atom most from to) other passed one two = tt
apart table tests (Site atom groups first second) (Link atom' most from to) passed one two = tt

pub sites_apart : (table : RawTable) (template : TemplateView) → HasPassed table → IsTemplateOf table template → HasSitesApart template
sites_apart table template passed is =
    by_view HasSitesApart table template is
    (λ slot other at there.
    apart table template.atoms slot other passed (all_contained (StandsAtSite table) (table_slots table) slot (sites_stand table passed) at)
    (all_contained (StandsAtSite table) (table_slots table) other (sites_stand table passed) there))

-- ---- blocks

closed_link : (table : RawTable) (tests : List AtomTest) (atom most from to : ℕ) → HasPassed table
    → StandsAsLink table (Link atom most from to) → (y : ℕ)
    → IsTrue (is_in_block (view table tests) (Link atom most from to) y)
    → (y ≢ from) × (y ≢ to) × (IsMarked (view table tests) y → y ≡ atom)
closed_link table tests atom most from to passed (link, most_is, from_is, to_is, right, least, few) y inside =
    let within = subst (λ (slot : Slot). IsTrue (is_in_block (view table tests) slot y))
    (ap (λ (m : ℕ). Link atom m from to) most_is ∙ ap (λ (f : ℕ). Link atom (natural link.most) f to) from_is
    ∙ ap (λ (t : ℕ). Link atom (natural link.most) (natural link.from) t) to_is) inside in
    let P : ℕ → Type 0 = λ z. IsTrue (is_in_block (view table tests) (Link atom (natural link.most) (natural link.from) (natural link.to)) z) in (
      λ e. right.not_from (subst P (e ∙ from_is) within),
      λ e. right.not_to (subst P (e ∙ to_is) within),
      λ marked.
          ⊎_elim
          (λ point.
          let bearer = all_contained (IsBearer table) (points_of table) y (points_in_range table) point in
          absurd ((right.plain y bearer.0.0 bearer.0.1 within).no_point bearer.1))
          (λ slot.
          let own = all_contained (IsOwn table) (table_slots table) slot.0 (own_slots table) slot.1 in
          let here : IsOwn table slot.0 = own in
          let at : slot_at table y ≡ Some slot.0 = subst (λ (z : ℕ). slot_at table z ≡ Some slot.0) slot.2 own.0 in
          let from_one : 1 ≤ y = omega (arith, slot.2, own.1) in
          let to_last : y ≤ length table.atoms = omega (arith, slot.2, own.2) in
          let plain = right.plain y from_one to_last within in
          ⊎_elim (λ same. same) (λ differ. absurd (no_slot_at table y slot.0 passed from_one to_last at (plain.no_link differ) plain.no_site)) (cases_eq y atom))
          marked,
    )

closed : (table : RawTable) (tests : List AtomTest) (slot : Slot) → HasPassed table → StandsAsLink table slot → HoldsItsBlock (view table tests) slot
closed table tests (Site atom groups first second) passed stands = tt
closed table tests (Link atom most from to) passed stands = λ y inside. closed_link table tests atom most from to passed stands y inside

pub blocks_closed : (table : RawTable) (template : TemplateView) → HasPassed table → IsTemplateOf table template → HasClosedBlocks template
blocks_closed table template passed is =
    by_view HasClosedBlocks table template is (λ k d below. closed table template.atoms (get_or (table_slots table) k d) passed (links_stand table passed k d below))

-- ---- in range

twice : (z : ℤ) → pos 2 ≤ℤ z → 2 ≤ natural z
twice (pos n) is = omega (arith, ints, is)
twice (negsuc n) is = absurd (omega (arith, ints, is))

slot_of : (table : RawTable) (tests : List AtomTest) (slot : Slot) → length tests ≡ length table.atoms
    → StandsAsLink table slot → (1 ≤ slot_atom slot) × (slot_atom slot ≤ length table.atoms)
    → IsSlotOf (view table tests) slot
slot_of table tests (Site atom groups first second) size stands at = (at.0, omega (arith, at.1, size))
slot_of table tests (Link atom most from to) size (link, most_is, from_is, to_is, right, least, few) at = (
  (at.0, omega (arith, at.1, size)),
  record {
    twice = omega (arith, most_is, twice link.most right.twice);
    differ = λ e. right.differ (atoms_differ (length table.atoms) link.from link.to right.from right.to (sym from_is ∙ e ∙ to_is));
    alike = rw (from_is, to_is) (record {
      one = right.alike.one;
      one_at = right.alike.one_at;
      one_joins = right.alike.one_joins;
      other = right.alike.other;
      other_at = right.alike.other_at;
      other_joins = right.alike.other_joins;
      kind = right.alike.kind;
      topology = right.alike.topology;
    });
  },
)

-- the slots are in range
pub slots_in_range : (table : RawTable) (template : TemplateView) → HasPassed table → IsTemplateOf table template → All (IsSlotOf template) template.slots
slots_in_range table template passed is =
    by_view (λ (t : TemplateView). All (IsSlotOf t) t.slots) table template is
    (λ k d below. slot_of table template.atoms (get_or (table_slots table) k d) is.atoms.size
    (links_stand table passed k d below) (slots_stand table k d below))

-- the points are, and there are two at most
pub points_within : (table : RawTable) (template : TemplateView) → HasPassed table → IsTemplateOf table template → All (IsAtomOf template) template.points × (length template.points ≤ 2)
points_within table template passed is =
    by_view (λ (t : TemplateView). All (IsAtomOf t) t.points × (length t.points ≤ 2)) table template is
    (λ k d below. (let at = (points_in_range table k d below).0 in (at.0, omega (arith, at.1, is.atoms.size))), points_few table passed)

-- the labels of sites rise, and are from 1 to 32
pub labels_rising : (table : RawTable) (template : TemplateView) → IsTemplateOf table template → HasRisingLabels template
labels_rising table template is = by_view HasRisingLabels table template is (slots_labels_rise table)

pub has_groups : (table : RawTable) (template : TemplateView) → IsTemplateOf table template → All NamesGroups template.slots
has_groups table template is k d below = (labels_rising table template is k d below).in_range

pub is_sized : (table : RawTable) (template : TemplateView) → IsTableInRange table → HasPassed table → IsTemplateOf table template → IsSized template
is_sized table template raw passed is =
    by_view IsSized table template is
    (record {
      few = omega (arith, is.atoms.size, raw.few_atoms);
      few_bonds = omega (arith, length-map table.bonds query_bond, raw.few_bonds);
      ends = rw is.atoms.size (simple table passed).ends;
      slots = rw is.atoms.size (slots_stand table);
    })

-- all numbers of the template are in range
pub in_range : (table : RawTable) (template : TemplateView) → IsTableInRange table → HasPassed table → IsTemplateOf table template → IsInRange template
in_range table template raw passed is = record {
  tests = tests_in_range table template.atoms raw passed is.atoms;
  bond_tests = by_view (λ (t : TemplateView). All (λ bond. IsBondInRange bond.kind bond.topology) t.bonds) table template is (bonds_in_range table passed);
  ends = by_view (λ (t : TemplateView). All (λ bond. IsAtomOf t bond.first × IsAtomOf t bond.second) t.bonds) table template is
      (λ k d below.
      let ends = each_between table passed k d below in
      ((ends.first.0, omega (arith, ends.first.1, is.atoms.size)), (ends.second.0, omega (arith, ends.second.1, is.atoms.size))));
  slots = slots_in_range table template passed is;
  points = (points_within table template passed is).0;
  few_points = (points_within table template passed is).1;
}

-- ---- neighbours that sites name

-- a site names the neighbours in the order that holds
abbrev NamesOrder : RawTable → Slot → Type 0
NamesOrder table (Link atom most from to) = Unit {0}
NamesOrder table (Site atom groups first second) = (first ≡ (ordered_neighbours table atom).0) × (second ≡ (ordered_neighbours table atom).1)

order_with : (table : RawTable) (x : ℕ) (links : List LinkEntry) (labels : List ℤ) (slot : Slot) → slot_with x links labels (ordered_neighbours table x) ≡ Some slot → NamesOrder table slot
order_with table x (link ∷ links) labels slot is = subst (NamesOrder table) (same_slot (Link x (natural link.most) (natural link.from) (natural link.to)) slot is) tt
order_with table x [] (label ∷ labels) slot is =
    subst (NamesOrder table) (same_slot (Site x (labelled_groups (label ∷ labels)) (ordered_neighbours table x).0 (ordered_neighbours table x).1) slot is) (refl, refl)
order_with table x [] [] slot is = absurd cc

orders_named : (table : RawTable) → All (NamesOrder table) (table_slots table)
orders_named table = each_slot (NamesOrder table) table (λ x slot least most is. order_with table x (links_at table x) (labels_at table x) slot is)

named : (table : RawTable) (tests : List AtomTest) (slot : Slot) → HasPassed table → StandsAtSite table slot → NamesOrder table slot → NamesItsNeighbours (view table tests) slot
named table tests (Link atom most from to) passed stands order = tt
named table tests (Site atom groups first second) passed stands order =
    let placed = placed_at table atom passed stands.1 stands.2 stands.0 in
    let names = site_names table atom passed placed in
    rw (order.0, order.1) (record { some = names.0; differ = names.1; neighbours = joined_names table atom passed placed })

-- each site names its neighbours
pub names_neighbours : (table : RawTable) (template : TemplateView) → HasPassed table → IsTemplateOf table template → NamesNeighbours template
names_neighbours table template passed is =
    by_view NamesNeighbours table template is
    (λ k d below. named table template.atoms (get_or (table_slots table) k d) passed (sites_stand table passed k d below) (orders_named table k d below))
