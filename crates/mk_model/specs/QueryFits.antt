-- What every `Query` keeps in its type: thirteen facts, in the order of docs/MEANING.md, "Generic
-- queries".
--     AreInRange query          1. tests, ends, slots, points and members are in range
--     HasPairsOnce template     2. bonds have two ends, and no pair stands twice
--     HasRisingSlots template   3. slots stand by rising atom
--     NamesNeighbours template  4. a site names its neighbours
--     HasFreePoints template    5. no point stands at a slot
--     HasSitesApart template    6. no site is bonded to a site
--     HasClosedBlocks template  7. a block is joined on by its link alone
--     HasNoCycle query          8. no template uses itself
--     HasFittingPoints query    9. each member of each of a site's groups has as many points as the
--                                  site has neighbours
--     HasSmallRoot query       10. the root has an atom and a size of at most 512
--     HasFewMembers query      11. there are 32 groups and at most 4,096 members
--     HasMembersOnce query     12. members rise, and none is a member of two groups
--     HasRisingLabels template 13. the labels of a site rise, and each is from 1 to 32
--     QueryFits query          all thirteen
use Rattle.std.specs.Prelude.{◌≡◌, ◌≢◌, ◌≤◌, ◌<◌, ◌⊎◌, ◌↔◌, ℕ, List, Some, length, sum_by, slice_get, All, AllPairs, Contains, IsTrue}
use Rattle.mk_model.specs.declared.template.QueryBond.{QueryBond}
use Rattle.mk_model.specs.declared.template.Slot.{Slot}
use Rattle.mk_model.specs.declared.template.Slot.TheVariants.{Link, Site}
use Rattle.mk_model.specs.Edges.{Joins}
use Rattle.mk_model.specs.Tests.{IsBondInRange, IsTestInRange}
use Rattle.mk_model.specs.Templates.{TemplateView, slot_atom, neighbour_count, query_edges, joins, is_in_block}
use Rattle.mk_model.specs.Queries.{QueryView, members_of}
use Rattle.mk_model.specs.Labels.{IsChain, site_labels, members_at}
use Rattle.mk_model.specs.Sizes.{IsSizing}

-- ---- words

-- the number is that of an atom of the template
abbrev pub IsAtomOf : TemplateView → ℕ → Type 0
IsAtomOf template x = (1 ≤ x) × (x ≤ length template.atoms)

-- some bond joins x and y
abbrev pub AreNeighbours : TemplateView → ℕ → ℕ → Type 0
AreNeighbours template x y = (bond : QueryBond) × Contains template.bonds bond × IsTrue (joins x y bond)

-- two atoms are joined to a third by bonds alike in type and topology
pub record AreAlike (template : TemplateView) (atom from to : ℕ) : Type 0 where
  pub one : QueryBond
  pub one_at : Contains template.bonds one
  pub one_joins : IsTrue (joins atom from one)
  pub other : QueryBond
  pub other_at : Contains template.bonds other
  pub other_joins : IsTrue (joins atom to other)
  pub kind : one.kind ≡ other.kind
  pub topology : one.topology ≡ other.topology

-- ---- 1. in range

-- a link may stand at least twice, between two neighbours to which its bonds are alike
pub record IsLink (template : TemplateView) (most atom from to : ℕ) : Type 0 where
  pub twice : 2 ≤ most
  pub differ : from ≢ to
  pub alike : AreAlike template atom from to

-- a slot stands at an atom of the template, and a link may stand at least twice, between two
-- neighbours to which its bonds are alike
abbrev pub IsSlotOf : TemplateView → Slot → Type 0
IsSlotOf template (Link atom most from to) = IsAtomOf template atom × IsLink template most atom from to
IsSlotOf template (Site atom groups first second) = IsAtomOf template atom

-- the numbers of a template's tests, ends, slots and points are in range, and it has none, one or
-- two points
pub record IsInRange (template : TemplateView) : Type 0 where
  pub tests : All IsTestInRange template.atoms
  pub bond_tests : All (λ bond. IsBondInRange bond.kind bond.topology) template.bonds
  pub ends : All (λ bond. IsAtomOf template bond.first × IsAtomOf template bond.second) template.bonds
  pub slots : All (IsSlotOf template) template.slots
  pub points : All (IsAtomOf template) template.points
  pub few_points : length template.points ≤ 2

-- the numbers of all templates are in range, and the members of the groups are templates other than
-- the root
pub record AreInRange (query : QueryView) : Type 0 where
  pub templates : All IsInRange query.templates
  pub members : All (λ group. All (λ u. (1 ≤ u) × (u < length query.templates)) group.members) query.groups

-- ---- 2. to 7. of one template

-- the ends of a bond are two atoms, and no two bonds join one pair
pub record HasPairsOnce (template : TemplateView) : Type 0 where
  pub differ : All (λ bond. bond.first ≢ bond.second) template.bonds
  pub once : (b c x y : ℕ) → Joins (query_edges template.bonds) b x y → Joins (query_edges template.bonds) c x y → b ≡ c

-- the slots stand by rising atom, and no atom has two
abbrev pub HasRisingSlots : TemplateView → Type 0
HasRisingSlots template = AllPairs (λ slot later. slot_atom slot < slot_atom later) template.slots

-- a site's neighbours are one atom or two, those that it names
pub record IsBetweenNamed (template : TemplateView) (atom first second : ℕ) : Type 0 where
  pub some : first ≢ 0
  pub differ : first ≢ second
  pub neighbours : (y : ℕ) → AreNeighbours template atom y ↔ ((y ≡ first) ⊎ ((y ≡ second) × (second ≢ 0)))

-- a site names the atoms that it is bonded to; nothing is asked of a link here
abbrev pub NamesItsNeighbours : TemplateView → Slot → Type 0
NamesItsNeighbours template (Link atom most from to) = Unit {0}
NamesItsNeighbours template (Site atom groups first second) = IsBetweenNamed template atom first second

-- each site names its neighbours
abbrev pub NamesNeighbours : TemplateView → Type 0
NamesNeighbours template = All (NamesItsNeighbours template) template.slots

-- no attachment point stands at a slot
abbrev pub HasFreePoints : TemplateView → Type 0
HasFreePoints template = (slot : Slot) → Contains template.slots slot → Contains template.points (slot_atom slot) → ⊥

-- where both slots are sites no bond joins them
abbrev pub AreApart : TemplateView → Slot → Slot → Type 0
AreApart template (Site atom groups first second) (Site atom' groups' first' second') = AreNeighbours template atom atom' → ⊥
AreApart template slot slot' = Unit {0}

-- no site is bonded to a site
abbrev pub HasSitesApart : TemplateView → Type 0
HasSitesApart template = (slot other : Slot) → Contains template.slots slot → Contains template.slots other → AreApart template slot other

-- the atom bears an attachment point or a slot
abbrev pub IsMarked : TemplateView → ℕ → Type 0
IsMarked template x = Contains template.points x ⊎ ((slot : Slot) × Contains template.slots slot × (slot_atom slot ≡ x))

-- a link's block holds neither of the two neighbours that it names, no other slot, and no
-- attachment point
abbrev pub HoldsItsBlock : TemplateView → Slot → Type 0
HoldsItsBlock template (Link atom most from to) =
    (x : ℕ) → IsTrue (is_in_block template (Link atom most from to) x)
    → (x ≢ from) × (x ≢ to) × (IsMarked template x → x ≡ atom)
HoldsItsBlock template (Site atom groups first second) = Unit {0}

-- each block is joined on by its link alone
abbrev pub HasClosedBlocks : TemplateView → Type 0
HasClosedBlocks template = All (HoldsItsBlock template) template.slots

-- ---- 8. to 12. of the whole query

-- no template uses itself, directly or through others
abbrev pub HasNoCycle : QueryView → Type 0
HasNoCycle query = (t : ℕ) (via : List ℕ) → IsChain query t via t → ⊥

-- each member of a slot has as many points as the slot has neighbours
abbrev pub FitsPoints : QueryView → Slot → Type 0
FitsPoints query slot =
    (u : ℕ) (template : TemplateView) → Contains (members_at query slot) u → slice_get query.templates u ≡ Some template
    → length template.points ≡ neighbour_count slot

-- each member of each of a site's groups has as many points as the site has neighbours
abbrev pub HasFittingPoints : QueryView → Type 0
HasFittingPoints query = All (λ template. All (FitsPoints query) template.slots) query.templates

-- the root has an atom, and the sizes of the templates add up to at most 512 for it
pub record HasSmallRoot (query : QueryView) : Type 0 where
  pub root : TemplateView
  pub at : slice_get query.templates 0 ≡ Some root
  pub some : 1 ≤ length root.atoms
  pub size : ℕ → ℕ
  pub adds_up : IsSizing query size
  pub small : size 0 ≤ 512

-- there are 32 groups, and at most 4,096 members in all
pub record HasFewMembers (query : QueryView) : Type 0 where
  pub all_groups : length query.groups ≡ 32
  pub few : sum_by (λ group. length group.members) query.groups ≤ 4096

-- the members of a group rise, and no template is a member of two groups
pub record HasMembersOnce (query : QueryView) : Type 0 where
  pub rise : All (λ group. AllPairs (λ u later. u < later) group.members) query.groups
  pub one_group : (g h u : ℕ) → 1 ≤ g → 1 ≤ h → Contains (members_of query g) u → Contains (members_of query h) u → g ≡ h

-- ---- 13. labels

-- labels rise, and each is the number of a group, from 1 to 32
pub record AreRisingLabels (labels : List ℕ) : Type 0 where
  pub rise : AllPairs (λ g later. g < later) labels
  pub in_range : All (λ g. (1 ≤ g) × (g ≤ 32)) labels

-- the labels of each site rise, and each is from 1 to 32
abbrev pub HasRisingLabels : TemplateView → Type 0
HasRisingLabels template = All (λ slot. AreRisingLabels (site_labels slot)) template.slots

-- ---- all

-- the thirteen facts that every `Query` keeps
pub record QueryFits (query : QueryView) : Type 0 where
  pub in_range : AreInRange query
  pub pairs_once : All HasPairsOnce query.templates
  pub slots_rise : All HasRisingSlots query.templates
  pub neighbours : All NamesNeighbours query.templates
  pub points_free : All HasFreePoints query.templates
  pub sites_apart : All HasSitesApart query.templates
  pub blocks_closed : All HasClosedBlocks query.templates
  pub no_cycle : HasNoCycle query
  pub points_fit : HasFittingPoints query
  pub small_root : HasSmallRoot query
  pub few_members : HasFewMembers query
  pub members_once : HasMembersOnce query
  pub labels_rise : All HasRisingLabels query.templates
