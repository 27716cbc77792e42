-- What the checks demand of the lists of elements and of the sites of one table of a query. Atoms
-- and properties count from 1.
--     HasLists table item          the lists of this atom have known members, and `L` stands
--                                  exactly where there are some
--     HasLabel groups table item   `R#` exactly where a label stands, no label twice, and the
--                                  group of each has a member
--     HasSitePlace table item      a site has one or two neighbours, none of them a site
--     HasSiteOrder table item      an `M  AAL` orders the neighbours of a site, and no later one
--                                  orders them again
use Rattle.std.specs.Prelude.{◌≡◌, ◌≢◌, ◌≤◌, ◌↔◌, ℕ, ℤ, pos, List, [], All, AllPairs, Contains, length, drop, codes, IsTrue}
use Rattle.mk_text.specs.Items.{OfItem}
use Rattle.mk_props.specs.declared.property.Pair.{Pair}
use Rattle.mk_props.specs.declared.property.Property.{Property}
use Rattle.mk_props.specs.declared.property.Property.TheVariants as kinds
use Rattle.mk_props.specs.declared.property.SiteOrder.{SiteOrder}
use Rattle.mk_tables.specs.declared.raw.RawAtom.{RawAtom}
use Rattle.mk_tables.specs.declared.raw.RawTable.{RawTable}
use Rattle.mk_demands.specs.Numbers.{IsAtom, IsWithin, natural}
use Rattle.mk_rgfile.specs.declared.raw_query.RawGroup.{RawGroup}
use Rattle.mk_query.specs.Checks.{IsElementName}
use Rattle.mk_query.specs.Drawn.{ElementList, by_numbers, by_symbols, lists_at, labels_at, is_site, is_site_at, drawn_neighbours}

-- ---- lists

-- the members are elements: atomic numbers from 1 to 118, or symbols that name one
abbrev pub HasKnownMembers : ElementList → Type 0
HasKnownMembers (by_numbers list) = All (IsWithin (pos 1) (pos 118)) list.numbers
HasKnownMembers (by_symbols list) = All IsElementName list.symbols

-- Every list that names the atom has known members, also one in whose place another holds; and the
-- atom's symbol is `L` exactly where there is such a list.
pub record IsListed (lists : List ElementList) (atom : RawAtom) : Type 0 where
  pub members : All HasKnownMembers lists
  pub word : (atom.symbol ≡ codes "L") ↔ (lists ≢ [])

-- Item 0 is the atom-list lines: each names an atom of the table. Any other item is an atom, and
-- the lists that name it are right.
abbrev pub HasLists : RawTable → ℕ → Type 0
HasLists table item =
    (item ≡ 0 → All (λ list. IsAtom (length table.atoms) list.atom) table.lists) × OfItem (IsListed (lists_at table item)) table.atoms item

-- ---- labels

-- a group of this number has a member
abbrev pub HasMember : List RawGroup → ℤ → Type 0
HasMember groups label = (group : RawGroup) × Contains groups group × (pos group.number ≡ label) × (1 ≤ length group.members)

-- `R#` exactly where a label stands, no label twice, and the group of each label has a member
pub record IsLabelled (groups : List RawGroup) (labels : List ℤ) (atom : RawAtom) : Type 0 where
  pub word : IsTrue (is_site atom) ↔ (labels ≢ [])
  pub once : AllPairs (λ label later. label ≢ later) labels
  pub members : All (HasMember groups) labels

-- Where there is an atom of this number, its symbol is `R#` exactly where a label stands there, no
-- label stands there twice, and the group of each has a member.
abbrev pub HasLabel : List RawGroup → RawTable → ℕ → Type 0
HasLabel groups table item = OfItem (IsLabelled groups (labels_at table item)) table.atoms item

-- ---- neighbours

-- the neighbours are one or two, and none is a site
pub record ArePlaced (table : RawTable) (neighbours : List ℕ) : Type 0 where
  pub some : 1 ≤ length neighbours
  pub two : length neighbours ≤ 2
  pub apart : All (λ y. ¬ (IsTrue (is_site_at table y))) neighbours

-- where the atom of this number is a site, it has one or two neighbours, and none is a site
abbrev pub HasSitePlace : RawTable → ℕ → Type 0
HasSitePlace table item = OfItem (λ atom. IsTrue (is_site atom) → ArePlaced table (drawn_neighbours table item)) table.atoms item

-- ---- orders

-- each neighbour is named by an entry, each place from 1 to their number is given, and there are no
-- more entries
pub record OrdersNeighbours (entries : List Pair) (neighbours : List ℕ) : Type 0 where
  pub as_many : length entries ≡ length neighbours
  pub named : All (λ y. (pair : Pair) × Contains entries pair × (pair.atom ≡ pos y)) neighbours
  pub places : (k : ℕ) → 1 ≤ k → k ≤ length neighbours → (pair : Pair) × Contains entries pair × (pair.value ≡ pos k)

-- the property is an `M  AAL`, of the same site as this one
abbrev pub OrdersSame : SiteOrder → Property → Type 0
OrdersSame order (kinds.Order later) = later.atom ≡ order.atom
OrdersSame order other = ⊥

-- An `M  AAL` is of a site, orders its neighbours, and of the properties behind it none is of the
-- same atom.
pub record IsSiteOrder (table : RawTable) (behind : List Property) (order : SiteOrder) : Type 0 where
  pub atom : IsAtom (length table.atoms) order.atom
  pub site : IsTrue (is_site_at table (natural order.atom))
  pub last : All (λ later. ¬ (OrdersSame order later)) behind
  pub orders : OrdersNeighbours order.entries (drawn_neighbours table (natural order.atom))

-- a property is right where it is an `M  AAL` that is right, or anything else
abbrev pub IsOrdered : RawTable → List Property → Property → Type 0
IsOrdered table behind (kinds.Order order) = IsSiteOrder table behind order
IsOrdered table behind other = Unit {0}

-- Where the property of this number is an `M  AAL`, it is of a site, is the last of it, and orders
-- its neighbours.
abbrev pub HasSiteOrder : RawTable → ℕ → Type 0
HasSiteOrder table item = OfItem (IsOrdered table (drop item table.props)) table.props item
