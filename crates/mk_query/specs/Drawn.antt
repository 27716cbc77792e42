-- What a table of a query draws at its atoms, which count from 1.
--     is_site_at table x           atom x is an `R#`
--     value_at select table x      the value that the last entry of one kind gives atom x
--     labels_at table x            its labels, each entry one
--     links_at table x             the links that name it
--     lists_at table x             the lists of elements that name it
--     neighbours_at bonds x        the atoms bonded to it
--     bears_point table p x        it bears attachment point p
use Rattle.std.specs.Prelude.{◌-◌, ◌==◌, ◌||◌, ℕ, ℤ, pos, Bool, false, List, [], ◌∷◌, ◌++◌, Option, Some, None, slice_get, map, codes, bytes_eq, if◌then◌else◌}
use Rattle.std.specs.List.{filter}
use Rattle.mk_props.specs.declared.property.AtomList.{AtomList}
use Rattle.mk_props.specs.declared.property.LinkEntry.{LinkEntry}
use Rattle.mk_props.specs.declared.property.Pair.{Pair}
use Rattle.mk_props.specs.declared.property.Property.{Property}
use Rattle.mk_props.specs.declared.property.Property.TheVariants as kinds
use Rattle.mk_model.specs.declared.template.QueryBond.{QueryBond}
use Rattle.mk_tables.specs.declared.raw.RawAtom.{RawAtom}
use Rattle.mk_tables.specs.declared.raw.RawBond.{RawBond}
use Rattle.mk_tables.specs.declared.raw.RawList.{RawList}
use Rattle.mk_tables.specs.declared.raw.RawTable.{RawTable}
use Rattle.mk_demands.specs.Charges.{last_or, values_for}
use Rattle.mk_demands.specs.Numbers.{byte, natural}

-- ---- sites and bonds

-- the atom is a site: its symbol is `R#`
abbrev pub is_site : RawAtom → Bool
is_site atom = bytes_eq atom.symbol (codes "R#")

-- atom x is a site
abbrev pub is_site_at : RawTable → ℕ → Bool
is_site_at table x = is (slice_get table.atoms (x - 1))
  where
    is : Option RawAtom → Bool
    is None = false
    is (Some atom) = is_site atom

-- A bond as a query has it. A number below 0 is 0 there, and so is a type or a topology above 255:
-- no bond that passes has one.
abbrev pub query_bond : RawBond → QueryBond
query_bond bond = record { first = natural bond.first; second = natural bond.second; kind = byte bond.kind; topology = byte bond.topology }

-- the bonds as a query has them
abbrev pub query_bonds : List RawBond → List QueryBond
query_bonds bonds = map query_bond bonds

-- the atoms to which bonds lead from atom x, in the order of the bonds
abbrev pub neighbours_at : List QueryBond → ℕ → List ℕ
neighbours_at [] x = []
neighbours_at (bond ∷ bonds) x =
    let others = neighbours_at bonds x in
    if bond.first == x then bond.second ∷ others else (if bond.second == x then bond.first ∷ others else others)

-- the atoms bonded to atom x of a table
abbrev pub drawn_neighbours : RawTable → ℕ → List ℕ
drawn_neighbours table x = neighbours_at (query_bonds table.bonds) x

-- ---- values of property lines

-- the pairs of all lines of one kind, in order
abbrev pub pairs_by : (Property → List Pair) → List Property → List Pair
pairs_by select [] = []
pairs_by select (property ∷ props) = select property ++ pairs_by select props

-- the pairs of an `M  RBC`
abbrev pub ring_bonds_of : Property → List Pair
ring_bonds_of (kinds.RingBonds pairs) = pairs
ring_bonds_of other = []

-- the pairs of an `M  SUB`
abbrev pub substitutions_of : Property → List Pair
substitutions_of (kinds.Substitution pairs) = pairs
substitutions_of other = []

-- the pairs of an `M  UNS`
abbrev pub unsaturations_of : Property → List Pair
unsaturations_of (kinds.Unsaturation pairs) = pairs
unsaturations_of other = []

-- the pairs of an `M  RGP`
abbrev pub label_pairs : Property → List Pair
label_pairs (kinds.Label pairs) = pairs
label_pairs other = []

-- the pairs of an `M  APO`
abbrev pub point_pairs : Property → List Pair
point_pairs (kinds.Points pairs) = pairs
point_pairs other = []

-- the value that the last entry of one kind gives atom x, and 0 where none names it
abbrev pub value_at : (Property → List Pair) → RawTable → ℕ → ℤ
value_at select table x = last_or (pos 0) (values_for x (pairs_by select table.props))

-- the labels of atom x: every entry of an `M  RGP` that names it is one
abbrev pub labels_at : RawTable → ℕ → List ℤ
labels_at table x = values_for x (pairs_by label_pairs table.props)

-- the value of an `M  APO` gives attachment point p: 1 the first, 2 the second, and 3 both
abbrev pub gives_point : ℕ → ℤ → Bool
gives_point p (pos v) = (v == p) || (v == 3)
gives_point p other = false

-- atom x bears attachment point p where the last entry for it gives the point
abbrev pub bears_point : RawTable → ℕ → ℕ → Bool
bears_point table p x = gives_point p (value_at point_pairs table x)

-- ---- links

-- the entries of an `M  LIN`
abbrev pub links_of : Property → List LinkEntry
links_of (kinds.Link links) = links
links_of other = []

-- the entries of all `M  LIN` that name atom x as the link, in order
abbrev pub links_for : ℕ → List Property → List LinkEntry
links_for x [] = []
links_for x (property ∷ props) = filter (λ link. natural link.atom == x) (links_of property) ++ links_for x props

-- the links that stand at atom x
abbrev pub links_at : RawTable → ℕ → List LinkEntry
links_at table x = links_for x table.props

-- ---- lists of elements

-- a list of elements as it is written: by numbers on an atom-list line, or by symbols on an
-- `M  ALS`
pub data ElementList : Type 0 where
  by_numbers : RawList → ElementList
  by_symbols : AtomList → ElementList

-- the number of the atom for which a list stands
abbrev pub listed_atom : ElementList → ℕ
listed_atom (by_numbers list) = natural list.atom
listed_atom (by_symbols list) = natural list.atom

-- the lists of all `M  ALS`, in order
abbrev pub symbol_lists : List Property → List ElementList
symbol_lists [] = []
symbol_lists (property ∷ props) = lists property ++ symbol_lists props
  where
    lists : Property → List ElementList
    lists (kinds.List list) = by_symbols list ∷ []
    lists other = []

-- The lists of a table in the order in which a later one holds in place of an earlier one: the
-- atom-list lines, then the `M  ALS`.
abbrev pub all_lists : RawTable → List ElementList
all_lists table = map by_numbers table.lists ++ symbol_lists table.props

-- the lists that name atom x
abbrev pub lists_at : RawTable → ℕ → List ElementList
lists_at table x = filter (λ list. listed_atom list == x) (all_lists table)

-- the last of some lists, or an earlier one where there is none
abbrev pub last_list : Option ElementList → List ElementList → Option ElementList
last_list earlier [] = earlier
last_list earlier (list ∷ lists) = last_list (Some list) lists

-- the list that is in force for atom x: the last that names it
abbrev pub list_in_force : RawTable → ℕ → Option ElementList
list_in_force table x = last_list None (lists_at table x)
