-- The query that a raw query means. Tables count from 0: the root, then the members in the order of
-- the file.
--     query_tables raw           the tables, by their numbers
--     members_of_group raw g     the numbers of the members of group g
--     IsTestOf table x line test the test of atom x, of which this is the atom line
--     labelled_groups labels     the groups of which some labels are the numbers, rising
--     table_slots table          the sites and links of a table
--     points_of table            its atoms with attachment point 1 and 2
--     IsTemplateOf table template    the template of a table
--     IsGroupOf raw g group      the group of a number
--     IsQueryOf raw query        the query of a raw query
use Rattle.std.specs.Prelude.{◌≡◌, ◌+◌, ◌==◌, nat_lt, ℕ, ℤ, pos, Bool, true, false, List, [], ◌∷◌, ◌++◌, Option, Some, None, slice_get, length, map, codes, if◌then◌else◌}
use Rattle.std.specs.List.{filter, list_any, range_with_len}
use Rattle.std.specs.Ordering.{int_eq}
use Rattle.mk_elements.specs.Symbols.{NamesElement}
use Rattle.mk_props.specs.declared.property.LinkEntry.{LinkEntry}
use Rattle.mk_props.specs.declared.property.LogicLine.{LogicLine}
use Rattle.mk_props.specs.declared.property.Pair.{Pair}
use Rattle.mk_props.specs.declared.property.Property.{Property}
use Rattle.mk_props.specs.declared.property.Property.TheVariants as kinds
use Rattle.mk_model.specs.declared.atom_test.AtomTest.{AtomTest}
use Rattle.mk_model.specs.declared.atom_test.Kind.{Kind}
use Rattle.mk_model.specs.declared.atom_test.Kind.TheVariants.{Element, OneOf, NoneOf, NotHydrogen, Hetero, Anything}
use Rattle.mk_model.specs.declared.group.Group.{Group}
use Rattle.mk_model.specs.declared.template.Slot.{Slot}
use Rattle.mk_model.specs.declared.template.Slot.TheVariants.{Link, Site}
use Rattle.mk_model.specs.Queries.{QueryView}
use Rattle.mk_model.specs.Templates.{TemplateView}
use Rattle.mk_tables.specs.declared.raw.RawAtom.{RawAtom}
use Rattle.mk_tables.specs.declared.raw.RawTable.{RawTable}
use Rattle.mk_demands.specs.Charges.{charge_at, radical_at}
use Rattle.mk_demands.specs.Numbers.{natural}
use Rattle.mk_logic.specs.RangeTexts.{IsRangeText}
use Rattle.mk_rgfile.specs.declared.raw_query.RawGroup.{RawGroup}
use Rattle.mk_rgfile.specs.declared.raw_query.RawQuery.{RawQuery}
use Rattle.mk_query.specs.Drawn.{ElementList, by_numbers, by_symbols, bears_point, drawn_neighbours, is_site, labels_at, links_at, list_in_force, query_bonds, ring_bonds_of, substitutions_of, unsaturations_of, value_at}

-- ---- tables and members

-- the member tables of these groups, in order
abbrev pub member_tables : List RawGroup → List RawTable
member_tables [] = []
member_tables (group ∷ groups) = group.members ++ member_tables groups

-- the root, and then the members in the order of the file
abbrev pub query_tables : RawQuery → List RawTable
query_tables raw = raw.root ∷ member_tables raw.groups

-- the numbers of the members of group g, where the members of these groups count from `next` on
abbrev pub members_from : ℕ → ℕ → List RawGroup → List ℕ
members_from next g [] = []
members_from next g (group ∷ groups) =
    let later = members_from (next + length group.members) g groups in
    if group.number == g then range_with_len next (length group.members) ++ later else later

-- the numbers of the members of group g: the tables of all groups of this number, in the order of
-- the file
abbrev pub members_of_group : RawQuery → ℕ → List ℕ
members_of_group raw g = members_from 1 g raw.groups

-- ---- tests

-- each symbol names the element beside it
abbrev pub NameElements : List (List ℕ) → List ℕ → Type 0
NameElements [] [] = Unit {0}
NameElements [] (z ∷ elements) = ⊥
NameElements (symbol ∷ symbols) [] = ⊥
NameElements (symbol ∷ symbols) (z ∷ elements) = NamesElement symbol z × NameElements symbols elements

-- the elements that a list has, in its order
abbrev pub HasElements : ElementList → List ℕ → Type 0
HasElements (by_numbers list) elements = elements ≡ map natural list.numbers
HasElements (by_symbols list) elements = NameElements list.symbols elements

-- the list is one of elements that an atom may not have
abbrev pub is_not_list : ElementList → Bool
is_not_list (by_numbers list) = list.not
is_not_list (by_symbols list) = list.not

-- the kind that a list with these elements tells: one of them, or none of them
abbrev pub kind_by : ElementList → List ℕ → Kind
kind_by list elements = if is_not_list list then NoneOf elements else OneOf elements

-- The kind of an atom of this symbol, where this list is in force for it: an element by its symbol;
-- for `L` the list; for `A` any element but hydrogen, for `Q` any but hydrogen and carbon, for `*`
-- any.
pub data IsKindOf (in_force : Option ElementList) (symbol : List ℕ) (kind : Kind) : Type 0 where
  of_element : (z : ℕ) → NamesElement symbol z → kind ≡ Element z → IsKindOf in_force symbol kind
  of_list : symbol ≡ codes "L" → (list : ElementList) → in_force ≡ Some list
      → (elements : List ℕ) → HasElements list elements → kind ≡ kind_by list elements → IsKindOf in_force symbol kind
  of_any_heavy : symbol ≡ codes "A" → kind ≡ NotHydrogen → IsKindOf in_force symbol kind
  of_hetero : symbol ≡ codes "Q" → kind ≡ Hetero → IsKindOf in_force symbol kind
  of_any : symbol ≡ codes "*" → kind ≡ Anything → IsKindOf in_force symbol kind

-- what any atom meets: the test of a site
abbrev pub no_test : AtomTest
no_test =
    record { kind = Anything; charge = pos 0; radical = 0; hydrogens = 0; ring_bonds = pos 0; substitution = pos 0; unsaturated = false }

-- The test of atom x that is no site: the kind, the charge and the radical that hold, the hydrogen
-- column, and what the last property line gives the atom.
pub record IsTestDrawn (table : RawTable) (x : ℕ) (line : RawAtom) (test : AtomTest) : Type 0 where
  pub kind : IsKindOf (list_in_force table x) line.symbol test.kind
  pub charge : test.charge ≡ charge_at table x line
  pub radical : pos test.radical ≡ radical_at table x line
  pub hydrogens : pos test.hydrogens ≡ line.hydrogens
  pub ring_bonds : test.ring_bonds ≡ value_at ring_bonds_of table x
  pub substitution : test.substitution ≡ value_at substitutions_of table x
  pub unsaturated : test.unsaturated ≡ int_eq (value_at unsaturations_of table x) (pos 1)

-- the test of atom x: none at a site, whatever its columns say, and else the one that is drawn
abbrev pub IsTestBy : Bool → RawTable → ℕ → RawAtom → AtomTest → Type 0
IsTestBy true table x line test = test ≡ no_test
IsTestBy false table x line test = IsTestDrawn table x line test

-- the test of atom x
abbrev pub IsTestOf : RawTable → ℕ → RawAtom → AtomTest → Type 0
IsTestOf table x line test = IsTestBy (is_site line) table x line test

-- the tests are those of the atom lines, one for each and in order
pub record AreTestsOf (table : RawTable) (tests : List AtomTest) : Type 0 where
  pub size : length tests ≡ length table.atoms
  pub each : (i : ℕ) (line : RawAtom) (test : AtomTest) → slice_get table.atoms i ≡ Some line → slice_get tests i ≡ Some test → IsTestOf table (i + 1) line test

-- ---- slots

-- the order that a property gives the neighbours of atom x, or the later one
abbrev pub order_of : ℕ → Property → Option (List Pair) → Option (List Pair)
order_of x (kinds.Order order) later = if natural order.atom == x then Some order.entries else later
order_of x other later = later

-- the order that an `M  AAL` gives the neighbours of atom x: that of the first that names it
abbrev pub order_for : ℕ → List Property → Option (List Pair)
order_for x [] = None
order_for x (property ∷ props) = order_of x property (order_for x props)

-- the atom to which some entries give place k, and 0 where they give it to none
abbrev pub atom_placed : ℕ → List Pair → ℕ
atom_placed k [] = 0
atom_placed k (pair ∷ pairs) = let later = atom_placed k pairs in if int_eq pair.value (pos k) then natural pair.atom else later

-- a site's neighbours by rising atom: the first, and the second or 0
abbrev pub rising_neighbours : List ℕ → ℕ × ℕ
rising_neighbours [] = (0, 0)
rising_neighbours (y ∷ []) = (y, 0)
rising_neighbours (y ∷ z ∷ others) = if nat_lt y z then (y, z) else (z, y)

-- some neighbours by the places that an order gives them, and else by rising atom
abbrev pub neighbours_by : Option (List Pair) → List ℕ → ℕ × ℕ
neighbours_by (Some entries) neighbours = (atom_placed 1 entries, atom_placed 2 entries)
neighbours_by None neighbours = rising_neighbours neighbours

-- the neighbours of the site at atom x in their order: the order of an `M  AAL`, and else by rising
-- atom
abbrev pub ordered_neighbours : RawTable → ℕ → ℕ × ℕ
ordered_neighbours table x = neighbours_by (order_for x table.props) (drawn_neighbours table x)

-- one of some labels is the number of group g
abbrev pub is_label : List ℤ → ℕ → Bool
is_label labels g = list_any (λ label. int_eq label (pos g)) labels

-- the groups of which some labels are the numbers, from 1 to 32 and rising
unfoldable pub labelled_groups : List ℤ → List ℕ
labelled_groups labels = filter (is_label labels) (range_with_len 1 32)

-- the slot of atom x by the links and the labels that stand there, and its neighbours in their
-- order
abbrev pub slot_with : ℕ → List LinkEntry → List ℤ → ℕ × ℕ → Option Slot
slot_with x (link ∷ links) labels both = Some (Link x (natural link.most) (natural link.from) (natural link.to))
slot_with x [] (label ∷ labels) both = Some (Site x (labelled_groups (label ∷ labels)) both.0 both.1)
slot_with x [] [] both = None

-- the slot of atom x, where it has one: the link that stands there, or the site of its labels
abbrev pub slot_at : RawTable → ℕ → Option Slot
slot_at table x = slot_with x (links_at table x) (labels_at table x) (ordered_neighbours table x)

-- the slot as a list, and no slot as an empty one
abbrev pub slots_in : Option Slot → List Slot
slots_in None = []
slots_in (Some slot) = slot ∷ []

-- the slots of some atoms, in order
abbrev pub slots_at : RawTable → List ℕ → List Slot
slots_at table [] = []
slots_at table (x ∷ atoms) = slots_in (slot_at table x) ++ slots_at table atoms

-- the numbers of a table's atoms
abbrev pub all_atoms : RawTable → List ℕ
all_atoms table = range_with_len 1 (length table.atoms)

-- the slots of a table, by rising atom
abbrev pub table_slots : RawTable → List Slot
table_slots table = slots_at table (all_atoms table)

-- ---- templates

-- the atom with attachment point 1, where there is one, and behind it the atom with point 2
abbrev pub points_of : RawTable → List ℕ
points_of table = filter (bears_point table 1) (all_atoms table) ++ filter (bears_point table 2) (all_atoms table)

-- the template of a table
pub record IsTemplateOf (table : RawTable) (template : TemplateView) : Type 0 where
  pub atoms : AreTestsOf table template.atoms
  pub bonds : template.bonds ≡ query_bonds table.bonds
  pub slots : template.slots ≡ table_slots table
  pub points : template.points ≡ points_of table

-- ---- groups

-- the `M  LOG` of group g that a property is, or the later one
abbrev pub logic_of : ℕ → Property → Option LogicLine → Option LogicLine
logic_of g (kinds.Logic logic) later = if natural logic.group == g then Some logic else later
logic_of g other later = later

-- the first `M  LOG` of group g
abbrev pub logic_for : ℕ → List Property → Option LogicLine
logic_for g [] = None
logic_for g (property ∷ props) = logic_of g property (logic_for g props)

-- What an `M  LOG` says of its group. Without one there is no THEN group, no rest hydrogen, and the
-- range of a blank text.
abbrev pub IsLogicOf : Option LogicLine → Group → Type 0
IsLogicOf None group = (group.then_group ≡ 0) × ((group.rest_hydrogen ≡ false) × IsRangeText [] group.range)
IsLogicOf (Some logic) group =
    (pos group.then_group ≡ logic.then_group) × ((group.rest_hydrogen ≡ int_eq logic.rest (pos 1)) × IsRangeText logic.range group.range)

-- the group of number g: its members, and what the root says of it
pub record IsGroupOf (raw : RawQuery) (g : ℕ) (group : Group) : Type 0 where
  pub members : group.members ≡ members_of_group raw g
  pub logic : IsLogicOf (logic_for g raw.root.props) group

-- ---- the query

-- the templates are those of the tables, one for each and in order
pub record AreTemplatesOf (tables : List RawTable) (templates : List TemplateView) : Type 0 where
  pub size : length templates ≡ length tables
  pub each : (t : ℕ) (table : RawTable) (template : TemplateView) → slice_get tables t ≡ Some table → slice_get templates t ≡ Some template → IsTemplateOf table template

-- the 32 groups, in order
pub record AreGroupsOf (raw : RawQuery) (groups : List Group) : Type 0 where
  pub size : length groups ≡ 32
  pub each : (i : ℕ) (group : Group) → slice_get groups i ≡ Some group → IsGroupOf raw (i + 1) group

-- the query of a raw query
pub record IsQueryOf (raw : RawQuery) (query : QueryView) : Type 0 where
  pub templates : AreTemplatesOf (query_tables raw) query.templates
  pub groups : AreGroupsOf raw query.groups
