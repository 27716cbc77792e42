-- The table of a structure: what is written of a graph that is writable.
--     element_symbol z           the symbol of an element
--     kind_symbol kind           the word for a kind: the element's symbol, `L`, `A`, `Q` or `*`
--     atom_drawn atom            the line of an atom
--     bond_drawn bond            the line of a bond
--     atom_entries x test        the property lines of atom x, one for each thing that is asked
--     IsTableOf graph table      the table of the graph
-- Atoms count from 1.
use Rattle.std.specs.Prelude.{◌≡◌, ◌+◌, ◌-◌, ℕ, ℤ, pos, Bool, true, false, List, [], ◌∷◌, ◌++◌, codes, map, slice_index_or, if◌then◌else◌}
use Rattle.std.specs.Ordering.{int_eq}
use Rattle.mk_elements.specs.Symbols.{symbols}
use Rattle.mk_props.specs.declared.property.Pair.{Pair}
use Rattle.mk_props.specs.declared.property.Property.{Property}
use Rattle.mk_props.specs.declared.property.Property.TheVariants as kinds
use Rattle.mk_model.specs.declared.atom_test.AtomTest.{AtomTest}
use Rattle.mk_model.specs.declared.atom_test.Kind.{Kind}
use Rattle.mk_model.specs.declared.atom_test.Kind.TheVariants.{Element, OneOf, NoneOf, NotHydrogen, Hetero, Anything}
use Rattle.mk_model.specs.declared.graph.GraphAtom.{GraphAtom}
use Rattle.mk_model.specs.declared.graph.GraphBond.{GraphBond}
use Rattle.mk_model.specs.Graphs.{GraphView}
use Rattle.mk_tables.specs.declared.raw.RawAtom.{RawAtom}
use Rattle.mk_tables.specs.declared.raw.RawBond.{RawBond}
use Rattle.mk_tables.specs.declared.raw.RawTable.{RawTable}

-- ---- atoms and bonds

-- the symbol of element z
unfoldable pub element_symbol : ℕ → List ℕ
element_symbol z = slice_index_or symbols (z - 1) []

-- an element by its symbol, `L` for a list or a not-list, `A` for any atom but hydrogen, `Q` for
-- any but hydrogen and carbon, `*` for any
abbrev pub kind_symbol : Kind → List ℕ
kind_symbol (Element z) = element_symbol z
kind_symbol (OneOf elements) = codes "L"
kind_symbol (NoneOf elements) = codes "L"
kind_symbol NotHydrogen = codes "A"
kind_symbol Hetero = codes "Q"
kind_symbol Anything = codes "*"

-- the symbol and the hydrogen column of the test; the columns of charge and valence are 0
abbrev pub atom_drawn : GraphAtom → RawAtom
atom_drawn atom = record {
  symbol = kind_symbol atom.test.kind;
  charge = pos 0;
  hydrogens = pos atom.test.hydrogens;
  valence = pos 0;
}

-- a bond with its type and its topology
abbrev pub bond_drawn : GraphBond → RawBond
bond_drawn bond = record {
  first = pos bond.first;
  second = pos bond.second;
  kind = pos bond.kind;
  topology = pos bond.topology;
}

-- ---- property lines

-- a line of one entry, which gives a value to atom x, where the value isn't 0
abbrev pub entry : (List Pair → Property) → ℕ → ℤ → List Property
entry kind x value = if int_eq value (pos 0) then [] else kind (record { atom = pos x; value = value } ∷ []) ∷ []

-- an `M  ALS` for atom x: none of the elements, or one of them
abbrev pub symbol_list : ℕ → Bool → List ℕ → Property
symbol_list x not elements = kinds.List (record { atom = pos x; not = not; symbols = map element_symbol elements })

-- the list of atom x, where its kind is one
abbrev pub list_entry : ℕ → Kind → List Property
list_entry x (OneOf elements) = symbol_list x false elements ∷ []
list_entry x (NoneOf elements) = symbol_list x true elements ∷ []
list_entry x kind = []

-- 1 where unsaturation is asked for
abbrev pub unsaturation : AtomTest → ℤ
unsaturation test = if test.unsaturated then pos 1 else pos 0

-- what is asked of atom x beside its symbol and its hydrogens: charge, radical, ring bonds,
-- substitution and unsaturation, each where it isn't 0, and a list
abbrev pub atom_entries : ℕ → AtomTest → List Property
atom_entries x test =
    entry kinds.Charge x test.charge
    ++ (entry kinds.Radical x (pos test.radical)
    ++ (entry kinds.RingBonds x test.ring_bonds
    ++ (entry kinds.Substitution x test.substitution
    ++ (entry kinds.Unsaturation x (unsaturation test)
    ++ list_entry x test.kind))))

-- the property lines of these atoms, of which the first is atom x: atom by atom
abbrev pub entries_from : ℕ → List GraphAtom → List Property
entries_from x [] = []
entries_from x (atom ∷ atoms) = atom_entries x atom.test ++ entries_from (x + 1) atoms

-- ---- the table

-- The atoms and the bonds are those of the graph, in order. There are no atom-list lines. The
-- property lines say what is asked of the atoms, atom by atom.
pub record IsTableOf (graph : GraphView) (table : RawTable) : Type 0 where
  pub atoms : table.atoms ≡ map atom_drawn graph.atoms
  pub bonds : table.bonds ≡ map bond_drawn graph.bonds
  pub no_lists : table.lists ≡ []
  pub entries : table.props ≡ entries_from 1 graph.atoms
