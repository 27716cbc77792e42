-- The twin of a V3000 table: the raw table that it would be in the format V2000.
--     twin_of atoms bonds        the twin of the atoms and bonds of a V3000 table
use Rattle.std.specs.Prelude.{ℕ, ◌+◌, ◌==◌, Bool, true, false, if◌then◌else◌, List, [], ◌∷◌, ◌++◌, map, ℤ, pos, negsuc}
use Rattle.mk_props.specs.declared.property.Pair.{Pair}
use Rattle.mk_props.specs.declared.property.Property.{Property}
use Rattle.mk_props.specs.declared.property.Property.TheVariants as kinds
use Rattle.mk_tables.specs.declared.raw.RawAtom.{RawAtom}
use Rattle.mk_tables.specs.declared.raw.RawBond.{RawBond}
use Rattle.mk_tables.specs.declared.raw.RawTable.{RawTable}
use Rattle.mk_v3000.specs.declared.word_lines.AtomLine.{AtomLine}
use Rattle.mk_v3000.specs.declared.word_lines.BondLine.{BondLine}

-- the two numbers are one
abbrev pub same_number : ℤ → ℤ → Bool
same_number (pos m) (pos n) = m == n
same_number (negsuc m) (negsuc n) = m == n
same_number (pos m) (negsuc n) = false
same_number (negsuc m) (pos n) = false

-- one of the indexes is this
abbrev pub has_index : List ℤ → ℤ → Bool
has_index [] i = false
has_index (x ∷ xs) i = if same_number x i then true else has_index xs i

-- the valence column: -1 says none, which the column spells 15
abbrev pub valence_column : ℤ → ℤ
valence_column v = if same_number v (negsuc 0) then pos 15 else v

-- the symbol and the valence; the charge and the hydrogen column are 0
abbrev pub twin_atom : AtomLine → RawAtom
twin_atom a = record { symbol = a.symbol; charge = pos 0; hydrogens = pos 0; valence = valence_column a.valence }

-- the place of the first atom with this index, where the atoms count from k, and 0 where none has it
abbrev pub place_from : ℕ → List ℤ → ℤ → ℤ
place_from k [] index = pos 0
place_from k (x ∷ xs) index = if same_number x index then pos k else place_from (k + 1) xs index

-- the type and the places of the two atoms
abbrev pub twin_bond : List ℤ → BondLine → RawBond
twin_bond indexes b = record { first = place_from 1 indexes b.first; second = place_from 1 indexes b.second; kind = b.kind; topology = pos 0 }

-- a property of the atom at this place, where the value isn't 0
abbrev pub value_prop : (List Pair → Property) → ℕ → ℤ → List Property
value_prop kind place value = if same_number value (pos 0) then [] else kind (record { atom = pos place; value = value } ∷ []) ∷ []

-- `M  CHG`, `M  RAD` and `M  ISO` of the atom at this place
abbrev pub props_of : ℕ → AtomLine → List Property
props_of place a = value_prop kinds.Charge place a.charge ++ (value_prop kinds.Radical place a.radical ++ value_prop kinds.Isotope place a.mass)

-- the properties atom by atom, where the atoms count from `place`
abbrev pub props_from : ℕ → List AtomLine → List Property
props_from place [] = []
props_from place (a ∷ atoms) = props_of place a ++ props_from (place + 1) atoms

-- the indexes of the atoms, in order
abbrev pub indexes_of : List AtomLine → List ℤ
indexes_of atoms = map (λ a. a.index) atoms

-- the atoms, the bonds between their places, no lists, and the properties atom by atom
abbrev pub twin_of : List AtomLine → List BondLine → RawTable
twin_of atoms bonds = record { atoms = map twin_atom atoms; bonds = map (twin_bond (indexes_of atoms)) bonds; lists = []; props = props_from 1 atoms }
