-- What the checks demand of one table of a query, item by item. Atoms, bonds and properties count
-- from 1. What is demanded of any table's bonds and values stands in mk_tables.
--     IsQueryAtom atom                 a symbol that a query may have, and columns that mean
--                                      something
--     IsQueryBond atoms bonds item     a new bond of a known type and topology, with room at its
--                                      ends
--     NamesItsAtoms atoms property     what a property gives to atoms it gives to atoms of the
--                                      table
--     HasQueryValues property          the values that a property gives are such as there are
use Rattle.std.specs.Prelude.{◌≡◌, ◌≢◌, ◌⊎◌, ℕ, ℤ, pos, negsuc, List, All, codes, take}
use Rattle.mk_text.specs.Items.{OfItem}
use Rattle.mk_elements.specs.Symbols.{NamesElement}
use Rattle.mk_props.specs.declared.property.LinkEntry.{LinkEntry}
use Rattle.mk_props.specs.declared.property.Property.{Property}
use Rattle.mk_props.specs.declared.property.Property.TheVariants as kinds
use Rattle.mk_tables.specs.declared.raw.RawAtom.{RawAtom}
use Rattle.mk_tables.specs.declared.raw.RawBond.{RawBond}
use Rattle.mk_demands.specs.Bonds.{HasFewBonds, IsNewBondAt, edges_of}
use Rattle.mk_demands.specs.Numbers.{IsAtom, IsWithin}
use Rattle.mk_demands.specs.Values.{AreForAtoms, HaveValues}

-- ---- atoms

-- the bytes name an element
pub record IsElementName (symbol : List ℕ) : Type 0 where
  pub element : ℕ
  pub names : NamesElement symbol element

-- `L` for a list, `A` for any atom but hydrogen, `Q` for any but hydrogen and carbon, `*` for any
-- atom, `R#` for a site
abbrev pub IsQueryWord : List ℕ → Type 0
IsQueryWord symbol =
    (symbol ≡ codes "L") ⊎ ((symbol ≡ codes "A") ⊎ ((symbol ≡ codes "Q") ⊎ ((symbol ≡ codes "*") ⊎ (symbol ≡ codes "R#"))))

-- the symbol is an element's, `D`, `T` or one of the words; the charge column is 0 to 7, and the
-- hydrogen column 0 to 5
pub record IsQueryAtom (atom : RawAtom) : Type 0 where
  pub symbol : IsElementName atom.symbol ⊎ IsQueryWord atom.symbol
  pub charge : IsWithin (pos 0) (pos 7) atom.charge
  pub hydrogens : IsWithin (pos 0) (pos 5) atom.hydrogens

-- ---- bonds

-- the bond has type 1 to 8 and topology 0 to 2
pub record HasQueryType (bond : RawBond) : Type 0 where
  pub kind : IsWithin (pos 1) (pos 8) bond.kind
  pub topology : IsWithin (pos 0) (pos 2) bond.topology

-- with the bonds up to the one of a number, each atom has at most 20
abbrev pub LeavesFewBonds : ℕ → List RawBond → ℕ → Type 0
LeavesFewBonds atoms bonds item = (n : ℕ) → HasFewBonds atoms (edges_of (take item bonds)) n

-- The bond of this number is between two atoms that no earlier one joins, its columns mean
-- something, and it isn't the 21st bond of an atom.
pub record IsQueryBond (atoms : ℕ) (bonds : List RawBond) (item : ℕ) : Type 0 where
  pub new : IsNewBondAt atoms bonds item
  pub columns : OfItem HasQueryType bonds item
  pub few : LeavesFewBonds atoms bonds item

-- ---- properties

-- the links are of atoms of the table
abbrev pub AreLinksOf : ℕ → List LinkEntry → Type 0
AreLinksOf atoms links = All (λ link. IsAtom atoms link.atom) links

-- The first atom of each entry is an atom of the table: of an `M  LIN` the link alone, of an
-- `M  AAL` the site, and of an `M  ALS` the atom of the list. An `M  LOG` names none.
abbrev pub NamesItsAtoms : ℕ → Property → Type 0
NamesItsAtoms atoms (kinds.Charge pairs) = AreForAtoms atoms pairs
NamesItsAtoms atoms (kinds.Radical pairs) = AreForAtoms atoms pairs
NamesItsAtoms atoms (kinds.Isotope pairs) = AreForAtoms atoms pairs
NamesItsAtoms atoms (kinds.RingBonds pairs) = AreForAtoms atoms pairs
NamesItsAtoms atoms (kinds.Substitution pairs) = AreForAtoms atoms pairs
NamesItsAtoms atoms (kinds.Unsaturation pairs) = AreForAtoms atoms pairs
NamesItsAtoms atoms (kinds.Label pairs) = AreForAtoms atoms pairs
NamesItsAtoms atoms (kinds.Points pairs) = AreForAtoms atoms pairs
NamesItsAtoms atoms (kinds.Link links) = AreLinksOf atoms links
NamesItsAtoms atoms (kinds.List list) = IsAtom atoms list.atom
NamesItsAtoms atoms (kinds.Order order) = IsAtom atoms order.atom
NamesItsAtoms atoms other = Unit {0}

-- the value is -2 as drawn, -1 none, 0 any, 2 to 4 so many, 4 or more (`negsuc 1` is -2)
pub record IsRingBondCount (value : ℤ) : Type 0 where
  pub within : IsWithin (negsuc 1) (pos 4) value
  pub not_one : value ≢ pos 1

-- charges are -15 to 15 (`negsuc 14` is -15), radicals 0 to 3, substitutions -2 to 6, unsaturations
-- 0 or 1, labels 1 to 32, and points 1 to 3
abbrev pub HasQueryValues : Property → Type 0
HasQueryValues (kinds.Charge pairs) = HaveValues (negsuc 14) (pos 15) pairs
HasQueryValues (kinds.Radical pairs) = HaveValues (pos 0) (pos 3) pairs
HasQueryValues (kinds.RingBonds pairs) = All (λ pair. IsRingBondCount pair.value) pairs
HasQueryValues (kinds.Substitution pairs) = HaveValues (negsuc 1) (pos 6) pairs
HasQueryValues (kinds.Unsaturation pairs) = HaveValues (pos 0) (pos 1) pairs
HasQueryValues (kinds.Label pairs) = HaveValues (pos 1) (pos 32) pairs
HasQueryValues (kinds.Points pairs) = HaveValues (pos 1) (pos 3) pairs
HasQueryValues other = Unit {0}

-- the property gives values that there are to atoms of the table
pub record IsQueryProperty (atoms : ℕ) (property : Property) : Type 0 where
  pub named : NamesItsAtoms atoms property
  pub values : HasQueryValues property
