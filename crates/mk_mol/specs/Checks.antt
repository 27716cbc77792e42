-- What the checks demand of a molecule's table alone, item by item. What is demanded of any table's
-- bonds and values stands in mk_tables.
--     IsKnownAtom atom                 an element's symbol, and columns that mean something
--     HasKnownType bond                type 1 to 4
--     IsOfMolecules property           a property that a molecule may have
use Rattle.std.specs.Prelude.{ℕ, pos, List}
use Rattle.mk_elements.specs.Symbols.{NamesElement}
use Rattle.mk_props.specs.declared.property.Property.{Property}
use Rattle.mk_props.specs.declared.property.Property.TheVariants as kinds
use Rattle.mk_tables.specs.declared.raw.RawAtom.{RawAtom}
use Rattle.mk_tables.specs.declared.raw.RawBond.{RawBond}
use Rattle.mk_demands.specs.Numbers.{IsWithin}

-- the bytes name an element
pub record IsElementSymbol (symbol : List ℕ) : Type 0 where
  pub element : ℕ
  pub names : NamesElement symbol element

-- the symbol is an element's, `D` or `T`, the charge column is 0 to 7, and the valence column 0 to
-- 15
pub record IsKnownAtom (atom : RawAtom) : Type 0 where
  pub symbol : IsElementSymbol atom.symbol
  pub charge : IsWithin (pos 0) (pos 7) atom.charge
  pub valence : IsWithin (pos 0) (pos 15) atom.valence

-- the bond has type 1, 2, 3 or 4
abbrev pub HasKnownType : RawBond → Type 0
HasKnownType bond = IsWithin (pos 1) (pos 4) bond.kind

-- the property is an `M  CHG`, an `M  RAD` or an `M  ISO`
abbrev pub IsOfMolecules : Property → Type 0
IsOfMolecules (kinds.Charge pairs) = Unit {0}
IsOfMolecules (kinds.Radical pairs) = Unit {0}
IsOfMolecules (kinds.Isotope pairs) = Unit {0}
IsOfMolecules other = ⊥
