-- What property lines give to atoms: whether the atoms are there, and within which bounds the
-- values lie.
--     AreForAtoms atoms pairs          each pair is for an atom
--     HaveValues low high pairs        their values are within these bounds
--     NamesAtoms atoms property        what gives charges, radicals or isotopes names atoms of the
--                                      table
--     HasKnownValues property          charges and radicals that there are
use Rattle.std.specs.Prelude.{ℕ, ℤ, pos, negsuc, List, All}
use Rattle.mk_props.specs.declared.property.Pair.{Pair}
use Rattle.mk_props.specs.declared.property.Property.{Property}
use Rattle.mk_props.specs.declared.property.Property.TheVariants as kinds
use Rattle.mk_demands.specs.Numbers.{IsAtom, IsWithin}

-- each pair is for one of so many atoms
abbrev pub AreForAtoms : ℕ → List Pair → Type 0
AreForAtoms atoms pairs = All (λ pair. IsAtom atoms pair.atom) pairs

-- the values of the pairs are within these bounds
abbrev pub HaveValues : ℤ → ℤ → List Pair → Type 0
HaveValues low high pairs = All (λ pair. IsWithin low high pair.value) pairs

-- the atoms of `M  CHG`, `M  RAD` and `M  ISO` are atoms of the table
abbrev pub NamesAtoms : ℕ → Property → Type 0
NamesAtoms atoms (kinds.Charge pairs) = AreForAtoms atoms pairs
NamesAtoms atoms (kinds.Radical pairs) = AreForAtoms atoms pairs
NamesAtoms atoms (kinds.Isotope pairs) = AreForAtoms atoms pairs
NamesAtoms atoms other = Unit {0}

-- charges are -15 to 15 (`negsuc 14` is -15), and radicals 0 to 3
abbrev pub HasKnownValues : Property → Type 0
HasKnownValues (kinds.Charge pairs) = HaveValues (negsuc 14) (pos 15) pairs
HasKnownValues (kinds.Radical pairs) = HaveValues (pos 0) (pos 3) pairs
HasKnownValues other = Unit {0}
