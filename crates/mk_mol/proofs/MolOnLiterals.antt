-- The definitions of the filled molecule, computed on small lists.
use Rattle.std.proofs.Common.{◌≡◌, ℕ, true, false, List, [], ◌∷◌, refl}
use Rattle.std.specs.Prelude.{ℤ, pos, negsuc}
use Rattle.mk_props.specs.declared.property.Pair.{Pair}
use Rattle.mk_props.specs.declared.property.Property.{Property}
use Rattle.mk_props.specs.declared.property.Property.TheVariants as kinds
use Rattle.mk_model.specs.declared.edge.Edge.{Edge}
use Rattle.mk_demands.specs.Charges.{charge_pairs, last_or, lists_values, radical_pairs, values_for}
use Rattle.mk_mol.specs.Filled.{hydrogen_bonds, kinds_at, owners}

abbrev pair : ℤ → ℤ → Pair
pair atom value = record { atom = atom; value = value }

abbrev bond : ℕ → ℕ → ℕ → Edge
bond first second kind = record { first = first; second = second; kind = kind }

-- ---- what properties list

-- an `M  CHG` that lists nothing sets the atom lines' charges aside, and an `M  ISO` doesn't
listed_by_none : lists_values (kinds.Isotope (pair (pos 1) (pos 13) ∷ []) ∷ kinds.Charge [] ∷ []) ≡ true
listed_by_none = refl

not_listed : lists_values (kinds.Isotope (pair (pos 1) (pos 13) ∷ []) ∷ []) ≡ false
not_listed = refl

-- `M  CHG` 1 +2, then `M  RAD` 1 2, then `M  CHG` 2 +1 and 1 -1: the last for each atom holds, by kind
abbrev props : List Property
props = kinds.Charge (pair (pos 1) (pos 2) ∷ []) ∷ kinds.Radical (pair (pos 1) (pos 2) ∷ []) ∷ kinds.Charge (pair (pos 2) (pos 1) ∷ pair (pos 1) (negsuc 0) ∷ []) ∷ []

last_charge : last_or (pos 0) (values_for 1 (charge_pairs props)) ≡ negsuc 0
last_charge = refl

other_charge : last_or (pos 0) (values_for 2 (charge_pairs props)) ≡ pos 1
other_charge = refl

last_radical : last_or (pos 0) (values_for 1 (radical_pairs props)) ≡ pos 2
last_radical = refl

no_radical : last_or (pos 0) (values_for 2 (radical_pairs props)) ≡ pos 0
no_radical = refl

-- ---- hydrogens

-- of three atoms the first gains two and the third one
three_owners : owners 1 (2 ∷ 0 ∷ 1 ∷ []) ≡ 1 ∷ 1 ∷ 3 ∷ []
three_owners = refl

-- they are the atoms 4, 5 and 6
three_bonds : hydrogen_bonds 4 (1 ∷ 1 ∷ 3 ∷ []) ≡ bond 1 4 1 ∷ bond 1 5 1 ∷ bond 3 6 1 ∷ []
three_bonds = refl

-- the types of the bonds of atom 2 in 1-2 2=3 1-3
kinds_of_two : kinds_at (bond 1 2 1 ∷ bond 2 3 2 ∷ bond 1 3 1 ∷ []) 2 ≡ 1 ∷ 2 ∷ []
kinds_of_two = refl
