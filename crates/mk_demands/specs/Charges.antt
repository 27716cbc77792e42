-- The charges and radicals of a table's atoms.
--     lists_values props            some property is an `M  CHG` or an `M  RAD`: the atom lines'
--                                   charges are set aside
--     charge_at table n line        the charge of atom n, of which this is the atom line
--     radical_at table n line       its radical
--     AreElectrons table list       the list has them for each atom
--     HasRadical electrons          a radical that there is
use Rattle.std.specs.Prelude.{◌≡◌, ◌≤◌, ◌+◌, ◌==◌, ℕ, ℤ, pos, negsuc, Bool, true, false, List, [], ◌∷◌, ◌++◌, Some, length, slice_get, if◌then◌else◌}
use Rattle.std.specs.List.{list_any}
use Rattle.mk_props.specs.declared.property.Pair.{Pair}
use Rattle.mk_props.specs.declared.property.Property.{Property}
use Rattle.mk_props.specs.declared.property.Property.TheVariants as kinds
use Rattle.mk_demands.specs.declared.charges.Electrons.{Electrons}
use Rattle.mk_tables.specs.declared.raw.RawAtom.{RawAtom}
use Rattle.mk_tables.specs.declared.raw.RawTable.{RawTable}
use Rattle.mk_demands.specs.Numbers.{natural}

-- ---- what property lines list

-- the property gives charges or radicals
abbrev pub gives_values : Property → Bool
gives_values (kinds.Charge pairs) = true
gives_values (kinds.Radical pairs) = true
gives_values other = false

-- some property gives charges or radicals, though it may list no atom
abbrev pub lists_values : List Property → Bool
lists_values props = list_any gives_values props

-- the pairs of an `M  CHG`
abbrev pub charges_of : Property → List Pair
charges_of (kinds.Charge pairs) = pairs
charges_of other = []

-- the pairs of an `M  RAD`
abbrev pub radicals_of : Property → List Pair
radicals_of (kinds.Radical pairs) = pairs
radicals_of other = []

-- the pairs of all `M  CHG`, in order
abbrev pub charge_pairs : List Property → List Pair
charge_pairs [] = []
charge_pairs (property ∷ props) = charges_of property ++ charge_pairs props

-- the pairs of all `M  RAD`, in order
abbrev pub radical_pairs : List Property → List Pair
radical_pairs [] = []
radical_pairs (property ∷ props) = radicals_of property ++ radical_pairs props

-- the values that the pairs give atom n, in order
abbrev pub values_for : ℕ → List Pair → List ℤ
values_for n [] = []
values_for n (pair ∷ pairs) = if natural pair.atom == n then pair.value ∷ values_for n pairs else values_for n pairs

-- the last of the values, or the first argument where there is none
abbrev pub last_or : ℤ → List ℤ → ℤ
last_or none [] = none
last_or none (value ∷ values) = last_or value values

-- ---- charges and radicals

-- what the charge column of an atom line says: 1 to 3 are +3 to +1, and 5 to 7 are -1 to -3
-- (`negsuc 0` is -1)
abbrev pub charge_of_column : ℕ → ℤ
charge_of_column column =
    if column == 1 then pos 3 else (
    if column == 2 then pos 2 else (
    if column == 3 then pos 1 else (
    if column == 5 then negsuc 0 else (
    if column == 6 then negsuc 1 else (
    if column == 7 then negsuc 2 else pos 0)))))

-- 4 is a doublet, radical 2; any other is no radical
abbrev pub radical_of_column : ℕ → ℤ
radical_of_column column = if column == 4 then pos 2 else pos 0

-- The charge of atom n: the last that an `M  CHG` lists for it, or 0. Only where nothing gives
-- charges or radicals is it that of the atom line.
abbrev pub charge_at : RawTable → ℕ → RawAtom → ℤ
charge_at table n line =
    if lists_values table.props then last_or (pos 0) (values_for n (charge_pairs table.props))
    else charge_of_column (natural line.charge)

-- The radical of atom n: the last that an `M  RAD` lists for it, or 0. Only where nothing gives
-- charges or radicals is it that of the atom line.
abbrev pub radical_at : RawTable → ℕ → RawAtom → ℤ
radical_at table n line =
    if lists_values table.props then last_or (pos 0) (values_for n (radical_pairs table.props))
    else radical_of_column (natural line.charge)

-- the radical is one of 0 to 3
abbrev pub HasRadical : Electrons → Type 0
HasRadical electrons = electrons.radical ≤ 3

-- the charge and the radical are those of atom n
pub record HasElectrons (table : RawTable) (n : ℕ) (line : RawAtom) (electrons : Electrons) : Type 0 where
  pub charge : electrons.charge ≡ charge_at table n line
  pub radical : pos electrons.radical ≡ radical_at table n line

-- the list has the charge and the radical of each atom, in order
pub record AreElectrons (table : RawTable) (list : List Electrons) : Type 0 where
  pub size : length list ≡ length table.atoms
  pub each : (i : ℕ) (line : RawAtom) (electrons : Electrons) → slice_get table.atoms i ≡ Some line → slice_get list i ≡ Some electrons → HasElectrons table (i + 1) line electrons
