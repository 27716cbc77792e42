-- What the atoms and the bonds of a query ask, each test over the numbers that it compares.
--     IsTestInRange test            the numbers of an atom's test are those that a query may have
--     IsBondInRange k t             a type and a topology are those that a bond of a query may have
--     accepts kind element          the kind takes the element
--     charge_fits .. unsaturation_fits      the other tests of an atom
--     meets asked bond              a bond of a molecule meets the test of a bond of a graph
use Rattle.std.specs.Prelude.{◌≡◌, ◌≤◌, ◌+◌, ◌-◌, ◌==◌, ◌&&◌, ◌||◌, ◌≤ℤ◌, ℕ, ℤ, pos, negsuc, Bool, true, not, nat_le, List, length, All, if◌then◌else◌}
use Rattle.std.specs.List.{list_any}
use Rattle.std.specs.Ordering.{int_eq}
use Rattle.mk_model.specs.declared.atom_test.Kind.{Kind}
use Rattle.mk_model.specs.declared.atom_test.Kind.TheVariants.{Element, OneOf, NoneOf, NotHydrogen, Hetero, Anything}
use Rattle.mk_model.specs.declared.atom_test.AtomTest.{AtomTest}
use Rattle.mk_model.specs.declared.graph.GraphBond.{GraphBond}
use Rattle.mk_model.specs.declared.molecule.MolBond.{MolBond}
use Rattle.mk_model.specs.Molecules.{IsElement}

-- ---- the numbers of a test

-- one to sixteen elements
pub record IsListOfElements (list : List ℕ) : Type 0 where
  pub some : 1 ≤ length list
  pub few : length list ≤ 16
  pub elements : All IsElement list

-- the elements that a kind names are elements
abbrev pub IsKindInRange : Kind → Type 0
IsKindInRange (Element z) = IsElement z
IsKindInRange (OneOf list) = IsListOfElements list
IsKindInRange (NoneOf list) = IsListOfElements list
IsKindInRange NotHydrogen = Unit {0}
IsKindInRange Hetero = Unit {0}
IsKindInRange Anything = Unit {0}

-- charge -15 to 15, radical 0 to 3, hydrogens 0 to 5, ring bonds -2, -1, 0, 2, 3 or 4, substitution
-- -2 to 6
pub record IsTestInRange (test : AtomTest) : Type 0 where
  pub kind : IsKindInRange test.kind
  pub charge : (negsuc 14 ≤ℤ test.charge) × (test.charge ≤ℤ pos 15)
  pub radical : test.radical ≤ 3
  pub hydrogens : test.hydrogens ≤ 5
  pub ring_bonds : (negsuc 1 ≤ℤ test.ring_bonds) × (test.ring_bonds ≤ℤ pos 4)
  pub no_single_ring_bond : test.ring_bonds ≡ pos 1 → ⊥
  pub substitution : (negsuc 1 ≤ℤ test.substitution) × (test.substitution ≤ℤ pos 6)

-- a bond of this type and this topology may stand in a query: type 1 to 8, topology 0 to 2
pub record IsBondInRange (k t : ℕ) : Type 0 where
  pub kind : (1 ≤ k) × (k ≤ 8)
  pub topology : t ≤ 2

-- ---- an atom

-- one element, one of a list, none of a list and no hydrogen, any but hydrogen, any but carbon and
-- hydrogen, any
abbrev pub accepts : Kind → ℕ → Bool
accepts (Element z) element = z == element
accepts (OneOf list) element = list_any (λ z. z == element) list
accepts (NoneOf list) element = not (element == 1) && not (list_any (λ z. z == element) list)
accepts NotHydrogen element = not (element == 1)
accepts Hetero element = not (element == 1) && not (element == 6)
accepts Anything element = true

-- a charge other than 0 has to be the same
abbrev pub charge_fits : ℤ → ℤ → Bool
charge_fits asked charge = int_eq asked (pos 0) || int_eq asked charge

-- a radical other than 0 has to be the same
abbrev pub radical_fits : ℕ → ℕ → Bool
radical_fits asked radical = (asked == 0) || (asked == radical)

-- Where so many hydrogens are drawn and so many ends are free: column 0 asks for nothing, 1 for the
-- drawn ones and at most one for each free end more, n + 1 for at least n more than are drawn.
abbrev pub hydrogens_fit : ℕ → ℕ → ℕ → ℕ → Bool
hydrogens_fit column drawn free count =
    if column == 0 then true
    else (if column == 1 then nat_le drawn count && nat_le count (drawn + free) else nat_le (drawn + (column - 1)) count)

-- 0 asks for nothing, -1 for no ring bond, -2 for as many as are drawn, 2 or 3 for so many, 4 for
-- four or more
abbrev pub ring_bonds_fit : ℤ → ℕ → ℕ → Bool
ring_bonds_fit (pos n) drawn count = if n == 0 then true else (if n == 4 then nat_le 4 count else count == n)
ring_bonds_fit (negsuc n) drawn count = if n == 0 then count == 0 else count == drawn

-- 0 asks for nothing, -1 for no neighbour but hydrogens, -2 for those drawn and at most one for
-- each free end more, 1 to 5 for so many, 6 for six or more
abbrev pub substitution_fits : ℤ → ℕ → ℕ → ℕ → Bool
substitution_fits (pos n) drawn free count = if n == 0 then true else (if n == 6 then nat_le 6 count else count == n)
substitution_fits (negsuc n) drawn free count = if n == 0 then count == 0 else nat_le drawn count && nat_le count (drawn + free)

-- where an unsaturated bond is asked for, there is one
abbrev pub unsaturation_fits : Bool → Bool → Bool
unsaturation_fits asked unsaturated = not asked || unsaturated

-- a bond of type 2, 3 or 4, or in the aromatic set
abbrev pub is_unsaturated : MolBond → Bool
is_unsaturated bond = bond.aromatic || ((bond.kind == 2) || ((bond.kind == 3) || (bond.kind == 4)))

-- ---- a bond

-- a single bond outside the aromatic set
abbrev pub is_single : MolBond → Bool
is_single bond = (bond.kind == 1) && not bond.aromatic

-- a double bond outside the aromatic set
abbrev pub is_double : MolBond → Bool
is_double bond = (bond.kind == 2) && not bond.aromatic

-- the type that a bond of a graph asks for: one of type 1, 2 or 4 in the graph's aromatic set asks
-- for an aromatic bond
abbrev pub asked_kind : GraphBond → ℕ
asked_kind asked = if asked.aromatic && ((asked.kind == 1) || (asked.kind == 2)) then 4 else asked.kind

-- 1 single, 2 double, 3 triple, 4 aromatic, 5 single or double, 6 single or aromatic, 7 double or
-- aromatic, 8 any
abbrev pub takes_kind : ℕ → MolBond → Bool
takes_kind kind bond =
    if kind == 1 then is_single bond
    else (if kind == 2 then is_double bond
    else (if kind == 3 then bond.kind == 3
    else (if kind == 4 then bond.aromatic
    else (if kind == 5 then is_single bond || is_double bond
    else (if kind == 6 then is_single bond || bond.aromatic
    else (if kind == 7 then is_double bond || bond.aromatic
    else true))))))

-- 0 either, 1 a ring bond, 2 another
abbrev pub takes_topology : ℕ → MolBond → Bool
takes_topology topology bond = if topology == 1 then bond.ring else (if topology == 2 then not bond.ring else true)

-- the bond has a type and a topology that are asked for
abbrev pub meets : GraphBond → MolBond → Bool
meets asked bond = takes_kind (asked_kind asked) bond && takes_topology asked.topology bond
