-- The checks in their order: those before, one more, and the first that fails.
use Rattle.std.proofs.Common.{◌≡◌, ◌≤◌, ◌+◌, ◌≢◌, ℕ, Bool, true, false, List, [], length, refl, sym, ap, subst, ◌∙◌, arith, ⊎_elim}
use Rattle.std.specs.Prelude.{if◌then◌else◌, ◌==◌}
use Rattle.std.proofs.lemmas.Bool.{cases_lt}
use Rattle.std.proofs.lemmas.Bool.Decides.{nat_tests}
use Rattle.std.proofs.lemmas.List.{nil_from_length}
use Rattle.mk_tables.specs.declared.raw.RawTable.{RawTable}
use Rattle.mk_text.specs.Items.{OfItem, IsLeastFailing}
use Rattle.mk_mol.specs.Checks.{IsOfMolecules}
use Rattle.mk_mol.specs.FirstFault.{MoleculeCheck, known_atoms, new_bonds, known_types, few_bonds, named_atoms, known_values, known_properties, molecule_check_number, MoleculeDemands, MeetsCheck, MeetsAllChecks, MeetsChecksBelow, IsFirstMoleculeFault}

-- the check of a number
abbrev check_at : ℕ → MoleculeCheck
check_at n =
    if n == 1 then known_atoms else (
    if n == 2 then new_bonds else (
    if n == 3 then known_types else (
    if n == 4 then few_bonds else (
    if n == 5 then named_atoms else (
    if n == 6 then known_values else known_properties)))))

check_at-number : (c : MoleculeCheck) → check_at (molecule_check_number c) ≡ c
check_at-number known_atoms = refl
check_at-number new_bonds = refl
check_at-number known_types = refl
check_at-number few_bonds = refl
check_at-number named_atoms = refl
check_at-number known_values = refl
check_at-number known_properties = refl

-- no two checks have one number
pub number-once : (c d : MoleculeCheck) → molecule_check_number c ≡ molecule_check_number d → c ≡ d
number-once c d same = sym (check_at-number c) ∙ ap check_at same ∙ check_at-number d

-- they count from 1
pub number-least : (c : MoleculeCheck) → 1 ≤ molecule_check_number c
number-least known_atoms = omega arith
number-least new_bonds = omega arith
number-least known_types = omega arith
number-least few_bonds = omega arith
number-least named_atoms = omega arith
number-least known_values = omega arith
number-least known_properties = omega arith

-- to 7
pub number-most : (c : MoleculeCheck) → molecule_check_number c ≤ 7
number-most known_atoms = omega arith
number-most new_bonds = omega arith
number-most known_types = omega arith
number-most few_bonds = omega arith
number-most named_atoms = omega arith
number-most known_values = omega arith
number-most known_properties = omega arith

-- none stands before the first
pub below_none : (table : RawTable) → MeetsChecksBelow table 1
below_none table d below = absurd (omega (arith, number-least d))

-- one check more
pub below_more : (table : RawTable) (c : MoleculeCheck) → MeetsCheck table c → MeetsChecksBelow table (molecule_check_number c) → MeetsChecksBelow table (molecule_check_number c + 1)
below_more table c passes before d below =
    ⊎_elim (λ earlier. before d earlier)
    (λ here. let same : c ≡ d = number-once c d (omega arith) in let P : MoleculeCheck → Type 0 = λ x. MeetsCheck table x in subst P same passes)
    (cases_lt (molecule_check_number d) (molecule_check_number c))

-- all seven
pub below_all : (table : RawTable) → MeetsChecksBelow table 8 → MeetsAllChecks table
below_all table before d = before d (omega (arith, number-most d))

-- the first that fails
pub fault : (table : RawTable) (c : MoleculeCheck) (item : ℕ) → MeetsChecksBelow table (molecule_check_number c)
    → IsLeastFailing (MoleculeDemands table c) item → IsFirstMoleculeFault table (molecule_check_number c) item
fault table c item before least = record { check = c; numbered = refl; before = before; least = least }

-- ---- atom lists and properties that a molecule can't have

-- a list whose length is tested for 0
pub is_empty : {X : Type 0} (seen xs : List X) (b : Bool) → seen ≡ xs → b ≡ (length seen == 0) → b ≡ true → xs ≡ []
is_empty seen xs b same is passed = sym same ∙ nil_from_length seen (grind (arith, nat_tests))

pub is_not_empty : {X : Type 0} (seen xs : List X) (b : Bool) → seen ≡ xs → b ≡ (length seen == 0) → b ≡ false → xs ≢ []
is_not_empty seen xs b same is not_so empty = absurd (let P : List _ → Type 0 = λ l. b ≡ (length l == 0) in let e = subst P (same ∙ empty) is in cc)

-- atom lists are item 0
pub foreign_lists : (table : RawTable) → table.lists ≢ [] → IsLeastFailing (MoleculeDemands table known_properties) 0
foreign_lists table some = record {
  lower = λ j below. absurd (omega arith);
  fails = λ demands. some (demands.0 refl);
}

-- without atom lists it is a property
pub foreign_property : (table : RawTable) (item : ℕ) → table.lists ≡ [] → IsLeastFailing (OfItem IsOfMolecules table.props) item → IsLeastFailing (MoleculeDemands table known_properties) item
foreign_property table item none least = record {
  lower = λ j below. (λ _. none, least.lower j below);
  fails = λ demands. least.fails demands.1;
}

-- or none
pub no_foreign : (table : RawTable) → table.lists ≡ [] → ((item : ℕ) → OfItem IsOfMolecules table.props item) → MeetsCheck table known_properties
no_foreign table none all item = (λ _. none, all item)
