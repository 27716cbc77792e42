-- The checks of a molecule's table in their order, and the first that fails.
--     MoleculeCheck                      the seven checks; `molecule_check_number` gives their
--                                        numbers
--     MoleculeDemands table check item   what a check demands of the item of a number
--     MeetsAllChecks table               every check passes at every item
--     IsFirstMoleculeFault table n item  the first check that fails is the n-th, and this is its
--                                        least item
use Rattle.std.specs.Prelude.{◌≡◌, ◌<◌, ℕ, [], length}
use Rattle.mk_text.specs.Items.{IsLeastFailing, OfItem}
use Rattle.mk_tables.specs.declared.raw.RawTable.{RawTable}
use Rattle.mk_demands.specs.Bonds.{edges_of, HasFewBonds, IsNewBondAt}
use Rattle.mk_demands.specs.Values.{HasKnownValues, NamesAtoms}
use Rattle.mk_mol.specs.Checks.{IsKnownAtom, HasKnownType, IsOfMolecules}

-- Symbols and columns of atoms; ends of bonds; types of bonds; how many bonds an atom has; the
-- atoms, the values and the kinds of properties.
pub data MoleculeCheck : Type 0 where
  known_atoms : MoleculeCheck
  new_bonds : MoleculeCheck
  known_types : MoleculeCheck
  few_bonds : MoleculeCheck
  named_atoms : MoleculeCheck
  known_values : MoleculeCheck
  known_properties : MoleculeCheck

-- the checks count from 1, in their order
abbrev pub molecule_check_number : MoleculeCheck → ℕ
molecule_check_number known_atoms = 1
molecule_check_number new_bonds = 2
molecule_check_number known_types = 3
molecule_check_number few_bonds = 4
molecule_check_number named_atoms = 5
molecule_check_number known_values = 6
molecule_check_number known_properties = 7

-- What a check demands of the item of a number, which is an atom, a bond or a property. The atom
-- lists together are item 0 of the last check. An item that isn't there is right.
abbrev pub MoleculeDemands : RawTable → MoleculeCheck → ℕ → Type 0
MoleculeDemands table known_atoms item = OfItem IsKnownAtom table.atoms item
MoleculeDemands table new_bonds item = IsNewBondAt (length table.atoms) table.bonds item
MoleculeDemands table known_types item = OfItem HasKnownType table.bonds item
MoleculeDemands table few_bonds item = HasFewBonds (length table.atoms) (edges_of table.bonds) item
MoleculeDemands table named_atoms item = OfItem (NamesAtoms (length table.atoms)) table.props item
MoleculeDemands table known_values item = OfItem HasKnownValues table.props item
MoleculeDemands table known_properties item = (item ≡ 0 → table.lists ≡ []) × OfItem IsOfMolecules table.props item

-- the check passes at every item
abbrev pub MeetsCheck : RawTable → MoleculeCheck → Type 0
MeetsCheck table check = (item : ℕ) → MoleculeDemands table check item

-- every check passes
abbrev pub MeetsAllChecks : RawTable → Type 0
MeetsAllChecks table = (check : MoleculeCheck) → MeetsCheck table check

-- the checks of lower numbers pass
abbrev pub MeetsChecksBelow : RawTable → ℕ → Type 0
MeetsChecksBelow table n = (check : MoleculeCheck) → molecule_check_number check < n → MeetsCheck table check

-- the checks before the n-th pass, and the n-th fails at this item and at no lower one
pub record IsFirstMoleculeFault (table : RawTable) (n item : ℕ) : Type 0 where
  pub check : MoleculeCheck
  pub numbered : molecule_check_number check ≡ n
  pub before : MeetsChecksBelow table n
  pub least : IsLeastFailing (MoleculeDemands table check) item
