-- Laws over the checks and the filled molecule.
--     OneFirstFault                a table has at most one first fault
--     NoFaultWhereAllPass          and none where every check passes
--     OneFilledMolecule            it has at most one filled molecule
--     PassingTablesKeepTheirText   a table whose atoms and properties are known keeps its text
use Rattle.std.specs.Prelude.{◌≡◌, ℕ}
use Rattle.mk_model.specs.Molecules.{Molecule, IsMolecule}
use Rattle.mk_tables.specs.declared.raw.RawTable.{RawTable}
use Rattle.mk_tables.specs.KeptTables.{HoldNoTexts, KeepsItsText}
use Rattle.mk_mol.specs.FirstFault.{IsFirstMoleculeFault, MeetsCheck, MeetsAllChecks, known_atoms, known_properties}
use Rattle.mk_mol.specs.Filled.{IsFilled}

-- two first faults of a table are one check and one item
abbrev pub OneFirstFault : Type 0
OneFirstFault = (table : RawTable) (n item m other : ℕ) → IsFirstMoleculeFault table n item → IsFirstMoleculeFault table m other → (n ≡ m) × (item ≡ other)

-- where every check passes there is no first fault
abbrev pub NoFaultWhereAllPass : Type 0
NoFaultWhereAllPass = (table : RawTable) (n item : ℕ) → MeetsAllChecks table → ¬ (IsFirstMoleculeFault table n item)

-- two molecules that are a table's, filled, are one: the marks of the bonds are those of the
-- definitions
abbrev pub OneFilledMolecule : Type 0
OneFilledMolecule = (table : RawTable) (a b : Molecule) → IsMolecule a → IsMolecule b → IsFilled table a → IsFilled table b → a ≡ b

-- no symbol of a table whose atoms are known ends with CR, and among known properties is no
-- `M  ALS` and no `M  LOG`
abbrev pub PassingTablesKeepTheirText : Type 0
PassingTablesKeepTheirText = (table : RawTable) → MeetsCheck table known_atoms → MeetsCheck table known_properties → KeepsItsText table × HoldNoTexts table.props
