-- Laws that a definition has its value: a table its molecule, an edit its refusal or its changes, a
-- drill its line.
--     IsMoleculeOfTable table mol      the table passes every check, and this is its filled molecule
--     FaultOrMolecule                  a table has a first check that it fails, or a filled molecule
--     IsFileJudged text                a file of one record is refused for one thing, or holds a
--                                      molecule; it serves proofs alone
--     IsJudged records next edit       the edit is refused for one thing, or has its changes
--     EditsAreJudged                   each edit of each library is
--     DrillsHaveLines                  each start and each count have a line of the drill
use Rattle.std.specs.Prelude.{◌≤◌, ◌⊎◌, ℕ, List, length}
use Rattle.mk_model.specs.Molecules.{IsMolecule, Molecule}
use Rattle.mk_tables.specs.declared.raw.RawTable.{RawTable}
use Rattle.mk_mol.specs.Filled.{IsFilled}
use Rattle.mk_mol.specs.FirstFault.{IsFirstMoleculeFault, MeetsAllChecks}
use Rattle.mk_outside.specs.declared.tables.Change.{Change}
use Rattle.mk_outside.specs.declared.tables.RecordRow.{RecordRow}
use Rattle.mk_library.specs.declared.refusal.LoadRefusal.{LoadRefusal}
use Rattle.mk_library.specs.Edits.{Edit}
use Rattle.mk_library.specs.FirstRefusal.{HoldsMolecule, IsAllowedEdit, IsFirstFileRefusal, IsFirstRefusal}
use Rattle.mk_drill.specs.Drill.{IsDrill}

-- the table passes every check, and this is its filled molecule
pub record IsMoleculeOfTable (table : RawTable) (mol : Molecule) : Type 0 where
  pub passes : MeetsAllChecks table
  pub filled : IsFilled table mol
  pub kept : IsMolecule mol

-- a table of at most 999 atoms and 999 bonds has a first check that it fails, or a filled molecule
abbrev pub FaultOrMolecule : Type 0
FaultOrMolecule =
    (table : RawTable) → length table.atoms ≤ 999 → length table.bonds ≤ 999
    → ((check : ℕ) × ((item : ℕ) × IsFirstMoleculeFault table check item)) ⊎ ((mol : Molecule) × IsMoleculeOfTable table mol)

-- the file is refused at its first demand that isn't met, or it holds a molecule
abbrev pub IsFileJudged : List ℕ → Type 0
IsFileJudged text = ((said : LoadRefusal) × IsFirstFileRefusal text said) ⊎ ((mol : Molecule) × HoldsMolecule text mol)

-- the edit is refused at its first demand that isn't met, or every demand is met and it has changes
abbrev pub IsJudged : List RecordRow → ℕ → Edit → Type 0
IsJudged records next edit =
    ((said : LoadRefusal) × IsFirstRefusal records next edit said) ⊎ ((changes : List Change) × IsAllowedEdit records next edit changes)

-- each edit of a library is refused, or has its changes
abbrev pub EditsAreJudged : Type 0
EditsAreJudged = (records : List RecordRow) (next : ℕ) (edit : Edit) → IsJudged records next edit

-- each start and each count have a line of the drill
abbrev pub DrillsHaveLines : Type 0
DrillsHaveLines = (start count : ℕ) → (line : List ℕ) × IsDrill start count line
