-- The filled molecule of a table: its written atoms, the hydrogens that are added, and the bonds.
--     kinds_at bonds n            the types of its bonds
--     IsWrittenAtom table n line atom     the atom that the n-th atom line stands for
--     gained_by table n line atom         how many hydrogens it gains
--     owners n gains              for each hydrogen that is added, the atom that gains it
--     IsFilled table mol          the molecule is the table's, filled
use Rattle.std.specs.Prelude.{◌≡◌, ◌+◌, ◌==◌, ℕ, ℤ, pos, negsuc, Bool, true, false, List, [], ◌∷◌, ◌++◌, Some, length, map, replicate, slice_get, if◌then◌else◌}
use Rattle.std.specs.List.{filter, list_any}
use Rattle.mk_elements.specs.Symbols.{NamesElement}
use Rattle.mk_model.specs.declared.edge.Edge.{Edge}
use Rattle.mk_model.specs.declared.molecule.Atom.{Atom}
use Rattle.mk_model.specs.Edges.{touches}
use Rattle.mk_model.specs.Molecules.{Molecule, edges}
use Rattle.mk_valence.specs.Hydrogens.{added_hydrogens}
use Rattle.mk_tables.specs.declared.raw.RawAtom.{RawAtom}
use Rattle.mk_tables.specs.declared.raw.RawTable.{RawTable}
use Rattle.mk_demands.specs.Bonds.{edges_of}
use Rattle.mk_demands.specs.Charges.{charge_at, radical_at}
use Rattle.mk_demands.specs.Numbers.{natural}

-- the types of the bonds of atom n, in order
abbrev pub kinds_at : List Edge → ℕ → List ℕ
kinds_at bonds n = map (λ edge. edge.kind) (filter (touches n) bonds)

-- the atom that the n-th atom line stands for
pub record IsWrittenAtom (table : RawTable) (n : ℕ) (line : RawAtom) (atom : Atom) : Type 0 where
  pub element : NamesElement line.symbol atom.element
  pub charge : atom.charge ≡ charge_at table n line
  pub radical : pos atom.radical ≡ radical_at table n line

-- the atoms are those of the atom lines, one for each and in order
pub record AreWrittenAtoms (table : RawTable) (atoms : List Atom) : Type 0 where
  pub size : length atoms ≡ length table.atoms
  pub each : (i : ℕ) (line : RawAtom) (atom : Atom) → slice_get table.atoms i ≡ Some line → slice_get atoms i ≡ Some atom → IsWrittenAtom table (i + 1) line atom

-- how many hydrogens atom n gains, where its atom line's valence column is the mark
abbrev pub gained_by : RawTable → ℕ → RawAtom → Atom → ℕ
gained_by table n line atom = added_hydrogens atom.element atom.charge atom.radical (natural line.valence) (kinds_at (edges_of table.bonds) n)

-- for each written atom, in order, the list has the number of hydrogens that it gains
pub record AreGains (table : RawTable) (atoms : List Atom) (gains : List ℕ) : Type 0 where
  pub size : length gains ≡ length table.atoms
  pub each : (i : ℕ) (line : RawAtom) (atom : Atom) → slice_get table.atoms i ≡ Some line → slice_get atoms i ≡ Some atom → slice_get gains i ≡ Some (gained_by table (i + 1) line atom)

-- an added hydrogen has neither charge nor radical
abbrev pub hydrogen_atom : Atom
hydrogen_atom = record { element = 1; charge = pos 0; radical = 0 }

-- for each hydrogen that is added, in order, the atom that gains it, where the atoms from n on gain
-- these numbers
abbrev pub owners : ℕ → List ℕ → List ℕ
owners n [] = []
owners n (gained ∷ gains) = replicate gained n ++ owners (n + 1) gains

-- the bonds of hydrogens to their atoms, where the first hydrogen has the number n
abbrev pub hydrogen_bonds : ℕ → List ℕ → List Edge
hydrogen_bonds n [] = []
hydrogen_bonds n (owner ∷ others) = record { first = owner; second = n; kind = 1 } ∷ hydrogen_bonds (n + 1) others

-- The written atoms in order, and the added hydrogens by rising atom. The written bonds in order
-- with their ends as written, and a bond of type 1 for each added hydrogen, from its atom to it.
-- Which bonds are ring bonds or aromatic is said by `IsMolecule` of mk_model, which every molecule
-- keeps.
pub record IsFilled (table : RawTable) (mol : Molecule) : Type 0 where
  pub atoms : List Atom
  pub gains : List ℕ
  pub written : mol.written ≡ length table.atoms
  pub are_written : AreWrittenAtoms table atoms
  pub are_gains : AreGains table atoms gains
  pub filled : mol.atoms ≡ atoms ++ replicate (length (owners 1 gains)) hydrogen_atom
  pub bonds : edges mol.bonds ≡ edges_of table.bonds ++ hydrogen_bonds (length table.atoms + 1) (owners 1 gains)
