-- What the code knows of the atoms of a table before their tests are put together. For the code
-- alone.
--     AreNotes table notes          the notes are those of the table
--     IsTestAt table i test         the test of the atom at place i
--     AreTestsTo table k tests      the tests of the first k atoms
use Rattle.std.specs.Prelude.{◌≡◌, ◌<◌, ◌+◌, ℕ, List, Some, length, slice_get, slice_index_or}
use Rattle.mk_model.specs.declared.atom_test.AtomTest.{AtomTest}
use Rattle.mk_tables.specs.declared.raw.RawAtom.{RawAtom}
use Rattle.mk_tables.specs.declared.raw.RawTable.{RawTable}
use Rattle.mk_demands.specs.Charges.{AreElectrons}
use Rattle.mk_query.specs.declared.atom_tests.AtomNotes.{AtomNotes}
use Rattle.mk_query.specs.Compiled.{IsTestOf}
use Rattle.mk_query.specs.Drawn.{all_lists, ring_bonds_of, substitutions_of, unsaturations_of}
use Rattle.mk_query.specs.LastValues.{AreLastValues}
use Rattle.mk_query.specs.ListMarks.{AreInForce}

-- the notes are those of the table, for each of its atoms
pub record AreNotes (table : RawTable) (notes : AtomNotes) : Type 0 where
  pub electrons_are : AreElectrons table notes.electrons.items
  pub places_size : length notes.places.items ≡ length table.atoms
  pub places_are : AreInForce table.lists table.props (all_lists table) notes.places.items
  pub ring_bonds_size : length notes.ring_bonds.items ≡ length table.atoms
  pub ring_bonds_are : AreLastValues ring_bonds_of table.props notes.ring_bonds.items
  pub substitutions_size : length notes.substitutions.items ≡ length table.atoms
  pub substitutions_are : AreLastValues substitutions_of table.props notes.substitutions.items
  pub unsaturations_size : length notes.unsaturations.items ≡ length table.atoms
  pub unsaturations_are : AreLastValues unsaturations_of table.props notes.unsaturations.items

-- the test of the atom at place i
abbrev pub IsTestAt : RawTable → ℕ → AtomTest → Type 0
IsTestAt table i test = (line : RawAtom) → slice_get table.atoms i ≡ Some line → IsTestOf table (i + 1) line test

-- the tests of the first k atoms
pub record AreTestsTo (table : RawTable) (k : ℕ) (tests : List AtomTest) : Type 0 where
  pub size : length tests ≡ k
  pub each : (i : ℕ) (line : RawAtom) (d : AtomTest) → i < k → slice_get table.atoms i ≡ Some line → IsTestOf table (i + 1) line (slice_index_or tests i d)
