-- A table as far as it has been read. It serves the code and the proofs alone; what a table is, is
-- said in V3000Table.antt.
--     first_walk                 nothing has been read
--     step walk words            what one more logical line makes of it, or None
--     IsFew walk                 there are no more than 999 atoms and bonds
use Rattle.std.specs.Prelude.{◌≡◌, ℕ, ◌+◌, ◌-◌, ◌==◌, not, Bool, true, false, if◌then◌else◌, List, [], ◌∷◌, ◌++◌, length, codes, Option, Some, None, ℤ, pos, negsuc, ◌≤◌}
use Rattle.mk_props.specs.declared.property.Pair.{Pair}
use Rattle.mk_props.specs.declared.property.Property.{Property}
use Rattle.mk_props.specs.declared.property.Property.TheVariants as kinds
use Rattle.mk_text.specs.Options.{◌>>=◌, when}
use Rattle.mk_tables.specs.declared.raw.RawAtom.{RawAtom}
use Rattle.mk_tables.specs.declared.raw.RawBond.{RawBond}
use Rattle.mk_tables.specs.declared.raw.RawTable.{RawTable}
use Rattle.mk_v3000.specs.declared.word_lines.PartCounts.{PartCounts}
use Rattle.mk_v3000.specs.declared.word_lines.AtomLine.{AtomLine}
use Rattle.mk_v3000.specs.declared.word_lines.BondLine.{BondLine}
use Rattle.mk_v3000.specs.declared.walk.Phase.{Phase}
use Rattle.mk_v3000.specs.declared.walk.Phase.TheVariants as phase
use Rattle.mk_v3000.specs.declared.walk.Walk.{Walk}
use Rattle.mk_v3000.specs.LogicalLines.{Word}
use Rattle.mk_v3000.specs.Twin.{has_index, twin_atom, twin_bond, props_of}
use Rattle.mk_v3000.specs.WordLines.{is_pair, counts_of_words, atom_of, bond_of}

-- a table without atoms, bonds, lists and properties
abbrev pub no_table : RawTable
no_table = record { atoms = []; bonds = []; lists = []; props = [] }

-- nothing has been read
abbrev pub first_walk : Walk
first_walk = record { phase = phase.AtTable; atoms = 0; bonds = 0; indexes = []; table = no_table }

-- the same at another place
abbrev pub moved : Phase → Walk → Walk
moved p w = record { phase = p; atoms = w.atoms; bonds = w.bonds; indexes = w.indexes; table = w.table }

-- so many atoms and bonds are to come
abbrev pub counted : PartCounts → Walk
counted n = record { phase = phase.AtAtoms; atoms = n.atoms; bonds = n.bonds; indexes = []; table = no_table }

-- one more atom
abbrev pub with_atom : Walk → AtomLine → Walk
with_atom w a = record {
  phase = phase.InAtoms;
  atoms = w.atoms - 1;
  bonds = w.bonds;
  indexes = w.indexes ++ a.index ∷ [];
  table = record {
    atoms = w.table.atoms ++ twin_atom a ∷ [];
    bonds = w.table.bonds;
    lists = w.table.lists;
    props = w.table.props ++ props_of (length w.indexes + 1) a;
  };
}

-- one more bond
abbrev pub with_bond : Walk → BondLine → Walk
with_bond w b = record {
  phase = phase.InBonds;
  atoms = w.atoms;
  bonds = w.bonds - 1;
  indexes = w.indexes;
  table = record {
    atoms = w.table.atoms;
    bonds = w.table.bonds ++ twin_bond w.indexes b ∷ [];
    lists = w.table.lists;
    props = w.table.props;
  };
}

-- behind the atoms the part of the bonds is due, or where there are no bonds the others
abbrev pub behind_atoms : Walk → Walk
behind_atoms w = if w.bonds == 0 then moved phase.InRest w else moved phase.AtBonds w

-- what the words make of it at this place
unfoldable pub step_at : Phase → Walk → List Word → Option Walk
step_at phase.AtTable w words = when (is_pair words (codes "BEGIN") (codes "CTAB")) (Some (moved phase.AtCounts w))
step_at phase.AtCounts w words = counts_of_words words >>= λ n. Some (counted n)
step_at phase.AtAtoms w words = when (is_pair words (codes "BEGIN") (codes "ATOM")) (Some (moved phase.InAtoms w))
step_at phase.InAtoms w words =
    if w.atoms == 0
    then when (is_pair words (codes "END") (codes "ATOM")) (Some (behind_atoms w))
    else (atom_of words >>= λ a. when (not (has_index w.indexes a.index)) (Some (with_atom w a)))
step_at phase.AtBonds w words = when (is_pair words (codes "BEGIN") (codes "BOND")) (Some (moved phase.InBonds w))
step_at phase.InBonds w words =
    if w.bonds == 0
    then when (is_pair words (codes "END") (codes "BOND")) (Some (moved phase.InRest w))
    else (bond_of words >>= λ b. Some (with_bond w b))
step_at phase.InRest w words = if is_pair words (codes "END") (codes "CTAB") then Some (moved phase.Done w) else Some (moved phase.InRest w)
step_at phase.Done w words = None

-- what one more logical line makes of it
abbrev pub step : Walk → List Word → Option Walk
step w words = step_at w.phase w words

-- the end has been read
abbrev pub is_done : Phase → Bool
is_done phase.Done = true
is_done p = false

-- there are no more than 999 atoms and bonds
pub record IsFew (w : Walk) : Type 0 where
  pub atoms : length w.indexes + w.atoms ≤ 999
  pub same : length w.table.atoms ≡ length w.indexes
  pub bonds : length w.table.bonds + w.bonds ≤ 999
  pub lists : w.table.lists ≡ []
