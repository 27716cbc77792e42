-- The generator of the drill, and the molecules that it makes.
--     next_state state             the state behind a draw
--     draw_below n state           what a draw below n gives
--     draws k state                what so many draws below 8 give
--     state_behind k state         the state behind them
--     drilled_table state          the table of the molecule that is made from this state on
--     state_for start n            the state from which molecule n is made
--     IsDrilled start n mol        the molecule is the n-th
use Rattle.std.specs.Prelude.{ℕ, suc, zero, ◌+◌, ◌-◌, ◌*◌, ◌/◌, ◌%◌, ◌==◌, pos, List, [], ◌∷◌, ◌++◌, length, replicate, codes, if◌then◌else◌}
use Rattle.mk_model.specs.Molecules.{IsMolecule, Molecule}
use Rattle.mk_tables.specs.declared.raw.RawAtom.{RawAtom}
use Rattle.mk_tables.specs.declared.raw.RawBond.{RawBond}
use Rattle.mk_tables.specs.declared.raw.RawTable.{RawTable}
use Rattle.mk_mol.specs.Filled.{IsFilled}

-- ---- the generator

-- the state behind a draw
unfoldable pub next_state : ℕ → ℕ
next_state state = (1664525 * state + 1013904223) % 4294967296

-- what a draw below n gives
unfoldable pub draw_below : ℕ → ℕ → ℕ
draw_below n state = (next_state state / 65536) % n

-- what so many draws below 8 give, one after the other
abbrev pub draws : ℕ → ℕ → List ℕ
draws zero state = []
draws (suc k) state = draw_below 8 state ∷ draws k (next_state state)

-- the state behind so many draws
abbrev pub state_behind : ℕ → ℕ → ℕ
state_behind zero state = state
state_behind (suc k) state = state_behind k (next_state state)

-- ---- tables

-- an atom with nothing in its columns
abbrev pub plain_atom : List ℕ → RawAtom
plain_atom symbol = record { symbol = symbol; charge = pos 0; hydrogens = pos 0; valence = pos 0 }

-- a bond of this type
abbrev pub plain_bond : ℕ → ℕ → ℕ → RawBond
plain_bond first second kind = record { first = pos first; second = pos second; kind = pos kind; topology = pos 0 }

-- six carbons in a ring, with the bonds 1=2 2-3 3=4 4-5 5=6 1-6
unfoldable pub benzene : RawTable
benzene = record {
  atoms = replicate 6 (plain_atom (codes "C"));
  bonds = plain_bond 1 2 2 ∷ plain_bond 2 3 1 ∷ plain_bond 3 4 2 ∷ plain_bond 4 5 1 ∷ plain_bond 5 6 2 ∷ plain_bond 1 6 1 ∷ [];
  lists = [];
  props = [];
}

-- one atom more, and a bond of type 1 from atom x to it
unfoldable pub with_atom : List ℕ → ℕ → RawTable → RawTable
with_atom symbol x table = record table {
  atoms = table.atoms ++ plain_atom symbol ∷ [];
  bonds = table.bonds ++ plain_bond x (length table.atoms + 1) 1 ∷ [];
}

-- an oxygen more, bonded to atom x, and a carbon bonded to that oxygen
abbrev pub with_methoxy : ℕ → RawTable → RawTable
with_methoxy x table = with_atom (codes "C") (length table.atoms + 1) (with_atom (codes "O") x table)

-- what a draw puts on atom x: 0 a chlorine, 1 a bromine, 2 an oxygen with a carbon, any other
-- nothing
abbrev pub substituted : ℕ → ℕ → RawTable → RawTable
substituted x draw table =
    if draw == 0 then with_atom (codes "Cl") x table
    else (if draw == 1 then with_atom (codes "Br") x table
    else (if draw == 2 then with_methoxy x table else table))

-- what some draws put on the atoms from x on, one draw an atom
abbrev pub substituted_from : ℕ → List ℕ → RawTable → RawTable
substituted_from x [] table = table
substituted_from x (draw ∷ others) table = substituted_from (x + 1) others (substituted x draw table)

-- the table that six draws make of benzene
unfoldable pub drilled_table : ℕ → RawTable
drilled_table state = substituted_from 1 (draws 6 state) benzene

-- ---- molecules

-- the state from which molecule n is made: there were six draws for each molecule before it
unfoldable pub state_for : ℕ → ℕ → ℕ
state_for start n = state_behind (6 * (n - 1)) start

-- the molecule is the n-th: the filled molecule of its table
pub record IsDrilled (start n : ℕ) (mol : Molecule) : Type 0 where
  pub filled : IsFilled (drilled_table (state_for start n)) mol
  pub kept : IsMolecule mol
