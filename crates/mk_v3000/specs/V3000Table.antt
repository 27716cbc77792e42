-- V3000 tables: a relation between a whole list of lines and the raw table that is their twin.
--     IsV3000Table lines table     the lines are a V3000 table, and the table is its twin
--     IsV3000Front lines           they are a front of one, or end inside a logical line of one
use Rattle.std.specs.Prelude.{◌≡◌, ℕ, nat_eq, Bool, true, false, List, [], ◌∷◌, ◌++◌, length, map, codes, Option, Some, ℤ, ◌⊎◌}
use Rattle.std.specs.List.{starts_with}
use Rattle.mk_form.specs.Fronts.{IsFront}
use Rattle.mk_form.specs.Rows.{Series}
use Rattle.mk_form.specs.ToEnd.{EachIs}
use Rattle.mk_tables.specs.declared.raw.RawTable.{RawTable}
use Rattle.mk_tables.specs.TableLines.{Line, is_v3000}
use Rattle.mk_v3000.specs.declared.word_lines.AtomLine.{AtomLine}
use Rattle.mk_v3000.specs.declared.word_lines.BondLine.{BondLine}
use Rattle.mk_v3000.specs.LogicalLines.{Word, is_logical, goes_on, IsLogicalLine}
use Rattle.mk_v3000.specs.Twin.{has_index, twin_of}
use Rattle.mk_v3000.specs.WordLines.{is_pair, counts_of_words, atom_of, bond_of}

-- the line begins `M  END`
unfoldable pub is_end_line : Line → Bool
is_end_line line = starts_with nat_eq line (codes "M  END")

-- two words
abbrev pub two : List ℕ → List ℕ → List Word
two a b = a ∷ b ∷ []

-- the index of each atom is none of the earlier ones
abbrev pub AreNew : List ℤ → List AtomLine → Type 0
AreNew earlier [] = Unit {0}
AreNew earlier (a ∷ atoms) = (has_index earlier a.index ≡ false) × AreNew (earlier ++ a.index ∷ []) atoms

-- the words end a table
abbrev pub ends_table : List Word → Bool
ends_table words = is_pair words (codes "END") (codes "CTAB")

-- The part of the bonds: its first line, a line for each bond, and its last line.
pub record IsBondPart (lines : List (List Word)) (bonds : List BondLine) : Type 0 where
  pub bond_lines : List (List Word)
  pub whole : lines ≡ two (codes "BEGIN") (codes "BOND") ∷ (bond_lines ++ two (codes "END") (codes "BOND") ∷ [])
  pub each : map bond_of bond_lines ≡ map Some bonds

-- there are no bonds, and no part of them
pub record HasNoBondPart (lines : List (List Word)) (bonds : List BondLine) : Type 0 where
  pub no_lines : lines ≡ []
  pub no_bonds : bonds ≡ []

-- The logical lines of a table, by their words: the first, the counts, a line for each atom, the
-- part of the bonds, others that are passed over, and the last.
pub record AreTable (lines : List (List Word)) (atoms : List AtomLine) (bonds : List BondLine) : Type 0 where
  pub counts_line : List Word
  pub atom_lines : List (List Word)
  pub bond_part : List (List Word)
  pub others : List (List Word)
  pub whole : lines ≡ two (codes "BEGIN") (codes "CTAB") ∷ counts_line ∷ two (codes "BEGIN") (codes "ATOM")
      ∷ (atom_lines ++ two (codes "END") (codes "ATOM") ∷ (bond_part ++ (others ++ two (codes "END") (codes "CTAB") ∷ [])))
  pub counted : counts_of_words counts_line ≡ Some (record { atoms = length atoms; bonds = length bonds })
  pub each_atom : map atom_of atom_lines ≡ map Some atoms
  pub new : AreNew [] atoms
  pub of_bonds : IsBondPart bond_part bonds ⊎ HasNoBondPart bond_part bonds
  -- none of the others ends the table
  pub passed : EachIs ends_table false others

-- The counts line, the logical lines, and `M  END`. The table is the twin of the atoms and bonds.
pub record IsV3000Table (lines : List Line) (table : RawTable) : Type 0 where
  pub counts_line : Line
  pub logical_lines : List Line
  pub last_line : Line
  pub whole : lines ≡ counts_line ∷ (logical_lines ++ last_line ∷ [])
  pub version : is_v3000 counts_line ≡ true
  pub words : List (List Word)
  pub each : Series IsLogicalLine logical_lines words
  pub atoms : List AtomLine
  pub bonds : List BondLine
  pub are : AreTable words atoms bonds
  pub ended : is_end_line last_line ≡ true
  pub twin : table ≡ twin_of atoms bonds

-- ---- fronts

-- The lines end inside a logical line: behind lines with which a table may go on by a line that
-- begins `M  V30 `, stand lines that begin so and go on.
pub record EndInside (lines : List Line) : Type 0 where
  pub counts_line : Line
  pub before : List Line
  pub begun : List Line
  pub next : Line
  pub whole : lines ≡ counts_line ∷ (before ++ begun)
  pub go_on : EachIs goes_on true begun
  pub logical : is_logical next ≡ true
  pub front : IsFront IsV3000Table (counts_line ∷ (before ++ next ∷ []))

-- some further lines, or none, make the lines a V3000 table; or they end inside a logical line,
-- whether or not that can still be mended
abbrev pub IsV3000Front : List Line → Type 0
IsV3000Front lines = IsFront IsV3000Table lines ⊎ EndInside lines
