-- Tables of a few lines, computed.
use Rattle.std.proofs.Common.{◌≡◌, true, false, [], ◌∷◌, refl}
use Rattle.std.specs.Prelude.{codes, pos}
use Rattle.mk_form.specs.Reading.{Took, Stop}
use Rattle.mk_text.specs.Columns.{columns}
use Rattle.mk_text.specs.Fields.{field_of, digits_number}
use Rattle.mk_props.specs.Reading.{cell_of, property_of, letter_line_of, m_line_of}
use Rattle.mk_tables.specs.TableLines.{natural_of, counts_of, atom_numbers_of, raw_atom_of, raw_bond_of}
use Rattle.mk_tables.specs.TableReading.{table_with, table_at}

-- a table without atoms, and a line behind it
empty_table : table_at (codes "  0" ∷ codes "M  END" ∷ codes "x" ∷ []) ≡ Took (table_with [] [] [] []) (codes "x" ∷ [])
unfolding table_at counts_of natural_of field_of digits_number columns property_of letter_line_of m_line_of cell_of
empty_table = refl

-- an atom and a bond, and two lines that are passed over, one of which looks like the end
one_atom : table_at (codes "  1  1" ∷ codes "                               Cl   3" ∷ codes "  1  1  2" ∷ codes
    "A" ∷ codes "M  END" ∷ codes "M  END" ∷ []) ≡ Took (table_with
    (record { symbol = codes "Cl"; charge = pos 3; hydrogens = pos 0; valence = pos 0 } ∷ [])
    (record { first = pos 1; second = pos 1; kind = pos 2; topology = pos 0 } ∷ []) [] []) []
unfolding table_at counts_of natural_of raw_atom_of atom_numbers_of raw_bond_of field_of digits_number columns property_of letter_line_of m_line_of cell_of
one_atom = refl

-- the bond line is missing
cut_table : table_at (codes "  0  1" ∷ []) ≡ Stop false []
unfolding table_at counts_of natural_of field_of digits_number columns
cut_table = refl

-- a line of another version
other_version : table_at (codes "  0  0  0     0  0            999 V3000" ∷ codes "x" ∷ []) ≡ Stop true (codes "  0  0  0     0  0            999 V3000" ∷ codes "x" ∷ [])
unfolding table_at counts_of natural_of field_of digits_number columns
other_version = refl
