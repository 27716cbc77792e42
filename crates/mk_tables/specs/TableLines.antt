-- The lines of a table before its properties, one by one, by their columns.
--     is_v3000 line        columns 34 to 39 say V3000
--     counts_of line       the numbers of a counts line, or None
--     raw_atom_of line     the atom of an atom line, or None
--     raw_bond_of line     the bond of a bond line, or None
--     list_of line         the list of an atom-list line, or None
use Rattle.std.specs.Prelude.{ℕ, ◌+◌, ◌*◌, ◌==◌, ◌&&◌, ◌||◌, not, Bool, true, false, List, length, Option, Some, None, ℤ, codes, bytes_eq, if◌then◌else◌}
use Rattle.std.specs.List.{list_all}
use Rattle.std.specs.Char.{is_ascii_digit}
use Rattle.mk_text.specs.Columns.{columns, standing, trimmed}
use Rattle.mk_text.specs.Fields.{field_of}
use Rattle.mk_text.specs.Options.{◌>>=◌, when, count_in, not_negative, entries_of}
use Rattle.mk_tables.specs.declared.raw.RawAtom.{RawAtom}
use Rattle.mk_tables.specs.declared.raw.RawBond.{RawBond}
use Rattle.mk_tables.specs.declared.raw.RawList.{RawList}
use Rattle.mk_tables.specs.declared.table_lines.CountsLine.{CountsLine}
use Rattle.mk_tables.specs.declared.table_lines.AtomNumbers.{AtomNumbers}

-- a line is its bytes
abbrev pub Line : Type 0
Line = List ℕ

-- the columns without their outer blanks
abbrev pub word_of : Line → ℕ → ℕ → List ℕ
word_of line a b = trimmed (columns line a b)

-- the number of a field that isn't below 0
unfoldable pub natural_of : Line → ℕ → ℕ → Option ℕ
natural_of line a b = field_of line a b >>= not_negative

-- ---- the counts line

-- columns 34 to 39 say V3000
abbrev pub is_v3000 : Line → Bool
is_v3000 line = bytes_eq (word_of line 34 39) (codes "V3000")

-- columns 34 to 39 say V2000 or nothing
abbrev pub is_v2000_or_none : Line → Bool
is_v2000_or_none line = (length (word_of line 34 39) == 0) || bytes_eq (word_of line 34 39) (codes "V2000")

-- 1-3 atoms, not all blank, 4-6 bonds, 7-9 atom lists, 13-15 chiral flag, 16-18 stext entries,
-- 34-39 the version; only the flag may be negative
unfoldable pub counts_of : Line → Option CountsLine
counts_of line =
    when (not (length (word_of line 1 3) == 0) && is_v2000_or_none line)
    (natural_of line 1 3 >>= λ atoms.
    natural_of line 4 6 >>= λ bonds.
    natural_of line 7 9 >>= λ lists.
    field_of line 13 15 >>= λ chiral.
    natural_of line 16 18 >>= λ stext.
    Some (record { atoms = atoms; bonds = bonds; lists = lists; stext = stext }))

-- ---- the atom line

-- a digit, a sign, a point or a blank
abbrev pub is_coordinate : ℕ → Bool
is_coordinate c = is_ascii_digit c || ((c == 43) || ((c == 45) || ((c == 46) || (c == 32))))

-- 35-36 mass difference, 37-39 charge, 40-42 parity, 43-45 hydrogens, 46-48 stereo care, 49-51
-- valence
unfoldable pub atom_numbers_of : Line → Option AtomNumbers
atom_numbers_of line =
    field_of line 35 36 >>= λ mass.
    field_of line 37 39 >>= λ charge.
    field_of line 40 42 >>= λ parity.
    field_of line 43 45 >>= λ hydrogens.
    field_of line 46 48 >>= λ care.
    field_of line 49 51 >>= λ valence.
    Some (record { charge = charge; hydrogens = hydrogens; valence = valence })

-- 1-30 the coordinates, 32-34 the symbol without its outer blanks, and the numbers behind it
unfoldable pub raw_atom_of : Line → Option RawAtom
raw_atom_of line =
    when (list_all is_coordinate (standing line 1 30))
    (atom_numbers_of line >>= λ numbers.
    Some (record { symbol = word_of line 32 34; charge = numbers.charge; hydrogens = numbers.hydrogens; valence = numbers.valence }))

-- ---- the bond line

-- 1-3 and 4-6 the atoms, 7-9 the type, 10-12 the stereo, 16-18 the topology
unfoldable pub raw_bond_of : Line → Option RawBond
raw_bond_of line =
    field_of line 1 3 >>= λ first.
    field_of line 4 6 >>= λ second.
    field_of line 7 9 >>= λ kind.
    field_of line 10 12 >>= λ stereo.
    field_of line 16 18 >>= λ topology.
    Some (record { first = first; second = second; kind = kind; topology = topology })

-- ---- the atom-list line

-- column 5: `T` is true and `F` is false
unfoldable pub list_flag_of : Line → Option Bool
list_flag_of line =
    if bytes_eq (word_of line 5 5) (codes "T") then Some true
    else (if bytes_eq (word_of line 5 5) (codes "F") then Some false else None)

-- column 10: a number from 1 to 5
unfoldable pub list_count_of : Line → Option ℕ
list_count_of line = field_of line 10 10 >>= count_in 5

-- 12-14, 16-18, 20-22, 24-26, 28-30: so many atomic numbers
unfoldable pub list_numbers_of : Line → Option (List ℤ)
list_numbers_of line = list_count_of line >>= λ n. entries_of (λ i. field_of line (12 + 4 * i) (14 + 4 * i)) n 0

-- 1-3 the atom, 5 the flag, 10 the count, and from 12 on the atomic numbers
unfoldable pub list_of : Line → Option RawList
list_of line =
    field_of line 1 3 >>= λ atom.
    list_flag_of line >>= λ not.
    list_numbers_of line >>= λ numbers.
    Some (record { atom = atom; not = not; numbers = numbers })
