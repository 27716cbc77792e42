-- How many bytes the text of a drilled table has, and how many are kept of it.
use Rattle.std.proofs.Common.{[], ◌∷◌, ◌++◌, ◌≡◌, ℕ, suc, ◌+◌, ◌*◌, ◌-◌, ◌≤◌, Bool, true, false, cond, eqb, List, length, get_or, map, replicate, arith, ap, lit≤}
use Rattle.std.specs.Prelude.{All, pos}
use Rattle.std.specs.List.{AllByRecursion, suffix_len}
use Rattle.std.proofs.lemmas.List.{length-append, length-take, length-replicate, length-map}
use Rattle.std.proofs.lemmas.List.Elements.{All-append, All-cons, All-map, All-nil, recursion_from_All}
use Rattle.mk_text.specs.KeptLines.{is_cr, kept_lines, without_crs}
use Rattle.mk_text.specs.Lines.{ended, lines_of, onto_first_piece, pieces, text_of, without_cr}
use Rattle.mk_tables.specs.declared.raw.RawAtom.{RawAtom}
use Rattle.mk_tables.specs.declared.raw.RawBond.{RawBond}
use Rattle.mk_tables.specs.declared.raw.RawTable.{RawTable}
use Rattle.mk_spelling.specs.TableSpelling.{AtomFits, BondFits, CanBeSpelt, IsSymbol, at_left, atom_line, bond_line, counts_line, end_line, numbers_line, property_line, table_spelling, table_lines}
use Rattle.mk_spelling.proofs.ThreeLemmas.{count_fits, length-three}
use Rattle.mk_drill.proofs.DrilledChecksLemmas.{of_none}
use Rattle.mk_drill.specs.DrilledRecords.{drilled_text, record_text}

-- ---- kept lines

-- the text of some lines has one byte more a line than they have together
size_of : (line : List ℕ) (lines : List (List ℕ)) → length (text_of (line ∷ lines)) ≡ (length line + 1) + length (text_of lines)
size_of line lines = omega (arith, length-append (ended line) (text_of lines), length-append line (10 ∷ []))

onto_first : (c n : ℕ) (others : List (List ℕ)) → length (text_of others) ≤ n + 1 → length (text_of (onto_first_piece c others)) ≤ suc n + 1
onto_first c n [] few = omega arith
onto_first c n (piece ∷ others) few = omega (arith, size_of (c ∷ piece) others, size_of piece others)

pieces_at : (b : Bool) (c n : ℕ) (others : List (List ℕ)) → length (text_of others) ≤ n + 1 → length (text_of (cond b ([] ∷ others) (onto_first_piece c others))) ≤ suc n + 1
pieces_at true c n others few = omega (arith, size_of [] others)
pieces_at false c n others few = onto_first c n others few

-- the text of a text's pieces has at most one byte more
pieces_size : (text : List ℕ) → length (text_of (pieces text)) ≤ length text + 1
pieces_size [] = omega arith
pieces_size (c ∷ text) = pieces_at (eqb c 10) c (length text) (pieces text) (pieces_size text)

shorter_at : (b : Bool) (c : ℕ) → length (cond b [] (c ∷ [])) ≤ 1
shorter_at true c = omega arith
shorter_at false c = omega arith

shorter : (line : List ℕ) → length (without_cr line) ≤ length line
shorter [] = omega arith
shorter (c ∷ []) = shorter_at (eqb c 13) c
shorter (c ∷ d ∷ line) = let rest = shorter (d ∷ line) in omega (arith, rest)

lines_size : (ps : List (List ℕ)) → length (kept_lines (map without_cr ps)) ≤ length (text_of ps)
lines_size [] = omega arith
lines_size (piece ∷ ps) =
    let line = without_cr piece in
    omega (arith, size_of (without_crs line) (map without_crs (map without_cr ps)), size_of piece ps, lines_size ps, shorter piece, length-take (length line - suffix_len is_cr line) line)

-- so have the kept lines of a text
pub kept_size : (text : List ℕ) → length (kept_lines (lines_of text)) ≤ length text + 1
unfolding lines_of
kept_size text = omega (arith, lines_size (pieces text), pieces_size text)

-- ---- the lines of a table

left_size : (symbol : List ℕ) → length symbol ≤ 3 → length (at_left 3 symbol) ≡ 3
unfolding at_left
left_size symbol short = omega (arith, length-append symbol (replicate (3 - length symbol) 32), length-replicate {A = ℕ} (3 - length symbol) 32)

atom_size : (atom : RawAtom) → AtomFits atom → IsSymbol 3 atom.symbol → length (atom_line atom) ≤ 59
unfolding atom_line
atom_size atom fits symbol =
    let left = left_size atom.symbol symbol.fits in
    let charge = length-three atom.charge fits.charge in
    let hydrogens = length-three atom.hydrogens fits.hydrogens in
    let valence = length-three atom.valence fits.valence in
    simp length-append (omega (arith, left, charge, hydrogens, valence))

bond_size : (bond : RawBond) → BondFits bond → length (bond_line bond) ≤ 59
unfolding bond_line
bond_size bond fits =
    let first = length-three bond.first fits.first in
    let second = length-three bond.second fits.second in
    let kind = length-three bond.kind fits.kind in
    let topology = length-three bond.topology fits.topology in
    simp length-append (omega (arith, first, second, kind, topology))

counts_size : (table : RawTable) → CanBeSpelt table → length (counts_line table) ≤ 59
unfolding counts_line
counts_size table can =
    let atoms = length-three (pos (length table.atoms)) (count_fits (length table.atoms) can.few_atoms) in
    let bonds = length-three (pos (length table.bonds)) (count_fits (length table.bonds) can.few_bonds) in
    let lists = length-three (pos (length table.lists)) (count_fits (length table.lists) can.few_lists) in
    simp length-append (omega (arith, atoms, bonds, lists))

-- ---- the text of a table

abbrev IsShort : List ℕ → Type 0
IsShort line = length line ≤ 59

-- short lines have so many bytes at most
short_size : (lines : List (List ℕ)) → AllByRecursion IsShort lines → length (text_of lines) ≤ 60 * length lines
short_size [] short = omega arith
short_size (line ∷ lines) short = omega (arith, size_of line lines, short.0, short_size lines short.1)

are_short : (table : RawTable) → CanBeSpelt table → table.lists ≡ [] → table.props ≡ [] → All IsShort (table_lines table)
are_short table can no_lists no_properties =
    let bonds = map bond_line table.bonds in
    let lists = map numbers_line table.lists in
    let properties = map property_line table.props in
    All-cons IsShort (counts_line table) _ (counts_size table can)
    (All-append IsShort (map atom_line table.atoms) (bonds ++ (lists ++ (properties ++ end_line ∷ [])))
    (All-map IsShort atom_line table.atoms (λ k d below. atom_size (get_or table.atoms k d) (can.atoms k d below) (can.symbols k d below)))
    (All-append IsShort bonds (lists ++ (properties ++ end_line ∷ []))
    (All-map IsShort bond_line table.bonds (λ k d below. bond_size (get_or table.bonds k d) (can.bonds k d below)))
    (All-append IsShort lists (properties ++ end_line ∷ [])
    (All-map IsShort numbers_line table.lists (of_none (λ list. IsShort (numbers_line list)) table.lists no_lists))
    (All-append IsShort properties (end_line ∷ [])
    (All-map IsShort property_line table.props (of_none (λ property. IsShort (property_line property)) table.props no_properties))
    (All-cons IsShort end_line [] (lit≤ tt) (All-nil IsShort))))))

count_lines : (table : RawTable) → table.lists ≡ [] → table.props ≡ [] → length (table_lines table) ≡ length table.atoms + length table.bonds + 2
count_lines table no_lists no_properties =
    let lists : length table.lists ≡ 0 = ap length no_lists in
    let properties : length table.props ≡ 0 = ap length no_properties in
    simp (length-append, length-map) (omega (arith, lists, properties))

-- the spelling of a table with few atoms and bonds and nothing else
pub spelling_size : (table : RawTable) → CanBeSpelt table → table.lists ≡ [] → table.props ≡ [] → length table.atoms + length table.bonds ≤ 40 → length (table_spelling table) ≤ 2520
unfolding table_spelling
spelling_size table can no_lists no_properties few =
    let size = short_size (table_lines table) (recursion_from_All IsShort (table_lines table) (are_short table can no_lists no_properties)) in
    omega (arith, size, count_lines table no_lists no_properties)

-- the text that is loaded
pub text_size : (table : RawTable) → length (table_spelling table) ≤ 2520 → length (drilled_text table) ≤ 2523
unfolding drilled_text
text_size table few = omega arith

-- and the text that is kept
pub record_size : (table : RawTable) → length (drilled_text table) ≤ 2523 → length (record_text table) ≤ 2524
unfolding record_text
record_size table few = omega (arith, kept_size (drilled_text table))
