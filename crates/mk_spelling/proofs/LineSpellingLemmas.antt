-- The lines before the properties: what is written so is read so.
use Rattle.std.proofs.Common.{◌≡◌, ℕ, zero, suc, ◌+◌, ◌-◌, ◌*◌, ◌<◌, ◌≤◌, Bool, true, false, eqb, List, [], ◌∷◌, ◌++◌, length, replicate, refl, sym, ap, ◌∙◌, arith, Option, Some, lit≤, All, subst}
use Rattle.std.specs.Prelude.{ℤ, pos, codes, decimal, slice_get}
use Rattle.std.specs.List.{flat_map, AllByRecursion}
use Rattle.std.proofs.lemmas.Fmt.{decimal_digit}
use Rattle.std.proofs.lemmas.Bool.{le-leb}
use Rattle.std.proofs.lemmas.List.{length-append, length-replicate}
use Rattle.std.proofs.lemmas.List.Elements.{recursion_from_All}
use Rattle.mk_text.specs.Columns.{columns, trimmed}
use Rattle.mk_text.specs.Fields.{field_of, field_in, digits_number}
use Rattle.mk_text.specs.Spelling.{right_in}
use Rattle.mk_text.proofs.ForCallers.{columns_between, right_justified_is_read, trimmed_padded}
use Rattle.mk_props.specs.Lists.{flag_text}
use Rattle.mk_text.specs.Options.{◌>>=◌, count_in, not_negative, entries_of}
use Rattle.mk_tables.specs.declared.raw.RawAtom.{RawAtom}
use Rattle.mk_tables.specs.declared.raw.RawBond.{RawBond}
use Rattle.mk_tables.specs.declared.raw.RawList.{RawList}
use Rattle.mk_tables.specs.declared.raw.RawTable.{RawTable}
use Rattle.mk_tables.specs.TableLines.{Line, word_of, natural_of, is_v2000_or_none, counts_of, atom_numbers_of, raw_atom_of, raw_bond_of, list_flag_of, list_count_of, list_numbers_of, list_of}
use Rattle.mk_spelling.specs.TableSpelling.{three, spaced, at_left, counts_line, atom_line, bond_line, numbers_line, FitsThree, AtomFits, BondFits, ListFits, IsSymbol}
use Rattle.mk_spelling.proofs.ThreeLemmas.{length-three, three_end, end_some, count_fits}
use Rattle.mk_spelling.proofs.StandingLemmas.{StandsBehind, first, alone, behind, within, text_at, read_at, length-spaced, spaced_read_at, entry_at}

-- ---- literal columns

-- a literal part of a line
literal_at : {line text : List ℕ} {n : ℕ} (i j a b : ℕ) → StandsBehind line n text → 1 ≤ i → i ≤ j → j ≤ length text → a ≡ n + i → b ≡ n + j → columns line a b ≡ columns text i j
literal_at {line} {text} {n} i j a b stands one order fits from to =
    ap (λ (k : ℕ). columns line k b) from ∙ ap (columns line (n + i)) to ∙ stands.same i j one order fits

-- ---- the counts line

-- what stands behind the three counts
abbrev counts_tail : List ℕ
counts_tail = codes "  0  0  0            999 V2000"

-- a count is a number from 0 on
natural_at : {line : List ℕ} {n : ℕ} (k a b : ℕ) → k ≤ 999 → StandsBehind line n (three (pos k)) → a ≡ n + 1 → b ≡ n + 3 → natural_of line a b ≡ Some k
unfolding natural_of
natural_at k a b few stands from to = ap (λ (o : Option ℤ). o >>= not_negative) (read_at (pos k) a b (count_fits k few) stands from to)

-- a zero in three columns
zero_in_three : field_in (codes "  0") ≡ Some (pos 0)
unfolding digits_number
zero_in_three = refl

-- a zero in two columns
zero_in_two : field_in (codes " 0") ≡ Some (pos 0)
unfolding digits_number
zero_in_two = refl

-- the chiral flag is 0
no_flag : field_in (columns counts_tail 4 6) ≡ Some (pos 0)
unfolding columns digits_number
no_flag = refl

-- so is the number of stext entries
no_stext : field_in (columns counts_tail 7 9) ≡ Some (pos 0)
unfolding columns digits_number
no_stext = refl

-- and the version is V2000
version : trimmed (columns counts_tail 25 30) ≡ codes "V2000"
unfolding columns
version = refl

-- a counts line is read as its counts
pub counts_are_read : (table : RawTable) → length table.atoms ≤ 999 → length table.bonds ≤ 999 → length table.lists ≤ 999
    → counts_of (counts_line table) ≡ Some (record { atoms = length table.atoms; bonds = length table.bonds; lists = length table.lists; stext = 0 })
unfolding counts_of counts_line natural_of field_of
counts_are_read table few_atoms few_bonds few_lists =
    let atoms = three (pos (length table.atoms)) in
    let bonds = three (pos (length table.bonds)) in
    let lists = three (pos (length table.lists)) in
    let line : Line = atoms ++ (bonds ++ (lists ++ counts_tail)) in
    let size_atoms : length atoms ≡ 3 = length-three (pos (length table.atoms)) (count_fits (length table.atoms) few_atoms) in
    let size_bonds : length bonds ≡ 3 = length-three (pos (length table.bonds)) (count_fits (length table.bonds) few_bonds) in
    let size_lists : length lists ≡ 3 = length-three (pos (length table.lists)) (count_fits (length table.lists) few_lists) in
    let tail : StandsBehind line 9 counts_tail = behind atoms 3 size_atoms (behind bonds 3 size_bonds (behind lists 3 size_lists (alone counts_tail))) in
    let one : natural_of line 1 3 ≡ Some (length table.atoms) = natural_at (length table.atoms) 1 3 few_atoms (first atoms (bonds ++ (lists ++ counts_tail))) refl refl in
    let two : natural_of line 4 6 ≡ Some (length table.bonds) = natural_at (length table.bonds) 4 6 few_bonds (behind atoms 3 size_atoms (first bonds (lists ++ counts_tail))) refl refl in
    let three : natural_of line 7 9 ≡ Some (length table.lists) =
    natural_at (length table.lists) 7 9 few_lists (behind atoms 3 size_atoms
    (behind bonds 3 size_bonds (first lists counts_tail))) refl refl in
    let flag : field_of line 13 15 ≡ Some (pos 0) = ap field_in (literal_at 4 6 13 15 tail (lit≤ tt) (lit≤ tt) (lit≤ tt) refl refl) ∙ no_flag in
    let stext : natural_of line 16 18 ≡ Some 0 = ap (λ (cells : List ℕ). field_in cells >>= not_negative)
    (literal_at 7 9 16 18 tail (lit≤ tt) (lit≤ tt) (lit≤ tt) refl refl)
    ∙ ap (λ (o : Option ℤ). o >>= not_negative) no_stext in
    let word : word_of line 34 39 ≡ codes "V2000" = ap trimmed (literal_at 25 30 34 39 tail (lit≤ tt) (lit≤ tt) (lit≤ tt) refl refl) ∙ version in
    let says : is_v2000_or_none line ≡ true = rw word refl in
    let some : eqb (length (word_of line 1 3)) 0 ≡ false =
    ap (λ (cells : List ℕ). eqb (length (trimmed cells)) 0) (text_at 3 1 3 (first atoms (bonds ++ (lists ++ counts_tail))) size_atoms (lit≤ tt) refl refl)
    ∙ end_some atoms (three_end (pos (length table.atoms)) (count_fits (length table.atoms) few_atoms)) in
    let read : counts_of line ≡ Some (record { atoms = length table.atoms; bonds = length table.bonds; lists = length table.lists; stext = 0 }) =
    rw (some, says, one, two, three, flag, stext) refl in
    read

-- ---- atom lines

-- the coordinates and the blank behind them
abbrev coordinates : List ℕ
coordinates = codes "    0.0000    0.0000    0.0000 "

-- a text that fits is as wide as its columns
pub length-at_left : (width : ℕ) (text : List ℕ) → length text ≤ width → length (at_left width text) ≡ width
unfolding at_left
length-at_left width text fits =
    omega (arith, length-append text (replicate (width - length text) 32), length-replicate {A = ℕ} (width - length text) 32)

-- the symbol is what is left without the blanks
pub trimmed-at_left : (width : ℕ) (text : List ℕ) → trimmed text ≡ text → trimmed (at_left width text) ≡ text
unfolding at_left
trimmed-at_left width text plain = trimmed_padded text (width - length text) ∙ plain

-- an atom line is read as its atom
pub atom_is_read : (atom : RawAtom) → AtomFits atom → IsSymbol 3 atom.symbol → raw_atom_of (atom_line atom) ≡ Some atom
unfolding raw_atom_of atom_numbers_of atom_line field_of
atom_is_read atom fits symbol =
    let text = at_left 3 atom.symbol in
    let charge = three atom.charge in
    let hydrogens = three atom.hydrogens in
    let valence = three atom.valence in
    let wide : length text ≡ 3 = length-at_left 3 atom.symbol symbol.fits in
    let wide_charge : length charge ≡ 3 = length-three atom.charge fits.charge in
    let wide_hydrogens : length hydrogens ≡ 3 = length-three atom.hydrogens fits.hydrogens in
    let from_valence : List ℕ = valence in
    let from_care : List ℕ = codes "  0" ++ from_valence in
    let from_hydrogens : List ℕ = hydrogens ++ from_care in
    let from_parity : List ℕ = codes "  0" ++ from_hydrogens in
    let from_charge : List ℕ = charge ++ from_parity in
    let from_mass : List ℕ = codes " 0" ++ from_charge in
    let from_symbol : List ℕ = text ++ from_mass in
    let line : Line = coordinates ++ from_symbol in
    let word : word_of line 32 34 ≡ atom.symbol =
    ap trimmed (text_at 3 32 34 (behind coordinates 31 refl (first text from_mass)) wide (lit≤ tt) refl refl) ∙ trimmed-at_left 3 atom.symbol symbol.no_blanks in
    let mass : field_of line 35 36 ≡ Some (pos 0) =
    ap field_in (text_at 2 35 36 (behind coordinates 31 refl (behind text 3 wide (first (codes " 0") from_charge))) refl (lit≤ tt) refl refl) ∙ zero_in_two in
    let read_charge : field_of line 37 39 ≡ Some atom.charge =
    read_at atom.charge 37 39 fits.charge (behind coordinates 31 refl (behind text 3 wide (behind (codes " 0") 2 refl (first charge from_parity)))) refl refl in
    let parity : field_of line 40 42 ≡ Some (pos 0) =
    ap field_in (text_at 3 40 42 (behind coordinates 31 refl
    (behind text 3 wide (behind (codes " 0") 2 refl
    (behind charge 3 wide_charge (first (codes "  0") from_hydrogens))))) refl (lit≤ tt) refl refl) ∙ zero_in_three
    in
    let read_hydrogens : field_of line 43 45 ≡ Some atom.hydrogens =
    read_at atom.hydrogens 43 45 fits.hydrogens (behind coordinates 31 refl
    (behind text 3 wide (behind (codes " 0") 2 refl
    (behind charge 3 wide_charge (behind (codes "  0") 3 refl (first hydrogens from_care)))))) refl refl in
    let care : field_of line 46 48 ≡ Some (pos 0) =
    ap field_in (text_at 3 46 48 (behind coordinates 31 refl
    (behind text 3 wide (behind (codes " 0") 2 refl
    (behind charge 3 wide_charge (behind (codes "  0") 3 refl
    (behind hydrogens 3 wide_hydrogens (first (codes "  0") from_valence))))))) refl (lit≤ tt) refl refl)
    ∙ zero_in_three in
    let read_valence : field_of line 49 51 ≡ Some atom.valence =
    read_at atom.valence 49 51 fits.valence (behind coordinates 31 refl
    (behind text 3 wide (behind (codes " 0") 2 refl
    (behind charge 3 wide_charge (behind (codes "  0") 3 refl
    (behind hydrogens 3 wide_hydrogens (behind (codes "  0") 3 refl (alone valence)))))))) refl refl in
    let read : raw_atom_of line ≡ Some atom = rw (mass, read_charge, parity, read_hydrogens, care, read_valence, word) refl in
    read

-- ---- bond lines

-- a bond line is read as its bond
pub bond_is_read : (bond : RawBond) → BondFits bond → raw_bond_of (bond_line bond) ≡ Some bond
unfolding raw_bond_of bond_line field_of
bond_is_read bond fits =
    let one = three bond.first in
    let two = three bond.second in
    let kind = three bond.kind in
    let topology = three bond.topology in
    let wide_one : length one ≡ 3 = length-three bond.first fits.first in
    let wide_two : length two ≡ 3 = length-three bond.second fits.second in
    let wide_kind : length kind ≡ 3 = length-three bond.kind fits.kind in
    let from_stereo : List ℕ = codes "  0  0" ++ topology in
    let from_kind : List ℕ = kind ++ from_stereo in
    let from_two : List ℕ = two ++ from_kind in
    let line : Line = one ++ from_two in
    let read_one : field_of line 1 3 ≡ Some bond.first = read_at bond.first 1 3 fits.first (first one from_two) refl refl in
    let read_two : field_of line 4 6 ≡ Some bond.second = read_at bond.second 4 6 fits.second (behind one 3 wide_one (first two from_kind)) refl refl in
    let read_kind : field_of line 7 9 ≡ Some bond.kind = read_at bond.kind 7 9 fits.kind (behind one 3 wide_one (behind two 3 wide_two (first kind from_stereo))) refl refl in
    let stereo : field_of line 10 12 ≡ Some (pos 0) =
    ap field_in (text_at 3 10 12 (behind one 3 wide_one (behind two 3 wide_two (behind kind 3 wide_kind (first (codes "  0") (codes "  0" ++ topology))))) refl (lit≤ tt) refl refl) ∙ zero_in_three in
    let read_topology : field_of line 16 18 ≡ Some bond.topology =
    read_at bond.topology 16 18 fits.topology (behind one 3 wide_one (behind two 3 wide_two (behind kind 3 wide_kind (behind (codes "  0  0") 6 refl (alone topology))))) refl refl in
    let read : raw_bond_of line ≡ Some bond = rw (read_one, read_two, read_kind, stereo, read_topology) refl in
    read

-- ---- atom-list lines

-- T or F is read again
flag_is_read : (line : Line) (not : Bool) → columns line 5 5 ≡ flag_text not → list_flag_of line ≡ Some not
unfolding list_flag_of
flag_is_read line true is = let word : word_of line 5 5 ≡ codes "T" = ap trimmed is in rw word refl
flag_is_read line false is = let word : word_of line 5 5 ≡ codes "F" = ap trimmed is in rw word refl

-- one digit is read again
digit_is_read : (n : ℕ) → n < 10 → field_in (decimal n) ≡ Some (pos n)
unfolding field_of
digit_is_read n small =
    let digit : decimal n ≡ (48 + n) ∷ [] = decimal_digit n small in
    let one : length (decimal n) ≡ 1 = ap length digit in
    let plain : right_in 1 n ≡ decimal n = ap (λ (k : ℕ). replicate (1 - k) 32 ++ decimal n) one in
    ap field_in (sym plain ∙ sym (columns_between [] (right_in 1 n) [] 1 1 refl (omega (arith, ap length plain)))) ∙ right_justified_is_read [] [] 1 n (omega arith) (omega arith)

-- a count from 1 to most passes
count_passes : (most n : ℕ) → 1 ≤ n → n ≤ most → count_in most (pos n) ≡ Some n
count_passes most n some few = rw (le-leb 1 n some, le-leb n most few) refl

-- T or F is one byte
pub length-flag : (not : Bool) → length (flag_text not) ≡ 1
length-flag true = refl
length-flag false = refl

-- entries that are read one by one are read
entries_are_read : {X : Type 0} (entry : ℕ → Option X) (i : ℕ) (xs : List X)
    → ((k : ℕ) (x : X) → slice_get xs k ≡ Some x → entry (i + k) ≡ Some x) → entries_of entry (length xs) i ≡ Some xs
entries_are_read entry i [] each = refl
entries_are_read entry i (x ∷ xs) each =
    let here : i ≡ i + 0 = omega arith in
    let one : entry i ≡ Some x = ap entry here ∙ each 0 x refl in
    let others = entries_are_read entry (i + 1) xs (λ k y is. let there : i + 1 + k ≡ i + suc k = omega arith in ap entry there ∙ each (suc k) y is) in
    rw (one, others) refl

-- the element at a place has what all have
pub at_place : {X : Type 0} (P : X → Type 0) (xs : List X) → AllByRecursion P xs → (i : ℕ) (x : X) → slice_get xs i ≡ Some x → P x
at_place P [] all i x is = absurd cc
at_place {X} P (y ∷ ys) all zero x is = let same : y ≡ x = cc in subst P same all.0
at_place P (y ∷ ys) all (suc i) x is = at_place P ys all.1 i x is

-- what holds of each holds by recursion
pub each_of : {X : Type 0} (P Q : X → Type 0) → ((x : X) → P x → Q x) → (xs : List X) → All P xs → AllByRecursion Q xs
each_of P Q gives xs all = recursion_from_All Q xs (λ k d lt. gives _ (all k d lt))

-- an atom-list line is read as its list
pub list_is_read : (list : RawList) → ListFits list → list_of (numbers_line list) ≡ Some list
unfolding list_of list_numbers_of list_count_of numbers_line field_of
list_is_read list fits =
    let atom = three list.atom in
    let flag = flag_text list.not in
    let n = length list.numbers in
    let entries : List ℕ = flat_map spaced list.numbers in
    let wide_atom : length atom ≡ 3 = length-three list.atom fits.atom in
    let wide_flag : length flag ≡ 1 = length-flag list.not in
    let small : n < 10 = omega (arith, fits.count.no_more) in
    let wide_count : length (decimal n) ≡ 1 = ap length (decimal_digit n small) in
    let from_count : List ℕ = decimal n ++ entries in
    let from_gap : List ℕ = codes "    " ++ from_count in
    let from_flag : List ℕ = flag ++ from_gap in
    let line : Line = atom ++ (codes " " ++ from_flag) in
    let read_atom : field_of line 1 3 ≡ Some list.atom = read_at list.atom 1 3 fits.atom (first atom (codes " " ++ from_flag)) refl refl in
    let read_flag : list_flag_of line ≡ Some list.not =
    flag_is_read line list.not (text_at 1 5 5 (behind atom 3 wide_atom (behind (codes " ") 1 refl (first flag from_gap))) wide_flag (lit≤ tt) refl refl) in
    let digit : columns line 10 10 ≡ decimal n =
    text_at 1 10 10 (behind atom 3 wide_atom (behind (codes " ") 1 refl (behind flag 1 wide_flag (behind (codes "    ") 4 refl (first (decimal n) entries))))) wide_count (lit≤ tt) refl refl in
    let count : list_count_of line ≡ Some n = ap (λ (cells : List ℕ). field_in cells >>= count_in 5) digit
    ∙ ap (λ (o : Option ℤ). o >>= count_in 5) (digit_is_read n small)
    ∙ count_passes 5 n fits.count.some fits.count.no_more in
    let stand : StandsBehind line 10 entries =
    behind atom 3 wide_atom (behind (codes " ") 1 refl (behind flag 1 wide_flag (behind (codes "    ") 4 refl (behind (decimal n) 1 wide_count (alone entries))))) in
    let wide_each : AllByRecursion (λ (z : ℤ). length (spaced z) ≡ 4) list.numbers = each_of FitsThree (λ (z : ℤ). length (spaced z) ≡ 4) length-spaced list.numbers fits.numbers in
    let each : (i : ℕ) (z : ℤ) → slice_get list.numbers i ≡ Some z → field_of line (12 + 4 * i) (14 + 4 * i) ≡ Some z =
    λ i z is.
    let fit : FitsThree z = at_place FitsThree list.numbers (recursion_from_All FitsThree list.numbers fits.numbers) i z is in
    let stands : StandsBehind (flat_map spaced list.numbers) (4 * i) (spaced z) = entry_at 4 spaced list.numbers wide_each i z is in
    spaced_read_at z (12 + 4 * i) (14 + 4 * i) fit (within (4 * i) stand stands) (omega arith) (omega arith) in
    let numbers : entries_of (λ i. field_of line (12 + 4 * i) (14 + 4 * i)) n 0 ≡ Some list.numbers =
    entries_are_read (λ i. field_of line (12 + 4 * i) (14 + 4 * i)) 0 list.numbers
    (λ k z is. let there : 0 + k ≡ k = omega arith in ap (λ (i : ℕ). field_of line (12 + 4 * i) (14 + 4 * i)) there
    ∙ each k z is) in
    let read : list_of line ≡ Some list = rw (read_atom, read_flag, count, numbers) refl in
    read
