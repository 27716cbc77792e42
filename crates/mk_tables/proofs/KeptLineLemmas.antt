-- Lines before the properties, without the CR bytes at their ends, spell the same.
use Rattle.std.proofs.Common.{◌≡◌, ℕ, zero, suc, ◌+◌, ◌*◌, ◌≤◌, Bool, true, false, cond, not, ◌&&◌, ◌||◌, eqb, List, [], ◌∷◌, ◌++◌, length, Option, Some, None, refl, sym, ap, subst, ◌∙◌, arith, lit≤}
use Rattle.std.specs.Prelude.{ℤ, codes, bytes_eq}
use Rattle.std.specs.List.{list_all}
use Rattle.std.proofs.lemmas.List.{nil_from_length}
use Rattle.std.proofs.lemmas.List.Folds.{list_all-append}
use Rattle.std.proofs.lemmas.Bool.{eqb-true}
use Rattle.std.proofs.lemmas.Slice.Eq.{bytes_eq-Decides}
use Rattle.mk_text.specs.Columns.{standing, trimmed}
use Rattle.mk_text.specs.Fields.{field_of}
use Rattle.mk_text.specs.KeptLines.{without_crs}
use Rattle.mk_text.specs.Lines.{EndsWith}
use Rattle.mk_text.specs.Options.{◌>>=◌, entries_of, count_in, not_negative}
use Rattle.mk_text.proofs.ForCallers.{both, both_read, columns_field, columns_left, ends_not, field_found, field_same, standing_all, test_passed}
use Rattle.mk_tables.specs.declared.raw.RawAtom.{RawAtom}
use Rattle.mk_tables.specs.declared.raw.RawBond.{RawBond}
use Rattle.mk_tables.specs.declared.raw.RawList.{RawList}
use Rattle.mk_tables.specs.declared.table_lines.CountsLine.{CountsLine}
use Rattle.mk_tables.specs.declared.table_lines.AtomNumbers.{AtomNumbers}
use Rattle.mk_tables.specs.TableLines.{Line, word_of, natural_of, is_v2000_or_none, counts_of, is_coordinate, atom_numbers_of, raw_atom_of, raw_bond_of, list_flag_of, list_count_of, list_numbers_of, list_of}

-- ---- parts

-- a number from 0 on
natural_same : (line : Line) (a b n : ℕ) → 1 ≤ a → a ≤ b → natural_of line a b ≡ Some n → natural_of (without_crs line) a b ≡ natural_of line a b
unfolding natural_of
natural_same line a b n first order read =
    let h = both_read (field_of line a b) not_negative n read in
    ap (λ (o : Option ℤ). o >>= not_negative) (field_same line a b h.0 first order h.1)

-- the word of columns that hold one
natural_word : (line : Line) (a b n : ℕ) → 1 ≤ a → a ≤ b → natural_of line a b ≡ Some n → word_of (without_crs line) a b ≡ word_of line a b
unfolding natural_of
natural_word line a b n first order read =
    let h = both_read (field_of line a b) not_negative n read in
    ap trimmed (columns_field line a b h.0 first order (field_found line a b h.0 h.1))

-- a word that is this text
text_same : (line : Line) (a b : ℕ) (text : List ℕ) → 1 ≤ a → a ≤ b → (EndsWith 13 text → ⊥) → word_of line a b ≡ text → word_of (without_crs line) a b ≡ word_of line a b
text_same line a b text first order other is =
    let P : List ℕ → Type 0 = λ word. EndsWith 13 word → ⊥ in
    ap trimmed (columns_left line a b first order (subst P (sym is) other))

-- ---- the counts line

-- the version
version_same : (line : Line) → is_v2000_or_none line ≡ true → word_of (without_crs line) 34 39 ≡ word_of line 34 39
version_same line is = by_tests (eqb (length (word_of line 34 39)) 0) refl (bytes_eq (word_of line 34 39) (codes "V2000")) refl is
  where
    by_tests : (none : Bool) → eqb (length (word_of line 34 39)) 0 ≡ none → (version : Bool)
        → bytes_eq (word_of line 34 39) (codes "V2000") ≡ version → (none || version) ≡ true
        → word_of (without_crs line) 34 39 ≡ word_of line 34 39
    by_tests true e version f is = text_same line 34 39 [] (lit≤ tt) (lit≤ tt) (ends_not [] 13 refl) (nil_from_length (word_of line 34 39) (eqb-true (length (word_of line 34 39)) 0 e))
    by_tests false e true f is = text_same line 34 39 (codes "V2000") (lit≤ tt) (lit≤ tt) (ends_not (codes "V2000") 13 refl) ((bytes_eq-Decides (word_of line 34 39) (codes "V2000")).0 f)
    by_tests false e false f is = absurd cc

pub counts_left : (line : Line) (counts : CountsLine) → counts_of line ≡ Some counts → counts_of (without_crs line) ≡ Some counts
unfolding counts_of
counts_left line counts read =
    let passed = test_passed (not (eqb (length (word_of line 1 3)) 0) && is_v2000_or_none line) _ counts read in
    let version = (both (not (eqb (length (word_of line 1 3)) 0)) (is_v2000_or_none line) passed.0).1 in
    let atoms = both_read _ _ counts passed.1 in
    let bonds = both_read _ _ counts atoms.2 in
    let lists = both_read _ _ counts bonds.2 in
    let chiral = both_read _ _ counts lists.2 in
    let stext = both_read _ _ counts chiral.2 in
    rw (
      natural_word line 1 3 atoms.0 (lit≤ tt) (lit≤ tt) atoms.1,
      version_same line version,
      natural_same line 1 3 atoms.0 (lit≤ tt) (lit≤ tt) atoms.1,
      natural_same line 4 6 bonds.0 (lit≤ tt) (lit≤ tt) bonds.1,
      natural_same line 7 9 lists.0 (lit≤ tt) (lit≤ tt) lists.1,
      field_same line 13 15 chiral.0 (lit≤ tt) (lit≤ tt) chiral.1,
      natural_same line 16 18 stext.0 (lit≤ tt) (lit≤ tt) stext.1,
    ) read

-- ---- atom lines

numbers_left : (line : Line) (numbers : AtomNumbers) → atom_numbers_of line ≡ Some numbers → atom_numbers_of (without_crs line) ≡ Some numbers
unfolding atom_numbers_of
numbers_left line numbers read =
    let mass = both_read _ _ numbers read in
    let charge = both_read _ _ numbers mass.2 in
    let parity = both_read _ _ numbers charge.2 in
    let hydrogens = both_read _ _ numbers parity.2 in
    let care = both_read _ _ numbers hydrogens.2 in
    let valence = both_read _ _ numbers care.2 in
    rw (
      field_same line 35 36 mass.0 (lit≤ tt) (lit≤ tt) mass.1,
      field_same line 37 39 charge.0 (lit≤ tt) (lit≤ tt) charge.1,
      field_same line 40 42 parity.0 (lit≤ tt) (lit≤ tt) parity.1,
      field_same line 43 45 hydrogens.0 (lit≤ tt) (lit≤ tt) hydrogens.1,
      field_same line 46 48 care.0 (lit≤ tt) (lit≤ tt) care.1,
      field_same line 49 51 valence.0 (lit≤ tt) (lit≤ tt) valence.1,
    ) read

-- what the front of a list passes
front_passes : (p : ℕ → Bool) (xs ys : List ℕ) → list_all p (xs ++ ys) ≡ true → list_all p xs ≡ true
front_passes p xs ys all = (both (list_all p xs) (list_all p ys) (sym (list_all-append p xs ys) ∙ all)).0

pub atom_left : (line : Line) (atom : RawAtom) → (EndsWith 13 atom.symbol → ⊥) → raw_atom_of line ≡ Some atom → raw_atom_of (without_crs line) ≡ Some atom
unfolding raw_atom_of
atom_left line atom end read =
    let passed = test_passed (list_all is_coordinate (standing line 1 30)) _ atom read in
    let numbers = both_read _ _ atom passed.1 in
    let whole : record { symbol = word_of line 32 34; charge = numbers.0.charge; hydrogens = numbers.0.hydrogens; valence = numbers.0.valence } ≡ atom = cc in
    let symbol : atom.symbol ≡ word_of line 32 34 = sym (ap (λ (a : RawAtom). a.symbol) whole) in
    let same = text_same line 32 34 atom.symbol (lit≤ tt) (lit≤ tt) end (sym symbol) in
    let coordinates = standing_all is_coordinate line 1 30 (front_passes is_coordinate) passed.0 in
    rw (coordinates, numbers_left line numbers.0 numbers.1, same) (ap Some whole)

-- ---- bond lines

pub bond_left : (line : Line) (bond : RawBond) → raw_bond_of line ≡ Some bond → raw_bond_of (without_crs line) ≡ Some bond
unfolding raw_bond_of
bond_left line bond read =
    let first = both_read _ _ bond read in
    let second = both_read _ _ bond first.2 in
    let kind = both_read _ _ bond second.2 in
    let stereo = both_read _ _ bond kind.2 in
    let topology = both_read _ _ bond stereo.2 in
    rw (
      field_same line 1 3 first.0 (lit≤ tt) (lit≤ tt) first.1,
      field_same line 4 6 second.0 (lit≤ tt) (lit≤ tt) second.1,
      field_same line 7 9 kind.0 (lit≤ tt) (lit≤ tt) kind.1,
      field_same line 10 12 stereo.0 (lit≤ tt) (lit≤ tt) stereo.1,
      field_same line 16 18 topology.0 (lit≤ tt) (lit≤ tt) topology.1,
    ) read

-- ---- atom-list lines

-- the flag
flag_left : (line : Line) (flag : Bool) → list_flag_of line ≡ Some flag → list_flag_of (without_crs line) ≡ Some flag
unfolding list_flag_of
flag_left line flag read = by_tests (bytes_eq (word_of line 5 5) (codes "T")) refl (bytes_eq (word_of line 5 5) (codes "F")) refl read
  where
    by_tests : (yes_t : Bool) → bytes_eq (word_of line 5 5) (codes "T") ≡ yes_t → (yes_f : Bool) → bytes_eq (word_of line 5 5) (codes "F") ≡ yes_f
        → cond yes_t (Some true) (cond yes_f (Some false) None) ≡ Some flag
        → cond (bytes_eq (word_of (without_crs line) 5 5) (codes "T")) (Some true) (cond (bytes_eq (word_of (without_crs line) 5 5) (codes "F")) (Some false) None) ≡ Some flag
    by_tests true e yes_f f read =
        let same = text_same line 5 5 (codes "T") (lit≤ tt) (lit≤ tt) (ends_not (codes "T") 13 refl) ((bytes_eq-Decides (word_of line 5 5) (codes "T")).0 e) in
        rw (same, e) read
    by_tests false e true f read =
        let same = text_same line 5 5 (codes "F") (lit≤ tt) (lit≤ tt) (ends_not (codes "F") 13 refl) ((bytes_eq-Decides (word_of line 5 5) (codes "F")).0 f) in
        rw (same, e, f) read
    by_tests false e false f read = absurd cc

-- entries that are read one by one
entries_left : {X : Type 0} (f g : ℕ → Option X) → ((i : ℕ) (x : X) → f i ≡ Some x → g i ≡ Some x) → (n i : ℕ) (xs : List X) → entries_of f n i ≡ Some xs → entries_of g n i ≡ Some xs
entries_left f g each zero i xs read = read
entries_left f g each (suc n) i xs read =
    let first = both_read (f i) (λ x. entries_of f n (i + 1) >>= λ ys. Some (x ∷ ys)) xs read in
    let others = both_read (entries_of f n (i + 1)) (λ ys. Some (first.0 ∷ ys)) xs first.2 in
    rw (each i first.0 first.1, entries_left f g each n (i + 1) others.0 others.1) others.2

list_numbers_left : (line : Line) (numbers : List ℤ) → list_numbers_of line ≡ Some numbers → list_numbers_of (without_crs line) ≡ Some numbers
unfolding list_numbers_of list_count_of
list_numbers_left line numbers read =
    let count = both_read (field_of line 10 10 >>= count_in 5) (λ n. entries_of (λ i. field_of line (12 + 4 * i) (14 + 4 * i)) n 0) numbers read in
    let field = both_read (field_of line 10 10) (count_in 5) count.0 count.1 in
    let same = field_same line 10 10 field.0 (lit≤ tt) (lit≤ tt) field.1 in
    rw (same, count.1)
    (entries_left (λ i. field_of line (12 + 4 * i) (14 + 4 * i)) (λ i. field_of (without_crs line) (12 + 4 * i) (14 + 4 * i))
    (λ i z here. field_same line (12 + 4 * i) (14 + 4 * i) z (omega arith) (omega arith) here ∙ here) count.0 0 numbers count.2)

pub list_left : (line : Line) (list : RawList) → list_of line ≡ Some list → list_of (without_crs line) ≡ Some list
unfolding list_of
list_left line list read =
    let atom = both_read _ _ list read in
    let flag = both_read _ _ list atom.2 in
    let numbers = both_read _ _ list flag.2 in
    rw (field_same line 1 3 atom.0 (lit≤ tt) (lit≤ tt) atom.1 ∙ atom.1, flag_left line flag.0 flag.1, list_numbers_left line numbers.0 numbers.1) numbers.2
