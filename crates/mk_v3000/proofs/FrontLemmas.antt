-- What is live in the parts of a V3000 table is a front of one, or ends inside a logical line; and the other way round.
use Rattle.std.proofs.Common.{◌≡◌, ℕ, zero, suc, ◌+◌, ◌-◌, ◌^◌, ◌≤◌, ◌<◌, Bool, true, false, not, ◌&&◌, eqb, cond, get_or, le-leb, Option, Some, None, List, [], ◌∷◌, ◌++◌, map, length, take, drop, refl, sym, ap, subst, ◌∙◌, append_assoc, append-nil, inl, inr, arith}
use Rattle.std.specs.Prelude.{ℤ, pos, codes, decimal, reverse, ◌⊎◌}
use Rattle.std.specs.List.{list_all, suffix_len}
use Rattle.std.proofs.lemmas.List.{length-append, reverse-append, get_or-append_right, take_all}
use Rattle.mk_form.specs.Exact.{Part, Exact, Anything}
use Rattle.mk_form.specs.Fronts.{IsFront}
use Rattle.mk_form.specs.Joined.{Joined, UpToJoined}
use Rattle.mk_form.specs.Rows.{Series}
use Rattle.mk_form.specs.Sequence.{sequence}
use Rattle.mk_form.specs.ToEnd.{EachIs}
use Rattle.mk_form.proofs.Cuts.{no_line, no_front, split_two}
use Rattle.mk_form.proofs.Lines.{passes, does_pass}
use Rattle.mk_form.proofs.Fronts.{front_is_live}
use Rattle.mk_text.specs.Columns.{columns}
use Rattle.mk_text.specs.Fields.{field_of, digits_number}
use Rattle.mk_text.specs.Lines.{words_of}
use Rattle.mk_tables.specs.declared.raw.RawTable.{RawTable}
use Rattle.mk_tables.specs.TableLines.{Line, is_v3000}
use Rattle.mk_v3000.specs.declared.word_lines.PartCounts.{PartCounts}
use Rattle.mk_v3000.specs.declared.word_lines.AtomLine.{AtomLine}
use Rattle.mk_v3000.specs.declared.word_lines.BondLine.{BondLine}
use Rattle.mk_v3000.specs.declared.walk.Phase.{Phase}
use Rattle.mk_v3000.specs.declared.walk.Phase.TheVariants as phase
use Rattle.mk_v3000.specs.declared.walk.Walk.{Walk}
use Rattle.mk_v3000.specs.LogicalLines.{Word, is_logical, is_blank_or_cr, text_behind, ends_with_dash, piece_of, goes_on, closes, words_in, IsLogicalLine}
use Rattle.mk_v3000.specs.Twin.{has_index}
use Rattle.mk_v3000.specs.V3000Table.{two, IsV3000Table, EndInside, IsV3000Front, ends_table, is_end_line}
use Rattle.mk_v3000.specs.Walk.{first_walk, moved, counted, with_atom, with_bond, behind_atoms, step_at, step, is_done, IsFew}
use Rattle.mk_v3000.specs.Walking.{one_step, no_step, unless_done, walks, walk_part, behind_counts, v3000_part}
use Rattle.mk_v3000.specs.WordLines.{number_of, count_of, counts_of_words, atom_with, atom_of, bond_of}
use Rattle.mk_v3000.proofs.FreshLemmas.{Free, free, Spells, spelt}
use Rattle.mk_v3000.proofs.RunLemmas.{Runs, walks_from, zero_test, some_test}
use Rattle.mk_v3000.proofs.TableLemmas.{to_table, from_table}
use Rattle.mk_v3000.proofs.WalkingLemmas.{exact-v3000_part}
use Rattle.mk_v3000.proofs.WordLemmas.{is_other, words_first}

-- ---- a line of each kind

-- a line by itself is a logical line
alone : (line : Line) (words : List Word) → goes_on line ≡ false → closes line ≡ true → words_in (line ∷ []) ≡ words → IsLogicalLine (line ∷ []) words
alone line words ends closed is = record { firsts = []; last = line; whole = refl; go_on = tt; ends = ends; closed = closed; spells = ap Some is }

begin_table : IsLogicalLine (codes "M  V30 BEGIN CTAB" ∷ []) (two (codes "BEGIN") (codes "CTAB"))
unfolding is_logical text_behind ends_with_dash piece_of words_of
begin_table = alone _ _ refl refl refl

counts_line : IsLogicalLine (codes "M  V30 COUNTS 0 0" ∷ []) (codes "COUNTS" ∷ codes "0" ∷ codes "0" ∷ [])
unfolding is_logical text_behind ends_with_dash piece_of words_of
counts_line = alone _ _ refl refl refl

begin_atoms : IsLogicalLine (codes "M  V30 BEGIN ATOM" ∷ []) (two (codes "BEGIN") (codes "ATOM"))
unfolding is_logical text_behind ends_with_dash piece_of words_of
begin_atoms = alone _ _ refl refl refl

end_atoms : IsLogicalLine (codes "M  V30 END ATOM" ∷ []) (two (codes "END") (codes "ATOM"))
unfolding is_logical text_behind ends_with_dash piece_of words_of
end_atoms = alone _ _ refl refl refl

begin_bonds : IsLogicalLine (codes "M  V30 BEGIN BOND" ∷ []) (two (codes "BEGIN") (codes "BOND"))
unfolding is_logical text_behind ends_with_dash piece_of words_of
begin_bonds = alone _ _ refl refl refl

bond_line : IsLogicalLine (codes "M  V30 1 1 1 1" ∷ []) (codes "1" ∷ codes "1" ∷ codes "1" ∷ codes "1" ∷ [])
unfolding is_logical text_behind ends_with_dash piece_of words_of
bond_line = alone _ _ refl refl refl

end_bonds : IsLogicalLine (codes "M  V30 END BOND" ∷ []) (two (codes "END") (codes "BOND"))
unfolding is_logical text_behind ends_with_dash piece_of words_of
end_bonds = alone _ _ refl refl refl

end_table : IsLogicalLine (codes "M  V30 END CTAB" ∷ []) (two (codes "END") (codes "CTAB"))
unfolding is_logical text_behind ends_with_dash piece_of words_of
end_table = alone _ _ refl refl refl

-- an atom line for an index that is spelt

-- what stands behind the index
abbrev tail : List ℕ
tail = codes " C 0 0 0 0"

abbrev atom_line : Word → Line
atom_line word = codes "M  V30 " ++ (word ++ tail)

abbrev atom_words : Word → List Word
atom_words word = word ∷ codes "C" ∷ codes "0" ∷ codes "0" ∷ codes "0" ∷ codes "0" ∷ []

-- the text ends with its last byte, which is 0
last_stays : (word : Word) → suffix_len is_blank_or_cr (word ++ tail) ≡ 0
last_stays word = rw (reverse-append word tail) refl

atom_text : (word : Word) → text_behind (atom_line word) ≡ word ++ tail
unfolding text_behind
atom_text word =
    let all : length (word ++ tail) - suffix_len is_blank_or_cr (word ++ tail) ≡ length (word ++ tail) = omega (arith, last_stays word) in
    ap (λ (n : ℕ). take n (word ++ tail)) all ∙ take_all (length (word ++ tail)) (word ++ tail) (omega arith)

atom_no_dash : (word : Word) → ends_with_dash (word ++ tail) ≡ false
unfolding ends_with_dash
atom_no_dash word =
    let last : get_or (word ++ tail) (length (word ++ tail) - 1) 0 ≡ get_or tail
    ((length (word ++ tail) - 1) - length word) 0 =
    get_or-append_right word tail (length word) (length (word ++ tail) - 1) 0 refl
    (omega (arith, length-append word tail)) in
    let nine : (length (word ++ tail) - 1) - length word ≡ 9 = omega (arith, length-append word tail) in
    rw (last, nine) refl

first_word : (word rest : List ℕ) → 1 ≤ length word → list_all is_other word ≡ true → words_of (word ++ 32 ∷ rest) ≡ word ∷ words_of rest
first_word [] rest some all = absurd (omega arith)
first_word (c ∷ w) rest some all = words_first c w rest all

other_words : words_of (codes "C 0 0 0 0") ≡ codes "C" ∷ codes "0" ∷ codes "0" ∷ codes "0" ∷ codes "0" ∷ []
unfolding words_of
other_words = refl

logical_prefix : (word : Word) → is_logical (atom_line word) ≡ true
unfolding is_logical
logical_prefix word = refl

an_atom_line : (n : ℕ) (word : Word) → Spells n word → IsLogicalLine (atom_line word ∷ []) (atom_words word)
unfolding piece_of
an_atom_line n word s =
    let piece : piece_of (text_behind (atom_line word)) ≡ word ++ tail = ap piece_of (atom_text word) ∙ rw (atom_no_dash word) refl in
    let dash : ends_with_dash (text_behind (atom_line word)) ≡ false = ap ends_with_dash (atom_text word) ∙ atom_no_dash word in
    alone (atom_line word) (atom_words word) (rw (logical_prefix word, dash) refl) (rw (logical_prefix word, dash) refl)
    (ap words_of (append-nil (piece_of (text_behind (atom_line word))) ∙ piece) ∙ first_word word (codes "C 0 0 0 0") s.some s.others ∙ ap (λ (x : List Word). word ∷ x) other_words)

-- ---- what the lines spell

no_counts : counts_of_words (codes "COUNTS" ∷ codes "0" ∷ codes "0" ∷ []) ≡ Some (record { atoms = 0; bonds = 0 })
unfolding counts_of_words count_of number_of field_of digits_number columns
no_counts = refl

abbrev some_bond : BondLine
some_bond = record { kind = pos 1; first = pos 1; second = pos 1 }

a_bond : bond_of (codes "1" ∷ codes "1" ∷ codes "1" ∷ codes "1" ∷ []) ≡ Some some_bond
unfolding bond_of number_of field_of digits_number columns
a_bond = refl

abbrev some_atom : ℕ → AtomLine
some_atom n = record { index = pos n; symbol = codes "C"; charge = pos 0; radical = pos 0; mass = pos 0; valence = pos 0 }

an_atom : (n : ℕ) (word : Word) → number_of word ≡ Some (pos (suc n)) → atom_of (atom_words word) ≡ Some (some_atom (suc n))
unfolding atom_of atom_with
an_atom n word e = rw (e, le-leb 1 (suc n) (omega arith)) refl

-- ---- completion

-- some lines take what has been read to the end
pub record Completed (w : Walk) : Type 0 where
  pub lines : List Line
  pub words : List (List Word)
  pub table : RawTable
  pub each : Series IsLogicalLine lines words
  pub runs : Runs w words table

-- one more line before them
with_line : (w x : Walk) (line : Line) (words : List Word) → is_done w.phase ≡ false → step w words ≡ Some x → IsLogicalLine (line ∷ []) words → Completed x → Completed w
with_line w x line words goes is logical c = record {
  lines = line ∷ c.lines;
  words = words ∷ c.words;
  table = c.table;
  each = (line ∷ [], c.lines, refl, logical, c.each);
  runs = (goes, x, is, c.runs);
}

complete_done : (w : Walk) → Completed (moved phase.Done w)
complete_done w = record { lines = []; words = []; table = w.table; each = refl; runs = (refl, refl) }

complete_rest : (w : Walk) → Completed (moved phase.InRest w)
unfolding step_at
complete_rest w = with_line (moved phase.InRest w) (moved phase.Done w) _ _ refl refl end_table (complete_done w)

complete_bonds : (k : ℕ) (w : Walk) → w.bonds ≡ k → Completed (moved phase.InBonds w)
unfolding step_at
complete_bonds zero w n = with_line (moved phase.InBonds w) (moved phase.InRest w) _ _ refl (rw (zero_test w.bonds n) refl) end_bonds (complete_rest w)
complete_bonds (suc k) w n =
    let left : w.bonds - 1 ≡ k = omega (arith, n) in
    with_line (moved phase.InBonds w) (with_bond w some_bond) _ _ refl (rw (some_test w.bonds k n, a_bond) refl) bond_line (complete_bonds k (with_bond w some_bond) left)

complete_behind : (k : ℕ) (w : Walk) → w.bonds ≡ k → Completed (behind_atoms w)
unfolding step_at
complete_behind zero w n = subst Completed (let e : moved phase.InRest w ≡ behind_atoms w = rw (zero_test w.bonds n) refl in e) (complete_rest w)
complete_behind (suc k) w n =
    subst Completed (let e : moved phase.AtBonds w ≡ behind_atoms w = rw (some_test w.bonds k n) refl in e)
    (with_line (moved phase.AtBonds w) (moved phase.InBonds w) _ _ refl refl begin_bonds
    (complete_bonds (suc k) w n))

-- one atom, with the index that is free
complete_atom : (n : ℕ) (w : Walk) (k : ℕ) → w.atoms ≡ suc k → has_index w.indexes (pos (suc n)) ≡ false
    → suc n < 10 ^ 9 → Completed (with_atom w (some_atom (suc n))) → Completed (moved phase.InAtoms w)
unfolding step_at
complete_atom n w k some none small c =
    let s = spelt (suc n) small in
    with_line (moved phase.InAtoms w) (with_atom w (some_atom (suc n))) (atom_line (decimal (suc n))) (atom_words (decimal (suc n))) refl
    (rw (some_test w.atoms k some, an_atom n (decimal (suc n)) s.number, none) refl) (an_atom_line (suc n) (decimal (suc n)) s) c

-- so many atoms, with a free index each
complete_some : (k : ℕ) (w : Walk) → ((x : Walk) → x.atoms ≡ k → length x.indexes + k ≤ 999
    → Completed (moved phase.InAtoms x)) → w.atoms ≡ suc k → length w.indexes + suc k ≤ 999 → (m : ℕ) → 1 ≤ m
    → m ≤ 999 + 1 → has_index w.indexes (pos m) ≡ false
    → Completed (moved phase.InAtoms w)
complete_some k w others n few zero some le none = absurd (omega arith)
complete_some k w others n few (suc m) some le none =
    let left : w.atoms - 1 ≡ k = omega (arith, n) in
    complete_atom m w k n none (omega arith) (others (with_atom w (some_atom (suc m))) left (omega (arith, length-append w.indexes (pos (suc m) ∷ []))))

complete_atoms : (k : ℕ) (w : Walk) → w.atoms ≡ k → length w.indexes + k ≤ 999 → Completed (moved phase.InAtoms w)
unfolding step_at
complete_atoms zero w n few = with_line (moved phase.InAtoms w) (behind_atoms w) _ _ refl (rw (zero_test w.atoms n) refl) end_atoms (complete_behind w.bonds w refl)
complete_atoms (suc k) w n few = let f = free 999 w.indexes (omega arith) in complete_some k w (complete_atoms k) n few f.number f.some f.few f.none

complete_at : (p : Phase) (w : Walk) → IsFew w → Completed (moved p w)
unfolding step_at
complete_at phase.AtTable w few =
    with_line (moved phase.AtTable w) (moved phase.AtCounts w) _ _ refl refl begin_table
    (with_line (moved phase.AtCounts w) (counted (record { atoms = 0; bonds = 0 })) _ _ refl (rw no_counts refl) counts_line
    (with_line (counted (record { atoms = 0; bonds = 0 })) (moved phase.InAtoms (counted (record { atoms = 0; bonds = 0 }))) _ _ refl refl begin_atoms
    (complete_atoms 0 (counted (record { atoms = 0; bonds = 0 })) refl (omega arith))))
complete_at phase.AtCounts w few =
    with_line (moved phase.AtCounts w) (counted (record { atoms = 0; bonds = 0 })) _ _ refl (rw no_counts refl) counts_line
    (with_line (counted (record { atoms = 0; bonds = 0 })) (moved phase.InAtoms (counted (record { atoms = 0; bonds = 0 }))) _ _ refl refl begin_atoms
    (complete_atoms 0 (counted (record { atoms = 0; bonds = 0 })) refl (omega arith)))
complete_at phase.AtAtoms w few = with_line (moved phase.AtAtoms w) (moved phase.InAtoms w) _ _ refl refl begin_atoms (complete_atoms w.atoms w refl few.atoms)
complete_at phase.InAtoms w few = complete_atoms w.atoms w refl few.atoms
complete_at phase.AtBonds w few = with_line (moved phase.AtBonds w) (moved phase.InBonds w) _ _ refl refl begin_bonds (complete_bonds w.bonds w refl)
complete_at phase.InBonds w few = complete_bonds w.bonds w refl
complete_at phase.InRest w few = complete_rest w
complete_at phase.Done w few = complete_done w

pub complete : (w : Walk) → IsFew w → Completed w
complete w few = complete_at w.phase w few
