-- The lines of a V3000 table without the CR bytes at their ends are a table with the same twin.
use Rattle.std.proofs.Common.{◌≡◌, ℕ, zero, suc, ◌+◌, ◌-◌, ◌≤◌, Bool, true, false, not, ◌&&◌, eqb, List, [], ◌∷◌, ◌++◌, map, length, take, drop, replicate, Some, refl, sym, ap, subst, ◌∙◌, append_assoc, append-nil, arith, lit≤}
use Rattle.std.specs.Prelude.{codes, nat_eq, reverse}
use Rattle.std.specs.List.{list_all, starts_with, suffix_len}
use Rattle.std.proofs.lemmas.Bool.{eqb-true}
use Rattle.std.proofs.lemmas.List.{length-append, length_push, reverse-append, take-append-le, replicate_more, map-append, length-map}
use Rattle.std.proofs.lemmas.List.Sums.{suffix_len-le-length}
use Rattle.std.proofs.lemmas.Slice.Eq.{bytes_eq-Decides}
use Rattle.mk_form.specs.Rows.{Series}
use Rattle.mk_form.specs.ToEnd.{EachIs}
use Rattle.mk_text.specs.Columns.{columns, trimmed}
use Rattle.mk_text.specs.KeptLines.{without_crs}
use Rattle.mk_text.specs.Lines.{EndsWith, words_of}
use Rattle.mk_text.proofs.ForCallers.{both, columns_left, crs_behind, ends_not}
use Rattle.mk_tables.specs.declared.raw.RawTable.{RawTable}
use Rattle.mk_tables.specs.TableLines.{Line, word_of, is_v3000}
use Rattle.mk_v3000.specs.KeptV3000.{KeptLinesAreTheTable}
use Rattle.mk_v3000.specs.LogicalLines.{Word, is_logical, is_blank_or_cr, without_last, text_behind, ends_with_dash, piece_of, goes_on, closes, joined_text, words_in, IsLogicalLine}
use Rattle.mk_v3000.specs.V3000Table.{IsV3000Table, is_end_line}

-- ---- the beginning of a line

-- a byte is no CR
abbrev no_cr : ℕ → Bool
no_cr c = not (eqb c 13)

-- CR bytes begin with no word without one
no_crs : (n : ℕ) (c : ℕ) (word : List ℕ) → no_cr c ≡ true → starts_with nat_eq (replicate n 13) (c ∷ word) ≡ true → ⊥
no_crs zero c word none h = cc
no_crs (suc n) c word none h =
    let two = both (eqb c 13) (starts_with nat_eq (replicate n 13) word) h in
    let is : eqb c 13 ≡ true = two.0 in
    let other : not true ≡ true = rw is at none in
    cc

-- what a line begins with, it begins with without the CR bytes at its end
begins_kept : (word core : List ℕ) (n : ℕ) → list_all no_cr word ≡ true → starts_with nat_eq (core ++ replicate n 13) word ≡ true → starts_with nat_eq core word ≡ true
begins_kept [] core n none h = refl
begins_kept (c ∷ word) [] n none h = absurd (no_crs n c word (both (no_cr c) (list_all no_cr word) none).0 h)
begins_kept (c ∷ word) (x ∷ core) n none h =
    let two = both (eqb c x) (starts_with nat_eq (core ++ replicate n 13) word) h in
    rw (two.0, begins_kept word core n (both (no_cr c) (list_all no_cr word) none).1 two.1) refl

pub logical_kept : (line : Line) → is_logical line ≡ true → is_logical (without_crs line) ≡ true
unfolding is_logical
logical_kept line h =
    let w = crs_behind line in
    begins_kept (codes "M  V30 ") (without_crs line) w.0 refl (subst (λ (l : Line). starts_with nat_eq l (codes "M  V30 ") ≡ true) w.1 h)

pub end_kept : (line : Line) → is_end_line line ≡ true → is_end_line (without_crs line) ≡ true
unfolding is_end_line
end_kept line h =
    let w = crs_behind line in
    begins_kept (codes "M  END") (without_crs line) w.0 refl (subst (λ (l : Line). starts_with nat_eq l (codes "M  END") ≡ true) w.1 h)

pub version_kept : (line : Line) → is_v3000 line ≡ true → is_v3000 (without_crs line) ≡ true
version_kept line h =
    let is : word_of line 34 39 ≡ codes "V3000" = (bytes_eq-Decides (word_of line 34 39) (codes "V3000")).0 h in
    let P : List ℕ → Type 0 = λ word. EndsWith 13 word → ⊥ in
    let same : columns (without_crs line) 34 39 ≡ columns line 34 39 = columns_left line 34 39 (lit≤ tt) (lit≤ tt) (subst P (sym is) (ends_not (codes "V3000") 13 refl)) in
    rw (ap trimmed same) h

-- a line that begins with a word is no shorter
begins_length : (word line : List ℕ) → starts_with nat_eq line word ≡ true → length word ≤ length line
begins_length [] line h = omega arith
begins_length (c ∷ word) [] h = absurd cc
begins_length (c ∷ word) (x ∷ line) h =
    let one : length (c ∷ word) ≡ suc (length word) = refl in
    let more : length (x ∷ line) ≡ suc (length line) = refl in
    omega (arith, begins_length word line (both (eqb c x) (starts_with nat_eq line word) h).1)

-- a logical line has the seven bytes of its beginning
pub logical_length : (line : Line) → is_logical line ≡ true → 7 ≤ length line
unfolding is_logical
logical_length line h = begins_length (codes "M  V30 ") line h

-- ---- the text of a logical line

-- a CR at the end is dropped
last_cr : (cells : List ℕ) → without_last (cells ++ 13 ∷ []) ≡ without_last cells
last_cr cells =
    let one_more : suffix_len is_blank_or_cr (cells ++ 13 ∷ []) ≡ 1 + suffix_len is_blank_or_cr cells = rw (reverse-append cells (13 ∷ [])) refl in
    let few = suffix_len-le-length is_blank_or_cr cells in
    let same : length (cells ++ 13 ∷ []) - suffix_len is_blank_or_cr (cells ++ 13 ∷ []) ≡ length cells - suffix_len is_blank_or_cr cells = omega (arith, length_push cells 13, one_more) in
    ap (λ n. take n (cells ++ 13 ∷ [])) same ∙ take-append-le (length cells - suffix_len is_blank_or_cr cells) cells (13 ∷ []) (omega arith)

-- and so are many
last_crs : (cells : List ℕ) (n : ℕ) → without_last (cells ++ replicate n 13) ≡ without_last cells
last_crs cells zero = ap without_last (append-nil cells)
last_crs cells (suc n) = ap without_last (sym (append_assoc cells (13 ∷ []) (replicate n 13))) ∙ last_crs (cells ++ 13 ∷ []) n ∙ last_cr cells

-- behind the bytes that it begins with, a line has the same CR bytes
drop_begin : (word core : List ℕ) (n : ℕ) → starts_with nat_eq core word ≡ true → drop (length word) (core ++ replicate n 13) ≡ drop (length word) core ++ replicate n 13
drop_begin [] core n h = refl
drop_begin (c ∷ word) [] n h = absurd cc
drop_begin (c ∷ word) (x ∷ core) n h = drop_begin word core n (both (eqb c x) (starts_with nat_eq core word) h).1

pub text_kept : (line : Line) → is_logical line ≡ true → text_behind (without_crs line) ≡ text_behind line
unfolding text_behind is_logical
text_kept line h =
    let w = crs_behind line in
    let core = without_crs line in
    let begins = begins_kept (codes "M  V30 ") core w.0 refl (subst (λ (l : Line). starts_with nat_eq l (codes "M  V30 ") ≡ true) w.1 h) in
    sym (ap (λ (l : Line). without_last (drop 7 l)) w.1 ∙ ap without_last (drop_begin (codes "M  V30 ") core w.0 begins) ∙ last_crs (drop 7 core) w.0)

-- ---- logical lines

-- the left left of two tests
logical_of : (line : Line) (b : Bool) → (is_logical line && b) ≡ true → is_logical line ≡ true
logical_of line b h = (both (is_logical line) b h).0

on_kept : (line : Line) → goes_on line ≡ true → goes_on (without_crs line) ≡ true
on_kept line h =
    let l = logical_of line (ends_with_dash (text_behind line)) h in
    rw (logical_kept line l, text_kept line l) (both (is_logical line) (ends_with_dash (text_behind line)) h).1

close_kept : (line : Line) → closes line ≡ true → closes (without_crs line) ≡ true
close_kept line h =
    let l = logical_of line (not (ends_with_dash (text_behind line))) h in
    rw (logical_kept line l, text_kept line l) (both (is_logical line) (not (ends_with_dash (text_behind line))) h).1

not_both : (b : Bool) → not b ≡ true → b ≡ false
not_both false h = refl
not_both true h = absurd cc

-- a line that closes doesn't go on
ends_kept : (line : Line) → closes line ≡ true → goes_on (without_crs line) ≡ false
ends_kept line h =
    let l = logical_of line (not (ends_with_dash (text_behind line))) h in
    rw (logical_kept line l, text_kept line l) (not_both (ends_with_dash (text_behind line)) (both (is_logical line) (not (ends_with_dash (text_behind line))) h).1)

each_on : (lines : List Line) → EachIs goes_on true lines → EachIs goes_on true (map without_crs lines)
each_on [] h = tt
each_on (l ∷ lines) h = (on_kept l h.0, each_on lines h.1)

-- the joint text is the same
joined_kept : (firsts : List Line) (last : Line) → EachIs goes_on true firsts → closes last ≡ true → joined_text (map without_crs (firsts ++ last ∷ [])) ≡ joined_text (firsts ++ last ∷ [])
joined_kept [] last h closed = ap (λ (t : List ℕ). piece_of t ++ []) (text_kept last (logical_of last (not (ends_with_dash (text_behind last))) closed))
joined_kept (l ∷ firsts) last h closed =
    rw (text_kept l (logical_of l (ends_with_dash (text_behind l)) h.0)) (ap (λ (t : List ℕ). piece_of (text_behind l) ++ t) (joined_kept firsts last h.1 closed))

line_kept : (lines : List Line) (words : List Word) → IsLogicalLine lines words → IsLogicalLine (map without_crs lines) words
line_kept lines words j = record {
  firsts = map without_crs j.firsts;
  last = without_crs j.last;
  whole = ap (map without_crs) j.whole ∙ map-append without_crs j.firsts (j.last ∷ []);
  go_on = each_on j.firsts j.go_on;
  ends = ends_kept j.last j.closed;
  closed = close_kept j.last j.closed;
  spells = ap (λ (t : List ℕ). Some (words_of t)) (ap (λ (ls : List Line). joined_text (map without_crs ls)) j.whole
      ∙ joined_kept j.firsts j.last j.go_on j.closed ∙ ap joined_text (sym j.whole)) ∙ j.spells;
}

series_kept : (words : List (List Word)) (lines : List Line) → Series IsLogicalLine lines words → Series IsLogicalLine (map without_crs lines) words
series_kept [] lines s = ap (map without_crs) s
series_kept (w ∷ words) lines s = (map without_crs s.0, map without_crs s.1, ap (map without_crs) s.2 ∙ map-append without_crs s.0 s.1, line_kept s.0 w s.3, series_kept words s.1 s.4)

-- the law
pub kept_lines_are_the_table : KeptLinesAreTheTable
kept_lines_are_the_table lines t h = record {
  counts_line = without_crs h.counts_line;
  logical_lines = map without_crs h.logical_lines;
  last_line = without_crs h.last_line;
  whole = ap (map without_crs) h.whole ∙ ap (λ (ls : List Line). without_crs h.counts_line ∷ ls) (map-append without_crs h.logical_lines (h.last_line ∷ []));
  version = version_kept h.counts_line h.version;
  words = h.words;
  each = series_kept h.words h.logical_lines h.each;
  atoms = h.atoms;
  bonds = h.bonds;
  are = h.are;
  ended = end_kept h.last_line h.ended;
  twin = h.twin;
}
