-- The lines of the text of a structure.
--     text_behind         the lines of a text that ends with LF, and then those of what stands behind it
--     record_text         the text of a structure is that of some lines
--     record_lines        three lines, those of the table, and the separator
use Rattle.std.proofs.Common.{◌≡◌, ◌<◌, ◌/◌, ◌%◌, ℕ, zero, suc, Bool, true, false, cond, eqb, List, [], ◌∷◌, ◌++◌, length, get_or, map, refl, sym, ap, ◌∙◌, append_assoc, arith}
use Rattle.std.specs.Prelude.{codes, decimal}
use Rattle.std.specs.Fmt.{digits, digits_onto, digit_glyph}
use Rattle.std.specs.List.{list_all}
use Rattle.std.proofs.lemmas.Bool.Decides.{nat_tests}
use Rattle.std.proofs.lemmas.Grind.{flat_map-append}
use Rattle.std.proofs.lemmas.List.{map-append}
use Rattle.mk_text.specs.Lines.{ended, lines_of, onto_first_piece, pieces, text_of, without_cr}
use Rattle.mk_text.proofs.ForCallers.{and_true, list_all_at, not_true}
use Rattle.mk_text.proofs.PieceLemmas.{pieces_at}
use Rattle.mk_tables.specs.declared.raw.RawTable.{RawTable}
use Rattle.mk_spelling.specs.TableSpelling.{table_spelling, table_lines}
use Rattle.mk_spelling.proofs.NoLfLemmas.{HasNoLf, is_no_lf, no_lf_both}
use Rattle.mk_enum.specs.Texts.{behind_blank, numbers_text, structure_text}

-- ---- a text that ends with LF

some_piece : (line : List ℕ) → pieces (ended line) ≡ [] → ⊥
some_piece [] none = absurd cc
some_piece (c ∷ line) none = by_test (eqb c 10) (pieces (ended line)) none
  where
    by_test : (b : Bool) (others : List (List ℕ)) → cond b ([] ∷ others) (onto_first_piece c others) ≡ [] → ⊥
    by_test true others e = absurd cc
    by_test false [] e = absurd cc
    by_test false (piece ∷ others) e = absurd cc

onto_more : (c : ℕ) (others more : List (List ℕ)) → (others ≡ [] → ⊥) → onto_first_piece c (others ++ more) ≡ onto_first_piece c others ++ more
onto_more c [] more some = absurd (some refl)
onto_more c (piece ∷ others) more some = refl

pieces_ended : (line rest : List ℕ) → pieces (ended line ++ rest) ≡ pieces (ended line) ++ pieces rest
pieces_ended [] rest = refl
pieces_ended (c ∷ line) rest =
    ap (λ (ps : List (List ℕ)). cond (eqb c 10) ([] ∷ ps) (onto_first_piece c ps)) (pieces_ended line rest)
    ∙ by_test (eqb c 10) (pieces (ended line)) (some_piece line)
  where
    by_test : (b : Bool) (others : List (List ℕ)) → (others ≡ [] → ⊥)
        → cond b ([] ∷ (others ++ pieces rest)) (onto_first_piece c (others ++ pieces rest)) ≡ cond b ([] ∷ others) (onto_first_piece c others) ++ pieces rest
    by_test true others some = refl
    by_test false others some = onto_more c others (pieces rest) some

lines_ended : (line rest : List ℕ) → lines_of (ended line ++ rest) ≡ lines_of (ended line) ++ lines_of rest
unfolding lines_of
lines_ended line rest = ap (map without_cr) (pieces_ended line rest) ∙ map-append without_cr (pieces (ended line)) (pieces rest)

no_lines : (rest : List ℕ) → lines_of rest ≡ lines_of [] ++ lines_of rest
unfolding lines_of
no_lines rest = refl

-- the lines of the text of some lines, and behind them those of what stands there
pub text_behind : (lines : List (List ℕ)) (rest : List ℕ) → lines_of (text_of lines ++ rest) ≡ lines_of (text_of lines) ++ lines_of rest
text_behind [] rest = no_lines rest
text_behind (line ∷ lines) rest =
    ap lines_of (append_assoc (ended line) (text_of lines) rest) ∙ lines_ended line (text_of lines ++ rest)
    ∙ ap (λ (ls : List (List ℕ)). lines_of (ended line) ++ ls) (text_behind lines rest)
    ∙ sym (append_assoc (lines_of (ended line)) (lines_of (text_of lines)) (lines_of rest))
    ∙ sym (ap (λ (ls : List (List ℕ)). ls ++ lines_of rest) (lines_ended line (text_of lines)))

-- ---- numbers

no_lf_glyph : (d : ℕ) → d < 10 → is_no_lf (digit_glyph false d) ≡ true
no_lf_glyph d small = grind (arith, nat_tests)

no_lf_onto : (k n : ℕ) (acc : List ℕ) → HasNoLf acc → HasNoLf (digits_onto k 10 false n acc)
no_lf_onto zero n acc none = none
no_lf_onto (suc k) n acc none =
    let more : HasNoLf (digit_glyph false (n % 10) ∷ acc) = and_true (is_no_lf (digit_glyph false (n % 10))) (list_all is_no_lf acc) (no_lf_glyph (n % 10) (omega arith)) none in
    by_test (eqb (n / 10) 0) _ _ more (no_lf_onto k (n / 10) (digit_glyph false (n % 10) ∷ acc) more)
  where
    by_test : (b : Bool) (one other : List ℕ) → HasNoLf one → HasNoLf other → HasNoLf (cond b one other)
    by_test true one other is its = is
    by_test false one other is its = its

-- no number is written with an LF
no_lf_decimal : (n : ℕ) → HasNoLf (decimal n)
unfolding digits
no_lf_decimal n = no_lf_onto 64 n [] refl

no_lf_numbers : (code : List ℕ) → HasNoLf (numbers_text code)
no_lf_numbers [] = refl
no_lf_numbers (n ∷ code) = no_lf_both (behind_blank n) (numbers_text code) (no_lf_decimal n) (no_lf_numbers code)

-- ---- the text of a structure

-- the first line
abbrev pub first_line : List ℕ → List ℕ
first_line code = codes "choice" ++ numbers_text code

no_lf_first : (code : List ℕ) (k : ℕ) → k < length (first_line code) → eqb (get_or (first_line code) k 0) 10 ≡ false
no_lf_first code k within =
    not_true (eqb (get_or (first_line code) k 0) 10)
    (list_all_at is_no_lf (first_line code) k (no_lf_both (codes "choice") (numbers_text code) refl (no_lf_numbers code)) within)

-- the text behind the first line
abbrev behind_first : RawTable → List ℕ
behind_first table = codes "\n\n" ++ (table_spelling table ++ codes "$$$$\n")

-- the text is the first line, LF, and what stands behind it
in_two : (code : List ℕ) (table : RawTable) → structure_text code table ≡ first_line code ++ 10 ∷ behind_first table
in_two code table = sym (append_assoc (codes "choice") (numbers_text code) (10 ∷ behind_first table))

first_cut : (code rest : List ℕ) → lines_of (first_line code ++ 10 ∷ rest) ≡ without_cr (first_line code) ∷ lines_of rest
unfolding lines_of
first_cut code rest = ap (map without_cr) (pieces_at (first_line code) rest (no_lf_first code))

two_empty : (rest : List ℕ) → lines_of (codes "\n\n" ++ rest) ≡ [] ∷ [] ∷ lines_of rest
unfolding lines_of
two_empty rest = refl

last_line : lines_of (codes "$$$$\n") ≡ codes "$$$$" ∷ []
unfolding lines_of
last_line = refl

spelling_behind : (table : RawTable) (rest : List ℕ) → lines_of (table_spelling table ++ rest) ≡ lines_of (table_spelling table) ++ lines_of rest
unfolding table_spelling
spelling_behind table rest = text_behind (table_lines table) rest

-- the three lines in front of the table
abbrev pub header_lines : List ℕ → List (List ℕ)
header_lines code = without_cr (first_line code) ∷ [] ∷ [] ∷ []

-- the lines of the text: three, those of the table, and the separator
pub record_lines : (code : List ℕ) (table : RawTable) → lines_of (structure_text code table) ≡ (header_lines code ++ lines_of (table_spelling table)) ++ codes "$$$$" ∷ []
record_lines code table =
    ap lines_of (in_two code table) ∙ first_cut code (behind_first table)
    ∙ ap (λ (ls : List (List ℕ)). without_cr (first_line code) ∷ ls) (two_empty (table_spelling table ++ codes "$$$$\n"))
    ∙ ap (λ (ls : List (List ℕ)). header_lines code ++ ls)
    (spelling_behind table (codes "$$$$\n") ∙ ap (λ (ls : List (List ℕ)). lines_of (table_spelling table) ++ ls) last_line)

-- the text is that of some lines
all_lines : List ℕ → RawTable → List (List ℕ)
all_lines code table = first_line code ∷ [] ∷ [] ∷ (table_lines table ++ codes "$$$$" ∷ [])

text_is : (code : List ℕ) (table : RawTable) → structure_text code table ≡ text_of (all_lines code table)
unfolding table_spelling all_lines
text_is code table =
    in_two code table
    ∙ sym (append_assoc (first_line code) (10 ∷ []) (codes "\n\n" ++ text_of (table_lines table ++ codes "$$$$" ∷ []))
    ∙ ap (λ (t : List ℕ). first_line code ++ 10 ∷ (codes "\n\n" ++ t)) (flat_map-append ended (table_lines table) (codes "$$$$" ∷ [])))

-- so its lines stand before those of what is behind it
pub structure_behind : (code : List ℕ) (table : RawTable) (rest : List ℕ) → lines_of (structure_text code table ++ rest) ≡ lines_of (structure_text code table) ++ lines_of rest
structure_behind code table rest =
    ap (λ (t : List ℕ). lines_of (t ++ rest)) (text_is code table) ∙ text_behind (all_lines code table) rest
    ∙ sym (ap (λ (t : List ℕ). lines_of t ++ lines_of rest) (text_is code table))
