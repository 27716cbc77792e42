-- The lines of a text and the text of lines, and kept lines.
use Rattle.std.proofs.Common.{◌≡◌, ℕ, zero, suc, ◌+◌, ◌-◌, ◌<◌, ◌≤◌, Bool, true, false, cond, eqb, All, List, [], ◌∷◌, ◌++◌, length, get_or, take, drop, map, refl, sym, ap, ◌∙◌, append_assoc, arith}
use Rattle.std.specs.Prelude.{Contains, reverse, slice_range}
use Rattle.std.specs.List.{AllByRecursion, flat_map, suffix_len}
use Rattle.std.proofs.lemmas.Bool.{eqb-true, true≢false}
use Rattle.std.proofs.lemmas.List.{get_or_default, get_or-take, get_or-drop, get_or-reverse, get_or_at, length-append, length-map, length-drop, length-take-le, take_all, take_more, length-reverse, append-nil, map_more, map_push}
use Rattle.std.proofs.lemmas.List.Concat.{flat_map-append}
use Rattle.std.proofs.lemmas.List.Elements.{All-from_recursion, recursion_from_All, All-map}
use Rattle.std.proofs.lemmas.List.Sums.{prefix_len_passes, prefix_len_stops, suffix_len-le-length}
use Rattle.mk_text.specs.Lines.{onto_first_piece, pieces, without_cr, lines_of, ended, text_of, EndsWith, IsWholeLine, LinesHoldNoLf, LinesAreFew, TextOfLinesIsRead}
use Rattle.mk_text.specs.KeptLines.{is_cr, without_crs, kept_lines, KeptLinesAreRead, KeptLinesStay}
use Rattle.mk_text.specs.declared.cutting.Span.{Span}
use Rattle.mk_text.specs.Spans.{parts}
use Rattle.mk_text.proofs.PieceLemmas.{pieces_at}

-- ---- no LF

-- no byte is LF, one by one
abbrev NoLf : List ℕ → Type 0
NoLf line = AllByRecursion (λ c. eqb c 10 ≡ false) line

-- such bytes hold none
none_held : (line : List ℕ) → NoLf line → Contains line 10 → ⊥
none_held [] none is = absurd (omega (arith, is.1))
none_held (c ∷ line) none (zero, within, same) = let test : eqb c 10 ≡ true = ap (λ (n : ℕ). eqb n 10) same in true≢false (sym test ∙ none.0)
none_held (c ∷ line) none (suc k, within, same) = none_held line none.1 (k, omega arith, same)

-- and the other way round
pub no_lf_at : (line : List ℕ) → (Contains line 10 → ⊥) → (k : ℕ) → k < length line → eqb (get_or line k 0) 10 ≡ false
no_lf_at line none k within = by_test (eqb (get_or line k 0) 10) refl
  where
    by_test : (b : Bool) → eqb (get_or line k 0) 10 ≡ b → eqb (get_or line k 0) 10 ≡ false
    by_test true is = absurd (none (k, within, get_or_default line k 10 0 within ∙ eqb-true (get_or line k 0) 10 is))
    by_test false is = is

-- a byte on the first piece
no_lf_onto : (c : ℕ) (others : List (List ℕ)) → eqb c 10 ≡ false → AllByRecursion NoLf others → AllByRecursion NoLf (onto_first_piece c others)
no_lf_onto c [] other none = ((other, tt), tt)
no_lf_onto c (piece ∷ others) other none = ((other, none.0), none.1)

-- a byte more in front
no_lf_more : (t : Bool) (c : ℕ) (others : List (List ℕ)) → eqb c 10 ≡ t → AllByRecursion NoLf others → AllByRecursion NoLf (cond t ([] ∷ others) (onto_first_piece c others))
no_lf_more true c others is none = (tt, none)
no_lf_more false c others is none = no_lf_onto c others is none

-- no piece holds an LF
no_lf_pieces : (text : List ℕ) → AllByRecursion NoLf (pieces text)
no_lf_pieces [] = tt
no_lf_pieces (c ∷ text) = no_lf_more (eqb c 10) c (pieces text) refl (no_lf_pieces text)

-- nor does a piece without its CR
no_lf_last : (t : Bool) (c : ℕ) → eqb c 10 ≡ false → NoLf (cond t [] (c ∷ []))
no_lf_last true c other = tt
no_lf_last false c other = (other, tt)

no_lf_without_cr : (line : List ℕ) → NoLf line → NoLf (without_cr line)
no_lf_without_cr [] none = tt
no_lf_without_cr (c ∷ []) none = no_lf_last (eqb c 13) c none.0
no_lf_without_cr (c ∷ d ∷ line) none = (none.0, no_lf_without_cr (d ∷ line) none.1)

no_lf_lines : (pieces : List (List ℕ)) → AllByRecursion NoLf pieces → AllByRecursion (λ line. Contains line 10 → ⊥) (map without_cr pieces)
no_lf_lines [] none = tt
no_lf_lines (piece ∷ others) none = (none_held (without_cr piece) (no_lf_without_cr piece none.0), no_lf_lines others none.1)

-- no line holds an LF
pub lines_hold_no_lf : LinesHoldNoLf
unfolding lines_of
lines_hold_no_lf text = All-from_recursion (λ (line : List ℕ). Contains line 10 → ⊥) (map without_cr (pieces text)) (no_lf_lines (pieces text) (no_lf_pieces text))

-- ---- how many lines there are

-- a byte on the first piece makes one piece, or no more than there were
onto_few : (c : ℕ) (others : List (List ℕ)) (n : ℕ) → length others ≤ n → length (onto_first_piece c others) ≤ suc n
onto_few c [] n few = omega arith
onto_few c (piece ∷ others) n few = omega arith

-- the same for one byte more
pieces_few_at : (t : Bool) (c n : ℕ) (others : List (List ℕ)) → length others ≤ n → length (cond t ([] ∷ others) (onto_first_piece c others)) ≤ suc n
pieces_few_at true c n others few = omega arith
pieces_few_at false c n others few = onto_few c others n few

-- no more pieces than bytes
pieces_few : (text : List ℕ) → length (pieces text) ≤ length text
pieces_few [] = omega arith
pieces_few (c ∷ text) = pieces_few_at (eqb c 10) c (length text) (pieces text) (pieces_few text)

-- and no more lines
pub lines_few : LinesAreFew
unfolding lines_of
lines_few text = omega (arith, length-map (pieces text) without_cr, pieces_few text)

-- ---- the text of lines

-- a line that doesn't end with CR stays
pub without_cr_same : (line : List ℕ) → (EndsWith 13 line → ⊥) → without_cr line ≡ line
without_cr_same [] end = refl
without_cr_same (c ∷ []) end = by_test (eqb c 13) refl
  where
    by_test : (b : Bool) → eqb c 13 ≡ b → cond b [] (c ∷ []) ≡ c ∷ []
    by_test true is = absurd (end ([], ap (λ (x : ℕ). x ∷ []) (eqb-true c 13 is)))
    by_test false is = refl
without_cr_same (c ∷ d ∷ line) end = ap (λ (rest : List ℕ). c ∷ rest) (without_cr_same (d ∷ line) (λ e. end (c ∷ e.0, ap (λ (rest : List ℕ). c ∷ rest) e.1)))

-- the lines of the text of lines
lines_again : (lines : List (List ℕ)) → AllByRecursion IsWholeLine lines → lines_of (text_of lines) ≡ lines
unfolding lines_of
lines_again [] each = refl
lines_again (line ∷ lines) each =
    let others : List ℕ = flat_map ended lines in
    ap (λ (text : List ℕ). map without_cr (pieces text)) (append_assoc line (10 ∷ []) others)
    ∙ ap (map without_cr) (pieces_at line others (no_lf_at line each.0.no_lf))
    ∙ ap (λ (first : List ℕ). first ∷ map without_cr (pieces others)) (without_cr_same line each.0.no_cr)
    ∙ ap (λ (rest : List (List ℕ)). line ∷ rest) (lines_again lines each.1)

-- are those lines
pub text_of_lines_is_read : TextOfLinesIsRead
text_of_lines_is_read lines each = lines_again lines (recursion_from_All IsWholeLine lines each)

-- ---- the CR bytes at the end

-- what is left when they are gone
abbrev left : List ℕ → ℕ
left line = length line - suffix_len is_cr line

-- it doesn't end with one
left_stops : (line : List ℕ) → 0 < left line → is_cr (get_or line (left line - 1) 0) ≡ false
left_stops line some =
    let back = reverse line in
    let n = suffix_len is_cr line in
    let few : n ≤ length line = suffix_len-le-length is_cr line in
    let below : n < length back = omega (arith, length-reverse line) in
    let there : length line - 1 - n ≡ left line - 1 = omega arith in
    let mirror : get_or back n 0 ≡ get_or line (left line - 1) 0 = get_or-reverse line n 0 (omega arith) ∙ ap (λ (i : ℕ). get_or line i 0) there in
    ap is_cr (sym mirror) ∙ prefix_len_stops is_cr back 0 below

pub without_crs_end : (line : List ℕ) → EndsWith 13 (without_crs line) → ⊥
without_crs_end line end =
    let size : length (without_crs line) ≡ left line = length-take-le (left line) line (omega arith) in
    let long : length (without_crs line) ≡ length end.0 + 1 = ap length end.1 ∙ length-append end.0 (13 ∷ []) in
    let at : get_or (without_crs line) (left line - 1) 0 ≡ 13 =
    ap (λ (l : List ℕ). get_or l (left line - 1) 0) end.1 ∙ get_or_at end.0 13 [] 0 (left line - 1) (omega arith) in
    let same : get_or line (left line - 1) 0 ≡ 13 = sym (get_or-take (left line) line (left line - 1) 0 (omega arith)) ∙ at in
    let test : is_cr (get_or line (left line - 1) 0) ≡ true = ap is_cr same in
    true≢false (sym test ∙ left_stops line (omega arith))

-- a line that doesn't end with CR stays
pub without_crs_same : (line : List ℕ) → (EndsWith 13 line → ⊥) → without_crs line ≡ line
without_crs_same line end = by_count (suffix_len is_cr line) refl
  where
    by_count : (n : ℕ) → suffix_len is_cr line ≡ n → without_crs line ≡ line
    by_count zero none = take_all (left line) line (omega arith)
    by_count (suc n) some =
        let back = reverse line in
        let few : suffix_len is_cr line ≤ length line = suffix_len-le-length is_cr line in
        let k = length line - 1 in
        let there : length line - 1 - 0 ≡ k = omega arith in
        let test : is_cr (get_or line k 0) ≡ true =
        ap is_cr (sym (get_or-reverse line 0 0 (omega arith) ∙ ap (λ (i : ℕ). get_or line i 0) there)) ∙ prefix_len_passes is_cr back 0 0 (omega arith) in
        let last : get_or line k 0 ≡ 13 = eqb-true (get_or line k 0) 13 test in
        let whole : line ≡ take k line ++ 13 ∷ [] =
        sym (take_all (k + 1) line (omega arith)) ∙ take_more line k 0 (omega arith) ∙ ap (λ (c : ℕ). take k line ++ c ∷ []) last in
        absurd (end (take k line, whole))

-- no LF stands in what is left
no_lf_left : (line : List ℕ) → (Contains line 10 → ⊥) → Contains (without_crs line) 10 → ⊥
no_lf_left line none (k, within, same) =
    let size : length (without_crs line) ≡ left line = length-take-le (left line) line (omega arith) in
    none (k, omega arith, sym (get_or-take (left line) line k 10 (omega arith)) ∙ same)

-- ---- kept lines

-- each is whole
left_are_whole : (lines : List (List ℕ)) → All (λ line. Contains line 10 → ⊥) lines → All IsWholeLine (map without_crs lines)
left_are_whole lines none =
    All-map IsWholeLine without_crs lines (λ k d below. record { no_lf = no_lf_left (get_or lines k d) (none k d below); no_cr = without_crs_end (get_or lines k d) })

-- so they are the lines of the kept text
pub kept_lines_are_read : KeptLinesAreRead
kept_lines_are_read lines none = text_of_lines_is_read (map without_crs lines) (left_are_whole lines none)

-- a line is left as it is the second time
left_again : (lines : List (List ℕ)) → map without_crs (map without_crs lines) ≡ map without_crs lines
left_again [] = refl
left_again (line ∷ lines) =
    ap (λ (first : List ℕ). first ∷ map without_crs (map without_crs lines)) (without_crs_same (without_crs line) (without_crs_end line))
    ∙ ap (λ (rest : List (List ℕ)). without_crs line ∷ rest) (left_again lines)

-- and the text too
pub kept_lines_stay : KeptLinesStay
kept_lines_stay lines none = ap (λ (ls : List (List ℕ)). text_of (map without_crs ls)) (kept_lines_are_read lines none) ∙ ap text_of (left_again lines)

-- ---- one line more

-- the kept lines of some lines and one more
pub kept-push : (lines : List (List ℕ)) (line : List ℕ) → kept_lines (lines ++ line ∷ []) ≡ kept_lines lines ++ ended (without_crs line)
kept-push lines line =
    ap text_of (map_push without_crs lines line)
    ∙ flat_map-append ended (map without_crs lines) (without_crs line ∷ [])
    ∙ ap (λ (end : List ℕ). kept_lines lines ++ end) (append-nil (ended (without_crs line)))

-- those of the first so many parts and one more
pub kept_more : (text : List ℕ) (spans : List Span) (k : ℕ) (d : Span) → k < length spans
    → kept_lines (parts text (take (k + 1) spans)) ≡ kept_lines (parts text (take k spans)) ++ ended
    (without_crs (slice_range text (get_or spans k d).from (get_or spans k d).to))
kept_more text spans k d below =
    let part : Span → List ℕ = λ (s : Span). slice_range text s.from s.to in
    ap kept_lines (map_more part spans k d below) ∙ kept-push (parts text (take k spans)) (part (get_or spans k d))

-- the items from one on up to another and one more
pub range_item_more : {X : Type 0} (items : List X) (from i : ℕ) (d : X) → from ≤ i → i < length items → slice_range items from (i + 1) ≡ slice_range items from i ++ get_or items i d ∷ []
range_item_more {X} items from i d le lt =
    let n : (i + 1) - from ≡ (i - from) + 1 = omega arith in
    let there : get_or (drop from items) (i - from) d ≡ get_or items i d = get_or-drop from items (i - from) d ∙ ap (λ (k : ℕ). get_or items k d) (let k : from + (i - from) ≡ i = omega arith in k) in
    ap (λ (k : ℕ). take k (drop from items)) n ∙ take_more (drop from items) (i - from) d (omega (arith, length-drop from items)) ∙ ap (λ (x : X). take (i - from) (drop from items) ++ x ∷ []) there

-- the kept lines from one line on up to another and one more
pub kept_one_more : (lines : List (List ℕ)) (from i : ℕ) → from ≤ i → i < length lines
    → kept_lines (slice_range lines from (i + 1)) ≡ kept_lines (slice_range lines from i) ++ ended
    (without_crs (get_or lines i []))
kept_one_more lines from i le lt = ap kept_lines (range_item_more lines from i [] le lt) ∙ kept-push (slice_range lines from i) (get_or lines i [])
