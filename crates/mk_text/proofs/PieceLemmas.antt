-- Pieces of a text.
use Rattle.std.proofs.Common.{◌≡◌, ℕ, suc, ◌+◌, ◌-◌, ◌<◌, ◌≤◌, true, false, eqb, All, List, [], ◌∷◌, ◌++◌, length, get_or, take, drop, map, refl, sym, ap, subst, ◌∙◌, append_assoc, arith, inl, inr}
use Rattle.std.specs.Prelude.{slice_range}
use Rattle.std.specs.List.{filter, slice_split}
use Rattle.std.proofs.lemmas.List.{get_or_default}
use Rattle.std.proofs.lemmas.List.Splits.{slice_split_at, slice_split_none}
use Rattle.std.proofs.lemmas.List.{take_more, get_or-drop, get_or-take, length-take, length-drop, drop_more, drop_all, append-nil, map_push}
use Rattle.std.proofs.lemmas.List.Folds.{drop_split}
use Rattle.mk_text.specs.declared.cutting.Span.{Span}
use Rattle.std.proofs.lemmas.Bool.{cases_lt}
use Rattle.mk_text.specs.Lines.{without_cr, pieces, lines_of, words_of, has_bytes}
use Rattle.mk_text.specs.Spans.{parts}

-- one byte more
pub range_more : (xs : List ℕ) (i j : ℕ) → i ≤ j → j < length xs → slice_range xs i (j + 1) ≡ slice_range xs i j ++ get_or xs j 0 ∷ []
range_more xs i j le lt =
    let n : (j + 1) - i ≡ (j - i) + 1 = omega arith in
    let there : get_or (drop i xs) (j - i) 0 ≡ get_or xs j 0 = get_or-drop i xs (j - i) 0 ∙ ap (λ k. get_or xs k 0) (omega arith) in
    ap (λ k. take k (drop i xs)) n ∙ take_more (drop i xs) (j - i) 0 (omega (arith, length-drop i xs)) ∙ ap (λ (x : ℕ). take (j - i) (drop i xs) ++ x ∷ []) there

-- a CR at the end is dropped
pub without_cr-at_cr : (xs : List ℕ) (b : ℕ) → b ≡ 13 → without_cr (xs ++ b ∷ []) ≡ xs
without_cr-at_cr [] b h = rw h refl
without_cr-at_cr (x ∷ []) b h = rw h refl
without_cr-at_cr (x ∷ y ∷ xs) b h = ap (λ (t : List ℕ). x ∷ t) (without_cr-at_cr (y ∷ xs) b h)

-- any other byte stays
pub without_cr-at_other : (xs : List ℕ) (b : ℕ) → eqb b 13 ≡ false → without_cr (xs ++ b ∷ []) ≡ xs ++ b ∷ []
without_cr-at_other [] b h = rw h refl
without_cr-at_other (x ∷ []) b h = rw h refl
without_cr-at_other (x ∷ y ∷ xs) b h = ap (λ (t : List ℕ). x ∷ t) (without_cr-at_other (y ∷ xs) b h)

-- a piece ends at the first LF
pub pieces_at : (p : List ℕ) (rest : List ℕ) → ((k : ℕ) → k < length p → eqb (get_or p k 0) 10 ≡ false) → pieces (p ++ 10 ∷ rest) ≡ p ∷ pieces rest
pieces_at [] rest h = refl
pieces_at (b ∷ p) rest h = rw (h 0 (omega arith), pieces_at p rest (λ k lt. h (suc k) (omega arith))) refl

-- and at the end of the text
pub pieces_last : (b : ℕ) (p : List ℕ) → ((k : ℕ) → k < length (b ∷ p) → eqb (get_or (b ∷ p) k 0) 10 ≡ false) → pieces (b ∷ p) ≡ (b ∷ p) ∷ []
pieces_last b [] h = rw (h 0 (omega arith)) refl
pieces_last b (c ∷ p) h = rw (h 0 (omega arith), pieces_last c p (λ k lt. h (suc k) (omega arith))) refl

-- no LF stands between two places
abbrev pub NoLfBetween : List ℕ → ℕ → ℕ → Type 0
NoLfBetween text start end = (k : ℕ) → start ≤ k → k < end → eqb (get_or text k 0) 10 ≡ false

-- a byte of a part of a text
in_range : (text : List ℕ) (start end k : ℕ) → k < end - start → get_or (slice_range text start end) k 0 ≡ get_or text (start + k) 0
in_range text start end k lt = get_or-take (end - start) (drop start text) k 0 lt ∙ get_or-drop start text k 0

-- so none stands in that part
range_none : (text : List ℕ) (start end : ℕ) → NoLfBetween text start end → (k : ℕ) → k < length (slice_range text start end) → eqb (get_or (slice_range text start end) k 0) 10 ≡ false
range_none text start end none k lt =
    let short : k < end - start = omega (arith, length-take (end - start) (drop start text)) in
    ap (λ (b : ℕ). eqb b 10) (in_range text start end k short) ∙ none (start + k) (omega arith) (omega arith)

-- the line that ends at an LF
pub lines_at : (text : List ℕ) (start i : ℕ) → start ≤ i → i < length text → get_or text i 0 ≡ 10
    → NoLfBetween text start i → lines_of (drop start text) ≡ without_cr (slice_range text start i) ∷ lines_of
    (drop (i + 1) text)
unfolding lines_of
lines_at text start i le lt is none =
    let whole : drop start text ≡ slice_range text start i ++ 10 ∷ drop (i + 1) text = drop_split text start i le
    ∙ ap (λ (t : List ℕ). slice_range text start i ++ t)
    (drop_more text i 0 lt ∙ ap (λ (b : ℕ). b ∷ drop (i + 1) text) is) in
    ap (λ (t : List ℕ). map without_cr (pieces t)) whole ∙ ap (map without_cr) (pieces_at (slice_range text start i) (drop (i + 1) text) (range_none text start i none))

-- the last piece, where there is one
last_of : (p : List ℕ) → 0 < length p → ((k : ℕ) → k < length p → eqb (get_or p k 0) 10 ≡ false) → pieces p ≡ p ∷ []
last_of [] lt h = absurd (omega arith)
last_of (b ∷ p) lt h = pieces_last b p h

-- the line that ends with the text
pub lines_last : (text : List ℕ) (start : ℕ) → start < length text → NoLfBetween text start (length text) → lines_of (drop start text) ≡ without_cr (slice_range text start (length text)) ∷ []
unfolding lines_of
lines_last text start lt none =
    let whole : drop start text ≡ slice_range text start (length text) =
    drop_split text start (length text) (omega arith)
    ∙ ap (λ (t : List ℕ). slice_range text start (length text) ++ t) (drop_all (length text) text (omega arith))
    ∙ append-nil (slice_range text start (length text)) in
    ap (λ (t : List ℕ). map without_cr (pieces t)) whole
    ∙ ap (map without_cr) (last_of (slice_range text start (length text))
    (omega (arith, length-take (length text - start) (drop start text), length-drop start text))
    (range_none text start (length text) none))

-- no line stands after an LF at the end
pub lines_none : (text : List ℕ) (start : ℕ) → length text ≤ start → lines_of (drop start text) ≡ []
unfolding lines_of
lines_none text start le = ap (λ (t : List ℕ). map without_cr (pieces t)) (drop_all start text le)

-- the line from there on, which ends at the first LF or with the text
pub line_by : (text : List ℕ) (start lf : ℕ) → start < length text → start ≤ lf → lf ≤ length text → NoLfBetween text start lf
    → (lf < length text → get_or text lf 0 ≡ 10)
    → lines_of (drop start text) ≡ without_cr (slice_range text start lf) ∷ lines_of (drop (lf + 1) text)
line_by text start lf some le within none found =
    elim (cases_lt lf (length text)) [
      | inl below ↦ lines_at text start lf le below (found below) none
      | inr past ↦
          let last : lf ≡ length text = omega arith in
          lines_last text start some (subst (NoLfBetween text start) last none)
          ∙ ap (λ (n : ℕ). without_cr (slice_range text start n) ∷ []) (sym last)
          ∙ ap (λ (ls : List (List ℕ)). without_cr (slice_range text start lf) ∷ ls) (sym (lines_none text (lf + 1) (omega arith)))
    ]

-- one line more, and what is left
pub one_more : (text : List ℕ) (spans : List Span) (s : Span) (left rest total : List (List ℕ))
    → parts text spans ++ left ≡ total → left ≡ slice_range text s.from s.to ∷ rest
    → parts text (spans ++ s ∷ []) ++ rest ≡ total
one_more text spans s left rest total so_far e =
    let line = slice_range text s.from s.to in
    ap (λ (ts : List (List ℕ)). ts ++ rest) (map_push (λ (s : Span). slice_range text s.from s.to) spans s)
    ∙ append_assoc (parts text spans) (line ∷ []) rest ∙ ap (λ (ts : List (List ℕ)). parts text spans ++ ts) (sym e)
    ∙ so_far

-- ---- words

-- no blank stands between two places
abbrev pub NoBlankBetween : List ℕ → ℕ → ℕ → Type 0
NoBlankBetween line start end = (k : ℕ) → start ≤ k → k < end → eqb (get_or line k 0) 32 ≡ false

-- so none stands in that part
run_none : (line : List ℕ) (start end : ℕ) → NoBlankBetween line start end → All (λ b. eqb b 32 ≡ false) (slice_range line start end)
run_none line start end none k d lt =
    let short : k < end - start = omega (arith, length-take (end - start) (drop start line)) in
    ap (λ (b : ℕ). eqb b 32) (get_or_default (slice_range line start end) k d 0 lt ∙ in_range line start end k short) ∙ none (start + k) (omega arith) (omega arith)

-- a part with a byte
has_some : (xs : List ℕ) → 0 < length xs → has_bytes xs ≡ true
has_some [] lt = absurd (omega arith)
has_some (x ∷ xs) lt = refl

-- the word that ends at a blank, where there is one
pub words_at : (line : List ℕ) (start i : ℕ) → start < i → i < length line → get_or line i 0 ≡ 32
    → NoBlankBetween line start i → words_of (drop start line) ≡ slice_range line start i ∷ words_of (drop (i + 1) line)
unfolding words_of
words_at line start i lt le is none =
    let whole : drop start line ≡ slice_range line start i ++ 32 ∷ drop (i + 1) line =
    drop_split line start i (omega arith) ∙ ap (λ (t : List ℕ). slice_range line start i ++ t)
    (drop_more line i 0 le ∙ ap (λ (b : ℕ). b ∷ drop (i + 1) line) is) in
    let some = has_some (slice_range line start i) (omega (arith, length-take (i - start) (drop start line), length-drop start line)) in
    ap (λ (t : List ℕ). filter has_bytes (slice_split (λ b. eqb b 32) t)) whole
    ∙ ap (filter has_bytes) (slice_split_at (λ b. eqb b 32) (slice_range line start i) 32 (drop (i + 1) line)
    (run_none line start i none) refl) ∙ rw some refl

-- a blank behind a blank ends no word
pub words_skip : (line : List ℕ) (start i : ℕ) → start ≡ i → i < length line → get_or line i 0 ≡ 32 → words_of (drop start line) ≡ words_of (drop (i + 1) line)
unfolding words_of
words_skip line start i same le is =
    let whole : drop start line ≡ 32 ∷ drop (i + 1) line = ap (λ (k : ℕ). drop k line) same ∙ drop_more line i 0 le ∙ ap (λ (b : ℕ). b ∷ drop (i + 1) line) is in
    ap (λ (t : List ℕ). filter has_bytes (slice_split (λ b. eqb b 32) t)) whole

-- the word that ends with the line
pub words_last : (line : List ℕ) (start : ℕ) → start < length line → NoBlankBetween line start (length line) → words_of (drop start line) ≡ slice_range line start (length line) ∷ []
unfolding words_of
words_last line start lt none =
    let whole : drop start line ≡ slice_range line start (length line) =
    drop_split line start (length line) (omega arith)
    ∙ ap (λ (t : List ℕ). slice_range line start (length line) ++ t) (drop_all (length line) line (omega arith))
    ∙ append-nil (slice_range line start (length line)) in
    let some = has_some (slice_range line start (length line)) (omega (arith, length-take (length line - start) (drop start line), length-drop start line)) in
    ap (λ (t : List ℕ). filter has_bytes (slice_split (λ b. eqb b 32) t)) whole
    ∙ ap (filter has_bytes) (slice_split_none (λ b. eqb b 32) (slice_range line start (length line))
    (run_none line start (length line) none)) ∙ rw some refl

-- no word stands behind the end
pub words_none : (line : List ℕ) (start : ℕ) → length line ≤ start → words_of (drop start line) ≡ []
unfolding words_of
words_none line start le = ap (λ (t : List ℕ). filter has_bytes (slice_split (λ b. eqb b 32) t)) (drop_all start line le)

-- the word from there on, which ends at the first blank or with the line
pub word_by : (line : List ℕ) (start blank : ℕ) → start < blank → blank ≤ length line → NoBlankBetween line start blank
    → (blank < length line → get_or line blank 0 ≡ 32)
    → words_of (drop start line) ≡ slice_range line start blank ∷ words_of (drop (blank + 1) line)
word_by line start blank some within none found =
    elim (cases_lt blank (length line)) [
      | inl below ↦ words_at line start blank some below (found below) none
      | inr past ↦
          let last : blank ≡ length line = omega arith in
          words_last line start (omega arith) (subst (NoBlankBetween line start) last none)
          ∙ ap (λ (n : ℕ). slice_range line start n ∷ []) (sym last)
          ∙ ap (λ (ws : List (List ℕ)). slice_range line start blank ∷ ws) (sym (words_none line (blank + 1) (omega arith)))
    ]
