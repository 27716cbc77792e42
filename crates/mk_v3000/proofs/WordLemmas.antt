-- The words of a text, one after the other.
use Rattle.std.proofs.Common.{◌≡◌, ℕ, zero, suc, ◌+◌, ◌-◌, ◌≤◌, ◌<◌, Bool, true, false, not, eqb, eq-eqb, eqb-true, ne_eqb, inl, inr, List, [], ◌∷◌, ◌++◌, length, get_or, take, drop, append-nil, take-append-drop, refl, sym, ap, subst, ◌∙◌, arith}
use Rattle.std.specs.Prelude.{filter, slice_range}
use Rattle.std.specs.List.{list_all, slice_split}
use Rattle.std.proofs.lemmas.List.{drop_more, drop_all, drop-drop, length-drop, length-take-le, take_all}
use Rattle.std.proofs.lemmas.Bool.{cases_lt}
use Rattle.std.proofs.lemmas.List.Folds.{list_all-append}
use Rattle.mk_text.specs.Lines.{has_bytes, words_of}
use Rattle.mk_text.proofs.ForCallers.{both, range_item_more}

-- a byte is a blank
abbrev is_space : ℕ → Bool
is_space c = eqb c 32

-- a byte is none
abbrev pub is_other : ℕ → Bool
is_other c = not (eqb c 32)

-- no blank is a byte that isn't one
other_is : (b : Bool) → not b ≡ true → b ≡ false
other_is false h = refl
other_is true h = absurd cc

-- a blank at the front is passed over
pub words_behind_blank : (c : ℕ) (cs : List ℕ) → eqb c 32 ≡ true → words_of (c ∷ cs) ≡ words_of cs
unfolding words_of
words_behind_blank c cs blank = rw blank refl

-- what is split off a run of other bytes before a blank is the run
split_run : (w cs : List ℕ) → list_all is_other w ≡ true → slice_split is_space (w ++ 32 ∷ cs) ≡ w ∷ slice_split is_space cs
split_run [] cs all = refl
split_run (c ∷ w) cs all =
    let h = both (is_other c) (list_all is_other w) all in
    rw (other_is (eqb c 32) h.0, split_run w cs h.1) refl

-- and at the end
split_last : (w : List ℕ) → list_all is_other w ≡ true → slice_split is_space w ≡ w ∷ []
split_last [] all = refl
split_last (c ∷ w) all =
    let h = both (is_other c) (list_all is_other w) all in
    rw (other_is (eqb c 32) h.0, split_last w h.1) refl

-- a run of other bytes before a blank is a word
pub words_first : (c : ℕ) (w cs : List ℕ) → list_all is_other (c ∷ w) ≡ true → words_of ((c ∷ w) ++ 32 ∷ cs) ≡ (c ∷ w) ∷ words_of cs
unfolding words_of
words_first c w cs all = ap (filter has_bytes) (split_run (c ∷ w) cs all)

-- and at the end
pub words_last : (c : ℕ) (w : List ℕ) → list_all is_other (c ∷ w) ≡ true → words_of (c ∷ w) ≡ (c ∷ w) ∷ []
unfolding words_of
words_last c w all = ap (filter has_bytes) (split_last (c ∷ w) all)

-- nothing has no words
no_words : words_of [] ≡ []
unfolding words_of
no_words = refl

-- ---- code that goes from byte to byte

-- a blank is passed over
pub words_step : (text : List ℕ) (k : ℕ) → k < length text → get_or text k 0 ≡ 32 → words_of (drop k text) ≡ words_of text → words_of (drop (k + 1) text) ≡ words_of text
words_step text k lt blank same =
    let split : drop k text ≡ get_or text k 0 ∷ drop (k + 1) text = drop_more text k 0 lt in
    sym (ap words_of split ∙ words_behind_blank (get_or text k 0) (drop (k + 1) text) (eq-eqb (get_or text k 0) 32 blank)) ∙ same

-- one more byte that is no blank
pub run_step : (text : List ℕ) (from k : ℕ) → from ≤ k → k < length text → (get_or text k 0 ≡ 32 → ⊥)
    → list_all is_other (slice_range text from k) ≡ true → list_all is_other (slice_range text from (k + 1)) ≡ true
run_step text from k order lt other all =
    ap (list_all is_other) (range_item_more text from k 0 order lt)
    ∙ list_all-append is_other (slice_range text from k) (get_or text k 0 ∷ [])
    ∙ rw (all, ne_eqb (get_or text k 0) 32 other) refl

-- a run of bytes that are none, up to a blank or the end, is the first word
pub word_cut : (text : List ℕ) (start end : ℕ) → words_of (drop start text) ≡ words_of text → start < end
    → end ≤ length text → list_all is_other (slice_range text start end) ≡ true
    → (end < length text → get_or text end 0 ≡ 32)
    → words_of text ≡ slice_range text start end ∷ words_of (drop end text)
word_cut text start end same order within all blank =
    let run = slice_range text start end in
    let split : drop start text ≡ run ++ drop end text = range_split text start end (omega arith) within in
    let size : length run ≡ end - start = omega (arith, length-take-le (end - start) (drop start text) (omega (arith, length-drop start text))) in
    sym same ∙ ap words_of split ∙ by_run run (drop end text) all (omega arith) (λ c cs e. cut_blank c cs e)
  where
    range_split : (xs : List ℕ) (i j : ℕ) → i ≤ j → j ≤ length xs → drop i xs ≡ slice_range xs i j ++ drop j xs
    range_split xs i j first second =
        let behind : drop (j - i) (drop i xs) ≡ drop j xs = drop-drop (j - i) i xs ∙ ap (λ (n : ℕ). drop n xs) (let e : i + (j - i) ≡ j = omega arith in e) in
        sym (take-append-drop (j - i) (drop i xs)) ∙ ap (λ (ys : List ℕ). slice_range xs i j ++ ys) behind

    cut_blank : (c : ℕ) (cs : List ℕ) → drop end text ≡ c ∷ cs → c ≡ 32
    cut_blank c cs e =
        let one : length (c ∷ cs) ≡ suc (length cs) = refl in
        let lt : end < length text = omega (arith, ap length e, length-drop end text, one) in
        let first : get_or text end 0 ∷ drop (end + 1) text ≡ c ∷ cs = sym (drop_more text end 0 lt) ∙ e in
        let head : get_or text end 0 ≡ c = cc in
        sym head ∙ blank lt

    by_run : (run rest : List ℕ) → list_all is_other run ≡ true → 1 ≤ length run → ((c : ℕ) (cs : List ℕ) → rest ≡ c ∷ cs → c ≡ 32) → words_of (run ++ rest) ≡ run ∷ words_of rest
    by_run [] rest all some first = absurd (omega arith)
    by_run (x ∷ run) [] all some first = ap words_of (append-nil (x ∷ run)) ∙ words_last x run all ∙ ap (λ (ws : List (List ℕ)). (x ∷ run) ∷ ws) (sym no_words)
    by_run (x ∷ run) (c ∷ cs) all some first =
        let blank : c ≡ 32 = first c cs refl in
        ap (λ (b : ℕ). words_of ((x ∷ run) ++ b ∷ cs)) blank ∙ words_first x run cs all ∙ ap (λ (ws : List (List ℕ)). (x ∷ run) ∷ ws) (sym (words_behind_blank c cs (eq-eqb c 32 blank)))

-- there is no byte that isn't blank
pub none_found : (text : List ℕ) (start : ℕ) → start ≡ length text → words_of (drop start text) ≡ words_of text → words_of text ≡ []
none_found text start e same = sym same ∙ ap words_of (drop_all start text (omega (arith, e))) ∙ no_words

-- the word has a byte
word_begins : (text : List ℕ) (start end : ℕ) → start ≤ length text → (start ≡ length text → ⊥)
    → (start < length text → eqb (get_or text start 0) 32 ≡ false) → start ≤ end
    → (end < length text → eqb (get_or text end 0) 32 ≡ true) → start < end
word_begins text start end within ne other order blank = elim (cases_lt start end) [
  | inl lt ↦ lt
  | inr le ↦
      let lt : start < length text = below start (length text) within ne in
      let same : end ≡ start = omega arith in
      absurd (let a = other lt in let b = blank (omega arith)
      in let c : eqb (get_or text start 0) 32 ≡ true = ap (λ (k : ℕ). eqb (get_or text k 0) 32) (sym same) ∙ b in
      let d : false ≡ true = sym a ∙ c in cc)
]
  where
    below : (a b : ℕ) → a ≤ b → (a ≡ b → ⊥) → a < b
    below a b le ne = elim (cases_lt a b) [ inl lt ↦ lt | inr ge ↦ absurd (ne (omega arith)) ]

-- the rest of the text is what stands behind the word
pub word_found : (text : List ℕ) (start end : ℕ) → start ≤ length text → (start ≡ length text → ⊥)
    → words_of (drop start text) ≡ words_of text → (start < length text → eqb (get_or text start 0) 32 ≡ false)
    → start ≤ end → end ≤ length text
    → list_all is_other (slice_range text start end) ≡ true → (end < length text → eqb (get_or text end 0) 32 ≡ true)
    → words_of text ≡ slice_range text start end ∷ words_of (take (length text - end) (drop end text))
word_found text start end within ne same other order inside all blank =
    let lt = word_begins text start end within ne other order blank in
    let rest : take (length text - end) (drop end text) ≡ drop end text = take_all (length text - end) (drop end text) (omega (arith, length-drop end text)) in
    word_cut text start end same lt inside all (λ more. eqb-true (get_or text end 0) 32 (blank more)) ∙ ap (λ (ys : List ℕ). slice_range text start end ∷ words_of ys) (sym rest)

-- it is shorter
pub word_shorter : (text : List ℕ) (start end : ℕ) → start ≤ length text → (start ≡ length text → ⊥)
    → (start < length text → eqb (get_or text start 0) 32 ≡ false) → start ≤ end → end ≤ length text
    → (end < length text → eqb (get_or text end 0) 32 ≡ true)
    → length (take (length text - end) (drop end text)) < length text
word_shorter text start end within ne other order inside blank =
    let lt = word_begins text start end within ne other order blank in
    omega (arith, length-take-le (length text - end) (drop end text) (omega (arith, length-drop end text)))
