-- The columns of a line without the CR bytes at its end.
--     columns_left      columns that don't end with CR, but for blanks behind it, are the same without
--     columns_core      and so are columns whose last one isn't blank without
--     field_left, field_same, word_left, drop_left      numbers, words and the rest of a line
use Rattle.std.proofs.Common.{◌≡◌, ℕ, zero, suc, ◌+◌, ◌-◌, ◌≤◌, Bool, true, false, eqb, List, [], ◌∷◌, ◌++◌, length, get_or, take, drop, replicate, Some, refl, sym, ap, subst, ◌∙◌, append_assoc, arith}
use Rattle.std.specs.Prelude.{ℤ}
use Rattle.std.specs.List.{list_all, suffix_len}
use Rattle.std.proofs.lemmas.Bool.{eqb-true}
use Rattle.std.proofs.lemmas.List.{append-nil, drop-replicate, get_or-append_right, get_or-replicate, length-append, length-replicate, length-take, replicate_more, take-append-drop}
use Rattle.mk_text.specs.Columns.{columns, standing, trimmed}
use Rattle.mk_text.specs.Fields.{IsField, field_in, field_of}
use Rattle.mk_text.specs.KeptLines.{is_cr, without_crs}
use Rattle.mk_text.specs.Lines.{EndsWith}
use Rattle.mk_text.proofs.FieldLemmas.{ends_not, field_end, field_found}
use Rattle.mk_text.proofs.TestLemmas.{both}
use Rattle.mk_text.proofs.TrimLemmas.{columns_are, last_pass, trimmed-columns, trimmed_last}

-- ---- what stands behind

-- CR bytes alone
crs : (cells : List ℕ) → list_all is_cr cells ≡ true → cells ≡ replicate (length cells) 13
crs [] all = refl
crs (c ∷ cells) all =
    let h = both (is_cr c) (list_all is_cr cells) all in
    ap (λ (x : ℕ). x ∷ cells) (eqb-true c 13 h.0) ∙ ap (λ (l : List ℕ). 13 ∷ l) (crs cells h.1)

-- a line is what is left, and CR bytes
pub crs_behind : (line : List ℕ) → (n : ℕ) × (line ≡ without_crs line ++ replicate n 13)
crs_behind line =
    let m = length line - suffix_len is_cr line in
    let rest = drop m line in
    (length rest, sym (take-append-drop m line) ∙ ap (λ (l : List ℕ). take m line ++ l) (crs rest (last_pass is_cr line)))

-- the same behind the first so many bytes
drop_crs : (core : List ℕ) (n i : ℕ) → (m : ℕ) × (drop i (core ++ replicate n 13) ≡ drop i core ++ replicate m 13)
drop_crs core n zero = (n, refl)
drop_crs [] n (suc i) = (n - suc i, drop-replicate (suc i) n 13)
drop_crs (c ∷ core) n (suc i) = drop_crs core n i

-- so many CR bytes
abbrev reps : ℕ → List ℕ
reps n = replicate n 13

take_nothing : (i : ℕ) → take i (reps 0) ≡ reps 0
take_nothing zero = refl
take_nothing (suc i) = refl

take_reps : (n i : ℕ) → (m : ℕ) × (take i (reps n) ≡ reps m)
take_reps n zero = (0, refl)
take_reps zero (suc i) = (0, take_nothing (suc i))
take_reps (suc n) (suc i) = let h = take_reps n i in (suc h.0, ap (λ (l : List ℕ). 13 ∷ l) h.1)

-- and of the first so many
take_crs : (core : List ℕ) (n i : ℕ) → (m : ℕ) × (take i (core ++ replicate n 13) ≡ take i core ++ replicate m 13)
take_crs core n zero = (0, refl)
take_crs [] n (suc i) = take_reps n (suc i)
take_crs (c ∷ core) n (suc i) = let h = take_crs core n i in (h.0, ap (λ (l : List ℕ). c ∷ l) h.1)

-- so what stands in columns is what stands there without, and CR bytes
standing_crs : (line : List ℕ) (a b : ℕ) → (m : ℕ) × (standing line a b ≡ standing (without_crs line) a b ++ replicate m 13)
standing_crs line a b =
    let w = crs_behind line in
    let core = without_crs line in
    let d = drop_crs core w.0 (a - 1) in
    let t = take_crs (drop (a - 1) core) d.0 (b - (a - 1)) in
    (t.0, ap (λ (l : List ℕ). standing l a b) w.1 ∙ ap (take (b - (a - 1))) d.1 ∙ t.1)

-- what stands there without passes each test that it passes
pub standing_all : (p : ℕ → Bool) (line : List ℕ) (a b : ℕ)
    → ((xs ys : List ℕ) → list_all p (xs ++ ys) ≡ true → list_all p xs ≡ true) → list_all p (standing line a b) ≡ true
    → list_all p (standing (without_crs line) a b) ≡ true
standing_all p line a b front all = let s = standing_crs line a b in front (standing (without_crs line) a b) (replicate s.0 13) (ap (list_all p) (sym s.1) ∙ all)

-- some CR bytes, with the last one apart
last_cr : (xs : List ℕ) (k : ℕ) → xs ++ replicate (suc k) 13 ≡ (xs ++ replicate k 13) ++ 13 ∷ []
last_cr xs k =
    let one_more : k + 1 ≡ suc k = omega arith in
    sym (append_assoc xs (replicate k 13) (13 ∷ []) ∙ ap (λ (l : List ℕ). xs ++ l) (replicate_more k 13 ∙ ap (λ (n : ℕ). replicate n 13) one_more))

-- ---- columns

-- where the same stands in them they are the same
same_columns : (line other : List ℕ) (a b : ℕ) → 1 ≤ a → a ≤ b → standing line a b ≡ standing other a b → columns line a b ≡ columns other a b
same_columns line other a b first order same =
    columns_are line a b first order ∙ ap (λ (l : List ℕ). l ++ replicate (b + 1 - a - length l) 32) same ∙ sym (columns_are other a b first order)

-- columns that don't end with CR, but for blanks
pub columns_left : (line : List ℕ) (a b : ℕ) → 1 ≤ a → a ≤ b → (EndsWith 13 (trimmed (columns line a b)) → ⊥) → columns (without_crs line) a b ≡ columns line a b
columns_left line a b first order end = by_count (standing_crs line a b).0 (standing_crs line a b).1
  where
    core : List ℕ
    core = without_crs line

    by_count : (m : ℕ) → standing line a b ≡ standing (without_crs line) a b ++ replicate m 13 → columns (without_crs line) a b ≡ columns line a b
    by_count zero is = same_columns (without_crs line) line a b first order (sym (is ∙ append-nil (standing (without_crs line) a b)))
    by_count (suc k) is =
        let front : List ℕ = standing (without_crs line) a b ++ replicate k 13 in
        let last = trimmed_last front 13 refl in
        let whole : trimmed (columns line a b) ≡ last.0 ++ 13 ∷ [] =
        trimmed-columns line a b first order ∙ ap trimmed (is ∙ last_cr (standing (without_crs line) a b) k) ∙ last.1 in
        absurd (end (last.0, whole))

-- columns whose last one isn't blank without
pub columns_core : (line : List ℕ) (a b : ℕ) → 1 ≤ a → a ≤ b → (get_or (columns (without_crs line) a b) (b - a) 0 ≡ 32 → ⊥) → columns (without_crs line) a b ≡ columns line a b
columns_core line a b first order some = by_count (standing_crs line a b).0 (standing_crs line a b).1
  where
    by_count : (m : ℕ) → standing line a b ≡ standing (without_crs line) a b ++ replicate m 13 → columns (without_crs line) a b ≡ columns line a b
    by_count zero is = same_columns (without_crs line) line a b first order (sym (is ∙ append-nil (standing (without_crs line) a b)))
    by_count (suc k) is =
        let on = standing (without_crs line) a b in
        let long : length (standing line a b) ≤ b - (a - 1) = omega (arith, length-take (b - (a - 1)) (drop (a - 1) line)) in
        let size : length (standing line a b) ≡ length on + suc k = ap length is ∙ length-append on (replicate (suc k) 13) ∙ ap (λ (n : ℕ). length on + n) (length-replicate (suc k) 13) in
        let blank : get_or (columns (without_crs line) a b) (b - a) 0 ≡ 32 =
        ap (λ (l : List ℕ). get_or l (b - a) 0) (columns_are (without_crs line) a b first order)
        ∙ get_or-append_right on (replicate (b + 1 - a - length on) 32) (length on) (b - a) 0 refl (omega arith)
        ∙ get_or-replicate (b + 1 - a - length on) (b - a - length on) 32 0 (omega arith) in
        absurd (some blank)

-- columns that hold a word
pub word_left : (line : List ℕ) (a b : ℕ) (word : List ℕ) → 1 ≤ a → a ≤ b
    → eqb (get_or (trimmed word) (length (trimmed word) - 1) 0) 13 ≡ false → columns line a b ≡ word
    → columns (without_crs line) a b ≡ word
word_left line a b word first order other is =
    let P : List ℕ → Type 0 = λ cells. EndsWith 13 (trimmed cells) in
    columns_left line a b first order (λ end. ends_not (trimmed word) 13 other (subst P is end)) ∙ is

-- columns that hold a number
pub columns_field : (line : List ℕ) (a b : ℕ) (z : ℤ) → 1 ≤ a → a ≤ b → IsField (columns line a b) z → columns (without_crs line) a b ≡ columns line a b
columns_field line a b z first order is = columns_left line a b first order (field_end (columns line a b) z is)

pub field_left : (line : List ℕ) (a b : ℕ) (z : ℤ) → 1 ≤ a → a ≤ b → IsField (columns line a b) z → IsField (columns (without_crs line) a b) z
field_left line a b z first order is = let P : List ℕ → Type 0 = λ cells. IsField cells z in subst P (sym (columns_field line a b z first order is)) is

-- the same as a reader says it
pub field_same : (line : List ℕ) (a b : ℕ) (z : ℤ) → 1 ≤ a → a ≤ b → field_of line a b ≡ Some z → field_of (without_crs line) a b ≡ field_of line a b
unfolding field_of
field_same line a b z first order read = ap field_in (columns_field line a b z first order (field_found line a b z read))

-- what stands behind the first so many bytes, where it doesn't end with CR
pub drop_left : (line : List ℕ) (i : ℕ) → (EndsWith 13 (drop i line) → ⊥) → drop i (without_crs line) ≡ drop i line
drop_left line i end = by_count d.0 (ap (drop i) w.1 ∙ d.1)
  where
    w : (n : ℕ) × (line ≡ without_crs line ++ replicate n 13)
    w = crs_behind line

    d : (m : ℕ) × (drop i (without_crs line ++ replicate w.0 13) ≡ drop i (without_crs line) ++ replicate m 13)
    d = drop_crs (without_crs line) w.0 i

    by_count : (m : ℕ) → drop i line ≡ drop i (without_crs line) ++ replicate m 13 → drop i (without_crs line) ≡ drop i line
    by_count zero is = sym (is ∙ append-nil (drop i (without_crs line)))
    by_count (suc k) is = absurd (end (drop i (without_crs line) ++ replicate k 13, is ∙ last_cr (drop i (without_crs line)) k))
