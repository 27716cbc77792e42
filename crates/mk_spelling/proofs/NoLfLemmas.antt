-- Texts that hold no LF, and how entries end.
use Rattle.std.proofs.Common.{◌≡◌, ℕ, zero, suc, ◌-◌, ◌≤◌, Bool, true, false, not, eqb, List, [], ◌∷◌, ◌++◌, length, get_or, replicate, refl, sym, ap, ◌∙◌, subst, arith}
use Rattle.std.specs.Prelude.{ℤ, pos, negsuc, decimal, Contains}
use Rattle.std.specs.List.{flat_map, list_all, AllByRecursion}
use Rattle.std.specs.Char.{is_ascii_digit}
use Rattle.std.proofs.lemmas.Bool.{eqb-true}
use Rattle.std.proofs.lemmas.Bool.Decides.{nat_tests}
use Rattle.std.proofs.lemmas.List.{append-nil}
use Rattle.std.proofs.lemmas.List.Folds.{list_all-append}
use Rattle.mk_text.specs.Columns.{is_space, trimmed}
use Rattle.mk_text.specs.Spelling.{signed_decimal}
use Rattle.mk_text.proofs.ForCallers.{decimal_digits, both, and_true}
use Rattle.mk_props.specs.Lists.{flag_text}
use Rattle.mk_tables.specs.TableLines.{Line}
use Rattle.mk_spelling.specs.TableSpelling.{three, count_text, at_left, FitsThree}
use Rattle.mk_spelling.proofs.ThreeLemmas.{HasEnd, end_behind, fits_pos, fits_negsuc, count_fits}
use Rattle.mk_spelling.proofs.EndLemmas.{IsPadded, trimmed_is_core}

-- ---- no LF

-- any byte but LF
abbrev pub is_no_lf : ℕ → Bool
is_no_lf c = not (eqb c 10)

-- the text holds no LF
abbrev pub HasNoLf : List ℕ → Type 0
HasNoLf text = list_all is_no_lf text ≡ true

-- two texts
pub no_lf_both : (a b : List ℕ) → HasNoLf a → HasNoLf b → HasNoLf (a ++ b)
no_lf_both a b first second = list_all-append is_no_lf a b ∙ and_true (list_all is_no_lf a) (list_all is_no_lf b) first second

-- the first of two
pub no_lf_first : (a b : List ℕ) → HasNoLf (a ++ b) → HasNoLf a
no_lf_first a b whole = (both (list_all is_no_lf a) (list_all is_no_lf b) (sym (list_all-append is_no_lf a b) ∙ whole)).0

-- blanks
pub no_lf_blanks : (n : ℕ) → HasNoLf (replicate n 32)
no_lf_blanks zero = refl
no_lf_blanks (suc n) = no_lf_blanks n

-- a digit
pub no_lf_digit : (c : ℕ) → is_ascii_digit c ≡ true → is_no_lf c ≡ true
no_lf_digit c digit = grind (arith, nat_tests)

-- digits
pub no_lf_digits : (ds : List ℕ) → list_all is_ascii_digit ds ≡ true → HasNoLf ds
no_lf_digits [] digits = refl
no_lf_digits (d ∷ ds) digits =
    let each = both (is_ascii_digit d) (list_all is_ascii_digit ds) digits in
    and_true (is_no_lf d) (list_all is_no_lf ds) (no_lf_digit d each.0) (no_lf_digits ds each.1)

-- a number with a sign
pub no_lf_signed : (z : ℤ) → FitsThree z → HasNoLf (signed_decimal z)
no_lf_signed (pos n) fits = let small = fits_pos n fits in no_lf_digits (decimal n) (decimal_digits n (omega arith))
no_lf_signed (negsuc n) fits = let small = fits_negsuc n fits in no_lf_digits (decimal (suc n)) (decimal_digits (suc n) (omega arith))

-- and in three columns
pub no_lf_three : (z : ℤ) → FitsThree z → HasNoLf (three z)
unfolding three
no_lf_three z fits = no_lf_both (replicate (3 - length (signed_decimal z)) 32) (signed_decimal z) (no_lf_blanks (3 - length (signed_decimal z))) (no_lf_signed z fits)

-- a count
pub no_lf_count : {X : Type 0} (xs : List X) → length xs ≤ 999 → HasNoLf (count_text xs)
no_lf_count xs few = no_lf_three (pos (length xs)) (count_fits (length xs) few)

-- by whether the byte is LF
pub no_lf_byte : (c : ℕ) (test : Bool) → eqb c 10 ≡ test → (c ≡ 10 → ⊥) → is_no_lf c ≡ true
no_lf_byte c true is other = absurd (other (eqb-true c 10 is))
no_lf_byte c false is other = rw is refl

-- a text that contains no LF
pub no_lf_text : (text : List ℕ) → (Contains text 10 → ⊥) → HasNoLf text
no_lf_text [] none = refl
no_lf_text (c ∷ cs) none =
    and_true (is_no_lf c) (list_all is_no_lf cs) (no_lf_byte c (eqb c 10) refl (λ is. none (0, omega arith, is)))
    (no_lf_text cs (λ there. none (suc there.0, omega (arith, there.1), there.2)))

-- a text at the left of its columns
pub no_lf_left : (width : ℕ) (text : List ℕ) → (Contains text 10 → ⊥) → HasNoLf (at_left width text)
unfolding at_left
no_lf_left width text none = no_lf_both text (replicate (width - length text) 32) (no_lf_text text none) (no_lf_blanks (width - length text))

-- T or F
pub no_lf_flag : (not : Bool) → HasNoLf (flag_text not)
no_lf_flag true = refl
no_lf_flag false = refl

-- entries
pub no_lf_each : {X : Type 0} (text : X → List ℕ) (xs : List X) → AllByRecursion (λ x. HasNoLf (text x)) xs → HasNoLf (flat_map text xs)
no_lf_each text [] no_lf = refl
no_lf_each text (x ∷ xs) no_lf = no_lf_both (text x) (flat_map text xs) no_lf.0 (no_lf_each text xs no_lf.1)

-- a line without the blanks at its end
pub no_lf_core : (line : Line) → IsPadded line → is_space (get_or line 0 0) ≡ false → HasNoLf line → HasNoLf (trimmed line)
no_lf_core line padded begins no_lf =
    ap (list_all is_no_lf) (trimmed_is_core line padded begins)
    ∙ no_lf_first padded.core (replicate padded.blanks 32) (ap (list_all is_no_lf) (sym padded.whole) ∙ no_lf)

-- ---- ends

-- the last of some entries ends the text
pub end_each : {X : Type 0} (text : X → List ℕ) (xs : List X) → 1 ≤ length xs → AllByRecursion (λ x. HasEnd (text x)) xs → HasEnd (flat_map text xs)
end_each text [] some ends = absurd (omega arith)
end_each text (x ∷ []) some ends = subst HasEnd (sym (append-nil (text x))) ends.0
end_each text (x ∷ y ∷ ys) some ends = end_behind (text x) (flat_map text (y ∷ ys)) (end_each text (y ∷ ys) (omega arith) ends.1)
