-- The computed number of a field is the one that its columns hold.
use Rattle.std.proofs.Common.{◌≡◌, ℕ, ◌+◌, ◌-◌, ◌<◌, ◌≤◌, ◌⊎◌, inl, inr, Bool, true, false, cond, leb, eqb, ◌&&◌, List, [], ◌∷◌, ◌++◌, length, get_or, take, ◌*◌, Option, Some, None, refl, sym, ap, subst, ◌∙◌, arith}
use Rattle.std.specs.Prelude.{ℤ, pos, neg_ℤ}
use Rattle.std.specs.Option.{option_map}
use Rattle.std.specs.List.{list_all}
use Rattle.std.specs.Char.{is_ascii_digit}
use Rattle.std.specs.Str.Parse.{digits_value}
use Rattle.std.proofs.lemmas.Bool.{eq-eqb, le-leb, leb-true, true≢false}
use Rattle.std.proofs.lemmas.Bool.Decides.{nat_tests}
use Rattle.std.proofs.lemmas.List.Folds.{list_all-append}
use Rattle.std.proofs.lemmas.List.{get_or-append_right, get_or_at, length-append}
use Rattle.mk_text.specs.Lines.{EndsWith}
use Rattle.mk_text.specs.Columns.{columns, is_space, are_blank, trimmed}
use Rattle.mk_text.specs.Fields.{Sign, NoSign, Plus, Minus, sign_text, signed, IsField, digits_number, signed_in, field_in, field_of, FieldsAreRead}
use Rattle.mk_text.proofs.DigitLemmas.{digit_at, is_digit_range, value_more}
use Rattle.mk_text.proofs.TrimLemmas.{trimmed_is_between, trimmed_between, trimmed_blank}

-- ---- what the computation finds

-- one to nine digits, and their number
record AreDigits (ds : List ℕ) (n : ℕ) : Type 0 where
  some : 1 ≤ length ds
  few : length ds ≤ 9
  digits : list_all is_ascii_digit ds ≡ true
  value : n ≡ digits_value 10 ds

-- a sign or none, and digits
record AreSigned (cells : List ℕ) (z : ℤ) : Type 0 where
  sign : Sign
  ds : List ℕ
  n : ℕ
  whole : cells ≡ sign_text sign ++ ds
  digits : AreDigits ds n
  value : z ≡ signed sign n

-- where a mapped value is there, a value was
mapped : {A B : Type 0} (f : A → B) (o : Option A) (y : B) → option_map f o ≡ Some y → (x : A) × (o ≡ Some x) × (y ≡ f x)
mapped f None y found = absurd cc
mapped f (Some x) y found = (x, refl, cc)

-- by the three tests of digits
digits_by : (ds : List ℕ) (n : ℕ) (some few all : Bool) → leb 1 (length ds) ≡ some → leb (length ds) 9 ≡ few
    → list_all is_ascii_digit ds ≡ all → cond (some && (few && all)) (Some (digits_value 10 ds)) None ≡ Some n
    → AreDigits ds n
digits_by ds n true true true a b d found = record { some = leb-true _ _ a; few = leb-true _ _ b; digits = d; value = cc }
digits_by ds n true true false a b d found = absurd cc
digits_by ds n true false all a b d found = absurd cc
digits_by ds n false few all a b d found = absurd cc

-- the number that is found is that of digits
digits_found : (ds : List ℕ) (n : ℕ) → digits_number ds ≡ Some n → AreDigits ds n
unfolding digits_number
digits_found ds n found = digits_by ds n _ _ _ refl refl refl found

-- by the first byte
signed_by : (c : ℕ) (cs : List ℕ) (z : ℤ) (plus minus : Bool) → eqb c 43 ≡ plus → eqb c 45 ≡ minus
    → cond plus (option_map pos (digits_number cs)) (cond minus (option_map (λ n. neg_ℤ (pos n)) (digits_number cs)) (option_map pos (digits_number (c ∷ cs)))) ≡ Some z
    → AreSigned (c ∷ cs) z
signed_by c cs z true minus a b found =
    let m = mapped pos (digits_number cs) z found in
    let is : c ≡ 43 = grind (arith, nat_tests) in
    record { sign = Plus; ds = cs; n = m.0; whole = ap (λ x. x ∷ cs) is; digits = digits_found cs m.0 m.1; value = m.2 }
signed_by c cs z false true a b found =
    let m = mapped (λ n. neg_ℤ (pos n)) (digits_number cs) z found in
    let is : c ≡ 45 = grind (arith, nat_tests) in
    record { sign = Minus; ds = cs; n = m.0; whole = ap (λ x. x ∷ cs) is; digits = digits_found cs m.0 m.1; value = m.2 }
signed_by c cs z false false a b found =
    let m = mapped pos (digits_number (c ∷ cs)) z found in
    record { sign = NoSign; ds = c ∷ cs; n = m.0; whole = refl; digits = digits_found (c ∷ cs) m.0 m.1; value = m.2 }

-- what is found is nothing, or a sign or none and digits
signed_found : (cells : List ℕ) (z : ℤ) → signed_in cells ≡ Some z → ((cells ≡ []) × (z ≡ pos 0)) ⊎ AreSigned cells z
signed_found [] z found = inl (refl, cc)
signed_found (c ∷ cs) z found = inr (signed_by c cs z _ _ refl refl found)

-- blanks and blanks are blanks
blanks_joined : (before after : List ℕ) → are_blank before ≡ true → are_blank after ≡ true → are_blank (before ++ after) ≡ true
blanks_joined before after blank_before blank_after = rw (list_all-append is_space before after, blank_before) blank_after

-- what is computed is the number of the field
found : (cells : List ℕ) (z : ℤ) → field_in cells ≡ Some z → IsField cells z
found cells z read =
    let b = trimmed_is_between cells in
    elim (signed_found (trimmed cells) z read) [
      | inl h ↦
          let whole : cells ≡ b.before ++ b.after = b.whole ∙ ap (λ (core : List ℕ). b.before ++ (core ++ b.after)) h.0 in
          inl (ap are_blank whole ∙ blanks_joined b.before b.after b.blank_before b.blank_after, h.1)
      | inr h ↦
          inr (record {
            before = b.before;
            sign = h.sign;
            digits = h.ds;
            after = b.after;
            whole = b.whole ∙ ap (λ (core : List ℕ). b.before ++ (core ++ b.after)) h.whole;
            blank_before = b.blank_before;
            blank_after = b.blank_after;
            some_digits = h.digits.some;
            few_digits = h.digits.few;
            are_digits = h.digits.digits;
            value = h.value ∙ ap (signed h.sign) h.digits.value;
          })
    ]

-- ---- what columns that hold a number give

-- a digit is no blank
digit_no_space : (c : ℕ) → 48 ≤ c → is_space c ≡ false
digit_no_space c least = grind (arith, nat_tests)

-- the number of one to nine digits is found
pub digits_given : (ds : List ℕ) → 1 ≤ length ds → length ds ≤ 9 → list_all is_ascii_digit ds ≡ true → digits_number ds ≡ Some (digits_value 10 ds)
unfolding digits_number
digits_given ds some few digits = rw (le-leb 1 (length ds) some, le-leb (length ds) 9 few, digits) refl

-- digits without a sign
unsigned_given : (ds : List ℕ) → 1 ≤ length ds → list_all is_ascii_digit ds ≡ true → signed_in ds ≡ option_map pos (digits_number ds)
unsigned_given [] some digits = absurd (omega arith)
unsigned_given (d ∷ ds) some digits =
    let first = digit_at (d ∷ ds) 0 digits (omega arith) in
    let no_plus : eqb d 43 ≡ false = grind (arith, nat_tests) in
    let no_minus : eqb d 45 ≡ false = grind (arith, nat_tests) in
    rw (no_plus, no_minus) refl

-- and that of a sign or none and digits
pub signed_given : (s : Sign) (ds : List ℕ) → 1 ≤ length ds → length ds ≤ 9 → list_all is_ascii_digit ds ≡ true → signed_in (sign_text s ++ ds) ≡ Some (signed s (digits_value 10 ds))
signed_given NoSign ds some few digits = unsigned_given ds some digits ∙ ap (option_map pos) (digits_given ds some few digits)
signed_given Plus ds some few digits = ap (option_map pos) (digits_given ds some few digits)
signed_given Minus ds some few digits = ap (option_map (λ n. neg_ℤ (pos n))) (digits_given ds some few digits)

-- a sign or a digit is no blank
first_no_space : (s : Sign) (ds : List ℕ) → 1 ≤ length ds → list_all is_ascii_digit ds ≡ true → is_space (get_or (sign_text s ++ ds) 0 0) ≡ false
first_no_space NoSign ds some digits = digit_no_space (get_or ds 0 0) (digit_at ds 0 digits (omega arith)).0
first_no_space Plus ds some digits = refl
first_no_space Minus ds some digits = refl

-- the last one is the last digit
last_digit : (s : Sign) (ds : List ℕ) → 1 ≤ length ds → get_or (sign_text s ++ ds) (length (sign_text s ++ ds) - 1) 0 ≡ get_or ds (length ds - 1) 0
last_digit s ds some =
    let size : length (sign_text s ++ ds) ≡ length (sign_text s) + length ds = length-append (sign_text s) ds in
    let place : length (sign_text s ++ ds) - 1 - length (sign_text s) ≡ length ds - 1 = omega arith in
    get_or-append_right (sign_text s) ds (length (sign_text s)) (length (sign_text s ++ ds) - 1) 0 refl (omega arith) ∙ ap (λ (i : ℕ). get_or ds i 0) place

-- which is no blank
last_no_space : (s : Sign) (ds : List ℕ) → 1 ≤ length ds → list_all is_ascii_digit ds ≡ true → is_space (get_or (sign_text s ++ ds) (length (sign_text s ++ ds) - 1) 0) ≡ false
last_no_space s ds some digits = ap is_space (last_digit s ds some) ∙ digit_no_space (get_or ds (length ds - 1) 0) (digit_at ds (length ds - 1) digits (omega arith)).0

-- a sign or none and digits, between blanks
pub number_given : (before after : List ℕ) (s : Sign) (ds : List ℕ) → are_blank before ≡ true → are_blank after ≡ true
    → 1 ≤ length ds → length ds ≤ 9 → list_all is_ascii_digit ds ≡ true
    → field_in (before ++ ((sign_text s ++ ds) ++ after)) ≡ Some (signed s (digits_value 10 ds))
number_given before after s ds blank_before blank_after some few digits =
    let core = sign_text s ++ ds in
    let any : 0 < length core = omega (arith, length-append (sign_text s) ds) in
    ap signed_in (trimmed_between before core after blank_before blank_after any (first_no_space s ds some digits) (last_no_space s ds some digits))
    ∙ signed_given s ds some few digits

-- the number of a field is computed
given : (cells : List ℕ) (z : ℤ) → IsField cells z → field_in cells ≡ Some z
given cells z (inl h) = ap signed_in (trimmed_blank cells h.0) ∙ ap Some (sym h.1)
given cells z (inr h) =
    ap field_in h.whole ∙ number_given h.before h.after h.sign h.digits h.blank_before h.blank_after h.some_digits h.few_digits h.are_digits ∙ ap Some (sym h.value)

-- field and computation agree
pub fields_are_read : FieldsAreRead
fields_are_read cells z = (found cells z, given cells z)

-- ---- for the answers of a reader

-- what was read is the number that the columns hold
pub some_is_field : (cells : List ℕ) (o : Option ℤ) (z : ℤ) → o ≡ field_in cells → o ≡ Some z → IsField cells z
some_is_field cells o z read some = found cells z (sym read ∙ some)

-- where nothing is read, they hold none
pub none_is_no_field : (cells : List ℕ) → None ≡ field_in cells → (z : ℤ) → IsField cells z → ⊥
none_is_no_field cells none z is = let some = given cells z is in cc

-- ---- for readers of lines

-- a field that was read holds the number
pub field_found : (line : List ℕ) (a b : ℕ) (n : ℤ) → field_of line a b ≡ Some n → IsField (columns line a b) n
unfolding field_of
field_found line a b n read = (fields_are_read (columns line a b) n).0 read

-- and one that holds it is read
pub field_given : (line : List ℕ) (a b : ℕ) (n : ℤ) → IsField (columns line a b) n → field_of line a b ≡ Some n
unfolding field_of
field_given line a b n is = (fields_are_read (columns line a b) n).1 is

-- ---- how a number ends

-- the last byte of a text that ends with it
last_is : (text : List ℕ) (c : ℕ) → EndsWith c text → (1 ≤ length text) × (get_or text (length text - 1) 0 ≡ c)
last_is text c end =
    let size : length text ≡ length end.0 + 1 = ap length end.1 ∙ length-append end.0 (c ∷ []) in
    (omega arith, ap (λ (l : List ℕ). get_or l (length text - 1) 0) end.1 ∙ get_or_at end.0 c [] 0 (length text - 1) (omega arith))

-- a text whose last byte is another doesn't end with it
pub ends_not : (text : List ℕ) (c : ℕ) → eqb (get_or text (length text - 1) 0) c ≡ false → EndsWith c text → ⊥
ends_not text c other end = let test : eqb (get_or text (length text - 1) 0) c ≡ true = eq-eqb (get_or text (length text - 1) 0) c (last_is text c end).1 in true≢false (sym test ∙ other)

-- columns that hold a number end with no CR, but for blanks
pub field_end : (cells : List ℕ) (z : ℤ) → IsField cells z → EndsWith 13 (trimmed cells) → ⊥
field_end cells z (inl blank) end = absurd (omega (arith, (last_is (trimmed cells) 13 end).0, ap length (trimmed_blank cells blank.0)))
field_end cells z (inr h) end =
    let core = sign_text h.sign ++ h.digits in
    let any : 0 < length core = omega (arith, length-append (sign_text h.sign) h.digits, h.some_digits) in
    let is : trimmed cells ≡ core =
    ap trimmed h.whole ∙ trimmed_between h.before core h.after h.blank_before h.blank_after any
    (first_no_space h.sign h.digits h.some_digits h.are_digits)
    (last_no_space h.sign h.digits h.some_digits h.are_digits) in
    let P : List ℕ → Type 0 = EndsWith 13 in
    let last = (last_is core 13 (subst P is end)).1 in
    let digit = digit_at h.digits (length h.digits - 1) h.are_digits (omega (arith, h.some_digits)) in
    absurd (omega (arith, digit.0, last_digit h.sign h.digits h.some_digits, last))

-- ---- small numbers after blanks

-- the value of one digit, and of two
one_digit : (d : ℕ) → is_ascii_digit d ≡ true → digits_value 10 (d ∷ []) + 48 ≡ d
one_digit d is = omega (arith, value_more (d ∷ []) 0 0 (rw is refl) (omega arith) refl, is_digit_range d is)

two_digits : (d e : ℕ) → is_ascii_digit d ≡ true → is_ascii_digit e ≡ true → digits_value 10 (d ∷ e ∷ []) + 528 ≡ 10 * d + e
two_digits d e first second =
    let all : list_all is_ascii_digit (d ∷ e ∷ []) ≡ true = rw (first, second) refl in
    let front : digits_value 10 (d ∷ []) ≡ digits_value 10 (take 1 (d ∷ e ∷ [])) = refl in
    omega (arith, value_more (d ∷ e ∷ []) 1 (digits_value 10 (d ∷ [])) all (omega arith) front, one_digit d first, is_digit_range d first, is_digit_range e second)

pub small_one : (d n : ℕ) → is_ascii_digit d ≡ true → n + 48 ≡ d → field_in (32 ∷ 32 ∷ d ∷ []) ≡ Some (pos n)
small_one d n is value =
    number_given (32 ∷ 32 ∷ []) [] NoSign (d ∷ []) refl refl (omega arith) (omega arith) (rw is refl)
    ∙ ap (λ k. Some (pos k)) (omega (arith, one_digit d is, value))

pub small_two : (d e m n : ℕ) → is_ascii_digit d ≡ true → is_ascii_digit e ≡ true → m + 48 ≡ d → n + 48 ≡ e → field_in (32 ∷ d ∷ e ∷ []) ≡ Some (pos (10 * m + n))
small_two d e m n first second tens ones =
    number_given (32 ∷ []) [] NoSign (d ∷ e ∷ []) refl refl (omega arith) (omega arith) (rw (first, second) refl)
    ∙ ap (λ k. Some (pos k)) (omega (arith, two_digits d e first second, tens, ones))

-- three columns by their bytes
pub three_cells : (cells : List ℕ) → length cells ≡ 3 → cells ≡ get_or cells 0 0 ∷ get_or cells 1 0 ∷ get_or cells 2 0 ∷ []
three_cells [] size = absurd (omega (arith, size))
three_cells (a ∷ []) size = absurd (omega (arith, size))
three_cells (a ∷ b ∷ []) size = absurd (omega (arith, size))
three_cells (a ∷ b ∷ c ∷ []) size = refl
three_cells (a ∷ b ∷ c ∷ d ∷ cells) size = absurd (omega (arith, size))
