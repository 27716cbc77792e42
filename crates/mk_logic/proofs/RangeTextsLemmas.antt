-- A text is a range exactly where the computation gives that range.
--     range_is_read     the two agree
--     one_range         so a text is at most one range
use Rattle.std.proofs.Common.{◌≡◌, ℕ, zero, suc, ◌+◌, ◌-◌, ◌<◌, ◌≤◌, Bool, true, false, not, cond, eqb, leb, ltb, List, [], ◌∷◌, ◌++◌, length, get_or, take, drop, All, Option, Some, None, refl, sym, ap, subst, ◌∙◌, append_assoc, arith, lit<, lit≤}
use Rattle.std.specs.Prelude.{◌↔◌, IfNone, IfSome}
use Rattle.std.specs.List.{list_all, join_with_byte, position_or_len, prefix_len, before_first, after_first, slice_split}
use Rattle.std.specs.Char.{is_ascii_digit}
use Rattle.std.specs.Str.Parse.{digits_value}
use Rattle.std.proofs.lemmas.Bool.{le-leb, leb-true, lt-ltb, ltb-false, ltb-true}
use Rattle.std.proofs.lemmas.Bool.Decides.{nat_tests}
use Rattle.std.proofs.lemmas.List.{length-append}
use Rattle.std.proofs.lemmas.List.Folds.{list_all-append}
use Rattle.std.proofs.lemmas.List.Splits.{slice_split_at, slice_split_none, slice_split_first, join_with_byte-slice_split, length-slice_split}
use Rattle.std.proofs.lemmas.List.Sums.{split_at_first, fails_before_first, passes_at_first, prefix_len_is, prefix_len-le-length}
use Rattle.mk_text.specs.Columns.{columns, is_space, are_blank, trimmed, without_first_blanks}
use Rattle.mk_text.specs.Options.{◌>>=◌}
use Rattle.mk_text.proofs.ForCallers.{both, and_true, both_read, test_passed, list_all_at, trimmed_between, trimmed_is_between, read_behind, trimmed-columns}
use Rattle.mk_model.specs.declared.group.Interval.{Interval}
use Rattle.mk_logic.specs.RangeTexts.{IsNumeral, IsSigned, IsRangeItem, AreRangeItems, IsRangeText, OneRange, from_to, above, below}
use Rattle.mk_logic.specs.RangeTexts.IsRangeItem.{one_number, two_numbers, more_than, less_than}
use Rattle.mk_logic.specs.RangeTexts.IsRangeText.{blank_text, item_text}
use Rattle.mk_logic.specs.RangeReading.{range_number, numeral, one_number_in, two_numbers_in, numbers_in, item_by, range_item, items_of, range_of}

-- ---- texts without a byte

-- no byte of the text is this one
abbrev Lacks : ℕ → List ℕ → Type 0
Lacks c text = list_all (λ b. not (eqb b c)) text ≡ true

-- a byte other than c
other_byte : (b c : ℕ) → (b ≡ c → ⊥) → not (eqb b c) ≡ true
other_byte b c differ = grind (arith, nat_tests)

-- what is passed by one test is passed by a weaker one
weaker : (p q : ℕ → Bool) → ((b : ℕ) → p b ≡ true → q b ≡ true) → (text : List ℕ) → list_all p text ≡ true → list_all q text ≡ true
weaker p q gives [] all = refl
weaker p q gives (b ∷ bs) all = (let each = both (p b) (list_all p bs) all in and_true (q b) (list_all q bs) (gives b each.0) (weaker p q gives bs each.1))

joined : (p : ℕ → Bool) (xs ys : List ℕ) → list_all p xs ≡ true → list_all p ys ≡ true → list_all p (xs ++ ys) ≡ true
joined p xs ys front rest = list_all-append p xs ys ∙ and_true (list_all p xs) (list_all p ys) front rest

space_is : (b : ℕ) → is_space b ≡ true → b ≡ 32
space_is b space = grind (arith, nat_tests)

digit_range : (b : ℕ) → is_ascii_digit b ≡ true → (48 ≤ b) × (b ≤ 57)
digit_range b digit = grind (arith, nat_tests)

digit_no_space : (b : ℕ) → is_ascii_digit b ≡ true → is_space b ≡ false
digit_no_space b digit = grind (arith, nat_tests)

blanks_lack : (c : ℕ) → not (eqb 32 c) ≡ true → (text : List ℕ) → are_blank text ≡ true → Lacks c text
blanks_lack c differ text blank = weaker is_space (λ b. not (eqb b c)) (λ b space. ap (λ (n : ℕ). not (eqb n c)) (space_is b space) ∙ differ) text blank

digits_lack : (c : ℕ) → c < 48 → (text : List ℕ) → list_all is_ascii_digit text ≡ true → Lacks c text
digits_lack c out text digits = weaker is_ascii_digit (λ b. not (eqb b c)) (λ b digit. (let range = digit_range b digit in other_byte b c (λ same. omega arith))) text digits

-- a comma and a `-` are no digits
comma_no_digit : 44 < 48
comma_no_digit = lit< tt

dash_no_digit : 45 < 48
dash_no_digit = lit< tt

numeral_lacks : (c : ℕ) → not (eqb 32 c) ≡ true → c < 48 → (text : List ℕ) (n : ℕ) → IsNumeral text n → Lacks c text
numeral_lacks c differ out text n is =
    ap (list_all (λ b. not (eqb b c))) is.whole
    ∙ joined (λ b. not (eqb b c)) is.before (is.digits ++ is.after) (blanks_lack c differ is.before is.blank_before)
    (joined (λ b. not (eqb b c)) is.digits is.after (digits_lack c out is.digits is.are_digits) (blanks_lack c differ is.after is.blank_after))

not_passed : (b : Bool) → not b ≡ true → b ≡ false
not_passed true h = absurd cc
not_passed false h = refl

lacks_each : (c : ℕ) (text : List ℕ) → Lacks c text → All (λ b. eqb b c ≡ false) text
lacks_each c [] lacks = λ k d below. absurd (omega arith)
lacks_each c (b ∷ bs) lacks = (let each = both (not (eqb b c)) _ lacks in λ k d below. by_place k d below each.0 (lacks_each c bs each.1))
  where
    by_place : (k : ℕ) (d : ℕ) → k < length (b ∷ bs) → not (eqb b c) ≡ true → All (λ b. eqb b c ≡ false) bs → eqb (get_or (b ∷ bs) k d) c ≡ false
    by_place zero d below first others = not_passed _ first
    by_place (suc k) d below first others = others k d (omega arith)

-- ---- numbers

numeral_found : (text : List ℕ) (n : ℕ) → numeral text ≡ Some n → IsNumeral text n
unfolding range_number
numeral_found text n found =
    let core = trimmed text in
    let between = trimmed_is_between text in
    let passed = test_passed _ (Some (digits_value 10 core)) n found in
    let tests = both (leb 1 (length core)) _ passed.0 in
    let others = both (leb (length core) 3) (list_all is_ascii_digit core) tests.1 in
    record {
      before = between.before;
      digits = core;
      after = between.after;
      whole = between.whole;
      blank_before = between.blank_before;
      blank_after = between.blank_after;
      some_digits = leb-true _ _ tests.0;
      few_digits = leb-true _ _ others.0;
      are_digits = others.1;
      value = cc;
    }

numeral_given : (text : List ℕ) (n : ℕ) → IsNumeral text n → numeral text ≡ Some n
unfolding range_number
numeral_given text n is =
    let digits = is.digits in
    let some : 0 < length digits = omega (arith, is.some_digits) in
    let first = digit_no_space (get_or digits 0 0) (list_all_at is_ascii_digit digits 0 is.are_digits some) in
    let last = digit_no_space (get_or digits (length digits - 1) 0) (list_all_at is_ascii_digit digits (length digits - 1) is.are_digits (omega arith)) in
    let core : trimmed text ≡ digits = ap trimmed is.whole ∙ trimmed_between is.before digits is.after is.blank_before is.blank_after some first last in
    ap range_number core ∙ rw (le-leb 1 (length digits) is.some_digits, le-leb (length digits) 3 is.few_digits, is.are_digits) (ap Some (sym is.value))

-- ---- the first byte that is no blank

-- the blanks before it, and what stands from it on
record IsBehindBlanks (text rest : List ℕ) : Type 0 where
  before : List ℕ
  whole : text ≡ before ++ rest
  blank : are_blank before ≡ true

behind_blanks : (text : List ℕ) → IsBehindBlanks text (without_first_blanks text)
behind_blanks [] = record { before = []; whole = refl; blank = refl }
behind_blanks (c ∷ cs) = by_first (is_space c) refl (behind_blanks cs)
  where
    by_first : (b : Bool) → is_space c ≡ b → IsBehindBlanks cs (without_first_blanks cs) → IsBehindBlanks (c ∷ cs) (drop (cond b (1 + prefix_len is_space cs) 0) (c ∷ cs))
    by_first true space behind =
        let more : 1 + prefix_len is_space cs ≡ suc (prefix_len is_space cs) = omega arith in
        rw more (record { before = c ∷ behind.before; whole = ap (λ (t : List ℕ). c ∷ t) behind.whole; blank = and_true (is_space c) (are_blank behind.before) space behind.blank })
    by_first false other behind = record { before = []; whole = refl; blank = refl }

first_given : (before : List ℕ) (c : ℕ) (rest : List ℕ) → are_blank before ≡ true → is_space c ≡ false → without_first_blanks (before ++ c ∷ rest) ≡ c ∷ rest
first_given [] c rest blank other = rw other refl
first_given (b ∷ bs) c rest blank other =
    let each = both (is_space b) (are_blank bs) blank in
    let more : 1 + prefix_len is_space (bs ++ c ∷ rest) ≡ suc (prefix_len is_space (bs ++ c ∷ rest)) = omega arith in
    rw (each.0, more) (first_given bs c rest each.1 other)

-- ---- items

-- a sign that was found
signed_found : (sign : ℕ) (text : List ℕ) (c : ℕ) (rest : List ℕ) (n : ℕ) → IsBehindBlanks text (c ∷ rest) → c ≡ sign → numeral rest ≡ Some n → IsSigned sign text n
signed_found sign text c rest n behind is found =
    record { before = behind.before; rest = rest; whole = behind.whole ∙ ap (λ b. behind.before ++ b ∷ rest) is; blank_before = behind.blank; number = numeral_found rest n found }

numbers_found : (text : List ℕ) (interval : Interval) → numbers_in text ≡ Some interval → IsRangeItem text interval
numbers_found text interval found = by_dash (ltb (position_or_len (λ b. eqb b 45) text) (length text)) refl found
  where
    by_dash : (b : Bool) → ltb (position_or_len (λ b. eqb b 45) text) (length text) ≡ b
        → cond b (two_numbers_in (before_first (λ b. eqb b 45) text) (after_first (λ b. eqb b 45) text)) (one_number_in text) ≡ Some interval → IsRangeItem text interval
    by_dash true e two =
        let dash = λ (b : ℕ). eqb b 45 in
        let within : position_or_len dash text < length text = ltb-true _ _ e in
        let n = both_read (numeral (before_first dash text)) _ interval two in
        let m = both_read (numeral (after_first dash text)) _ interval n.2 in
        let order = test_passed (leb n.0 m.0) (Some (from_to n.0 m.0)) interval m.2 in
        let is : get_or text (position_or_len dash text) 0 ≡ 45 = (let passes = passes_at_first dash text 0 within in grind (arith, nat_tests)) in
        let whole : text ≡ before_first dash text ++ 45 ∷ after_first dash text = split_at_first dash text 0 within ∙ ap (λ (b : ℕ). before_first dash text ++ b ∷ after_first dash text) is in
        let same : from_to n.0 m.0 ≡ interval = cc in
        two_numbers n.0 m.0 (record {
          front = before_first dash text;
          rest = after_first dash text;
          whole = whole;
          first = numeral_found _ n.0 n.1;
          second = numeral_found _ m.0 m.1;
        }) (leb-true _ _ order.0) (sym same)
    by_dash false e one =
        let n = both_read (numeral text) _ interval one in
        let same : from_to n.0 n.0 ≡ interval = cc in
        one_number n.0 (numeral_found text n.0 n.1) (sym same)

item_found : (text : List ℕ) (interval : Interval) → range_item text ≡ Some interval → IsRangeItem text interval
unfolding range_item
item_found text interval found = by_rest (without_first_blanks text) (behind_blanks text) found
  where
    by_sign : (c : ℕ) (rest : List ℕ) → IsBehindBlanks text (c ∷ rest) → (more less : Bool) → eqb c 62 ≡ more → eqb c 60 ≡ less
        → cond more (numeral rest >>= λ n. Some (above n)) (cond less (numeral rest >>= λ n. Some (below n)) (numbers_in text)) ≡ Some interval → IsRangeItem text interval
    by_sign c rest behind true less e e' found =
        let n = both_read (numeral rest) _ interval found in
        let is : c ≡ 62 = grind (arith, nat_tests) in
        let same : above n.0 ≡ interval = cc in
        more_than n.0 (signed_found 62 text c rest n.0 behind is n.1) (sym same)
    by_sign c rest behind false true e e' found =
        let n = both_read (numeral rest) _ interval found in
        let is : c ≡ 60 = grind (arith, nat_tests) in
        let same : below n.0 ≡ interval = cc in
        less_than n.0 (signed_found 60 text c rest n.0 behind is n.1) (sym same)
    by_sign c rest behind false false e e' found = numbers_found text interval found

    by_rest : (rest : List ℕ) → IsBehindBlanks text rest → item_by text rest ≡ Some interval → IsRangeItem text interval
    by_rest [] behind found = absurd cc
    by_rest (c ∷ rest) behind found = by_sign c rest behind _ _ refl refl found

-- a number begins with blanks and a digit
record BeginsWithDigit (text : List ℕ) : Type 0 where
  before : List ℕ
  digit : ℕ
  rest : List ℕ
  whole : text ≡ before ++ digit ∷ rest
  blank : are_blank before ≡ true
  is : is_ascii_digit digit ≡ true

begins : (text : List ℕ) (n : ℕ) → IsNumeral text n → BeginsWithDigit text
begins text n is = by_digits is.digits is.some_digits is.are_digits is.whole
  where
    by_digits : (digits : List ℕ) → 1 ≤ length digits → list_all is_ascii_digit digits ≡ true → text ≡ is.before ++ (digits ++ is.after) → BeginsWithDigit text
    by_digits [] some all whole = absurd (omega arith)
    by_digits (d ∷ ds) some all whole = record { before = is.before; digit = d; rest = ds ++ is.after; whole = whole; blank = is.blank_before; is = (both (is_ascii_digit d) _ all).0 }

-- and so does what goes on behind it
begins_longer : (text more : List ℕ) → BeginsWithDigit text → BeginsWithDigit (text ++ more)
begins_longer text more is =
    record {
      before = is.before;
      digit = is.digit;
      rest = is.rest ++ more;
      whole = ap (λ (t : List ℕ). t ++ more) is.whole ∙ append_assoc is.before (is.digit ∷ is.rest) more;
      blank =
          is.blank;
      is = is.is;
    }

-- what begins with a digit has one number or two
by_numbers : (text : List ℕ) → BeginsWithDigit text → range_item text ≡ numbers_in text
unfolding range_item
by_numbers text is =
    let range = digit_range is.digit is.is in
    let rest : without_first_blanks text ≡ is.digit ∷ is.rest = ap without_first_blanks is.whole ∙ first_given is.before is.digit is.rest is.blank (digit_no_space is.digit is.is) in
    let no_more : eqb is.digit 62 ≡ false = grind (arith, nat_tests) in
    let no_less : eqb is.digit 60 ≡ false = grind (arith, nat_tests) in
    ap (item_by text) rest ∙ rw (no_more, no_less) refl

-- the place of the first byte that passes
place_at : (c : ℕ) (front rest : List ℕ) → Lacks c front → position_or_len (λ b. eqb b c) (front ++ c ∷ rest) ≡ length front
place_at c [] rest lacks = (let same : eqb c c ≡ true = grind (arith, nat_tests) in rw same refl)
place_at c (b ∷ bs) rest lacks =
    let each = both (not (eqb b c)) _ lacks in
    rw (each.0, place_at c bs rest each.1) (omega arith)

place_none : (c : ℕ) (text : List ℕ) → Lacks c text → position_or_len (λ b. eqb b c) text ≡ length text
place_none c [] lacks = refl
place_none c (b ∷ bs) lacks =
    let each = both (not (eqb b c)) _ lacks in
    rw (each.0, place_none c bs each.1) (omega arith)

take_front : (front rest : List ℕ) → take (length front) (front ++ rest) ≡ front
take_front [] rest = refl
take_front (x ∷ xs) rest = ap (λ (t : List ℕ). x ∷ t) (take_front xs rest)

take_all : (xs : List ℕ) → take (length xs) xs ≡ xs
take_all [] = refl
take_all (x ∷ xs) = ap (λ (t : List ℕ). x ∷ t) (take_all xs)

drop_front : (front : List ℕ) (c : ℕ) (rest : List ℕ) → drop (length front + 1) (front ++ c ∷ rest) ≡ rest
drop_front [] c rest = refl
drop_front (x ∷ xs) c rest = (let one : suc (length xs) + 1 ≡ suc (length xs + 1) = omega arith in rw one (drop_front xs c rest))

item_given : (text : List ℕ) (interval : Interval) → IsRangeItem text interval → range_item text ≡ Some interval
unfolding range_item
item_given text interval (one_number n is same) =
    let nowhere : position_or_len (λ b. eqb b 45) text ≡ length text = place_none 45 text (numeral_lacks 45 refl dash_no_digit text n is) in
    let last : ltb (position_or_len (λ b. eqb b 45) text) (length text) ≡ false = rw nowhere (grind (arith, nat_tests)) in
    by_numbers text (begins text n is) ∙ rw (last, numeral_given text n is) (ap Some (sym same))
item_given text interval (two_numbers n m is order same) =
    let dash = λ (b : ℕ). eqb b 45 in
    let place : position_or_len dash text ≡ length is.front = ap (position_or_len dash) is.whole ∙ place_at 45 is.front is.rest (numeral_lacks 45 refl dash_no_digit is.front n is.first) in
    let size : length text ≡ length is.front + suc (length is.rest) = ap length is.whole ∙ length-append is.front (45 ∷ is.rest) in
    let within : ltb (position_or_len dash text) (length text) ≡ true = lt-ltb _ _ (omega arith) in
    let front : before_first dash text ≡ is.front = ap (λ i. take i text) place ∙ ap (take (length is.front)) is.whole ∙ take_front is.front (45 ∷ is.rest) in
    let rest : after_first dash text ≡ is.rest = ap (λ i. drop (i + 1) text) place ∙ ap (drop (length is.front + 1)) is.whole ∙ drop_front is.front 45 is.rest in
    let begun : BeginsWithDigit text = subst BeginsWithDigit (sym is.whole) (begins_longer is.front (45 ∷ is.rest) (begins is.front n is.first)) in
    by_numbers text begun ∙ rw (within, front, rest, numeral_given is.front n is.first, numeral_given is.rest m is.second, le-leb n m order) (ap Some (sym same))
item_given text interval (more_than n is same) =
    let rest : without_first_blanks text ≡ 62 ∷ is.rest = ap without_first_blanks is.whole ∙ first_given is.before 62 is.rest is.blank_before refl in
    ap (item_by text) rest ∙ rw (numeral_given is.rest n is.number) (ap Some (sym same))
item_given text interval (less_than n is same) =
    let rest : without_first_blanks text ≡ 60 ∷ is.rest = ap without_first_blanks is.whole ∙ first_given is.before 60 is.rest is.blank_before refl in
    ap (item_by text) rest ∙ rw (numeral_given is.rest n is.number) (ap Some (sym same))

-- ---- items joined by commas

signed_lacks : (c sign : ℕ) (text : List ℕ) (n : ℕ) → not (eqb 32 c) ≡ true → c < 48 → not (eqb sign c) ≡ true → IsSigned sign text n → Lacks c text
signed_lacks c sign text n differ out other is =
    ap (list_all (λ b. not (eqb b c))) is.whole
    ∙ joined (λ b. not (eqb b c)) is.before (sign ∷ is.rest) (blanks_lack c differ is.before is.blank_before)
    (and_true (not (eqb sign c)) _ other (numeral_lacks c differ out is.rest n is.number))

-- no item holds a comma
item_lacks : (text : List ℕ) (interval : Interval) → IsRangeItem text interval → Lacks 44 text
item_lacks text interval (one_number n is same) = numeral_lacks 44 refl comma_no_digit text n is
item_lacks text interval (two_numbers n m is order same) =
    ap (list_all (λ b. not (eqb b 44))) is.whole
    ∙ joined (λ b. not (eqb b 44)) is.front (45 ∷ is.rest) (numeral_lacks 44 refl comma_no_digit is.front n is.first)
    (numeral_lacks 44 refl comma_no_digit is.rest m is.second)
item_lacks text interval (more_than n is same) = signed_lacks 44 62 text n refl comma_no_digit refl is
item_lacks text interval (less_than n is same) = signed_lacks 44 60 text n refl comma_no_digit refl is

items_given : (text : List ℕ) (range : List Interval) → AreRangeItems text range → items_of (slice_split (λ b. eqb b 44) text) ≡ Some range
items_given text [] are = absurd are
items_given text (item ∷ []) are = rw (slice_split_none (λ b. eqb b 44) text (lacks_each 44 text (item_lacks text item are)), item_given text item are) refl
items_given text (item ∷ next ∷ items) (front, rest, whole, is, are) =
    let parts : slice_split (λ b. eqb b 44) text ≡ front ∷ slice_split (λ b. eqb b 44) rest =
    ap (slice_split (λ b. eqb b 44)) whole ∙ slice_split_at (λ b. eqb b 44) front 44 rest
    (lacks_each 44 front (item_lacks front item is)) refl in
    ap items_of parts ∙ rw (item_given front item is, items_given rest (next ∷ items) are) refl

-- one item before others
one_more : (part : List ℕ) (item : Interval) (rest : List ℕ) (items : List Interval) → IsRangeItem part item → AreRangeItems rest items → AreRangeItems (part ++ 44 ∷ rest) (item ∷ items)
one_more part item rest [] is are = absurd are
one_more part item rest (next ∷ items) is are = (part, rest, refl, is, are)

-- parts, joined
items_found : (parts : List (List ℕ)) (range : List Interval) → 0 < length parts → items_of parts ≡ Some range → AreRangeItems (join_with_byte 44 parts) range
items_found [] range some found = absurd (omega arith)
items_found (part ∷ []) range some found =
    let item = both_read (range_item part) _ range found in
    let same : (item.0 ∷ []) ≡ range = cc in
    subst (AreRangeItems part) same (item_found part item.0 item.1)
items_found (part ∷ next ∷ parts) range some found =
    let item = both_read (range_item part) _ range found in
    let others = both_read (items_of (next ∷ parts)) _ range item.2 in
    let same : (item.0 ∷ others.0) ≡ range = cc in
    let are = items_found (next ∷ parts) others.0 (omega arith) others.1 in
    subst (AreRangeItems (join_with_byte 44 (part ∷ next ∷ parts))) same (one_more part item.0 (join_with_byte 44 (next ∷ parts)) others.0 (item_found part item.0 item.1) are)

-- ---- the whole text

-- blanks have no first byte
no_first : (text : List ℕ) → are_blank text ≡ true → without_first_blanks text ≡ []
no_first [] blank = refl
no_first (b ∷ bs) blank =
    let each = both (is_space b) (are_blank bs) blank in
    let more : 1 + prefix_len is_space bs ≡ suc (prefix_len is_space bs) = omega arith in
    rw (each.0, more) (no_first bs each.1)

-- blanks are no items
blanks_no_items : (text : List ℕ) → are_blank text ≡ true → items_of (slice_split (λ b. eqb b 44) text) ≡ None
unfolding range_item
blanks_no_items text blank =
    let parts = slice_split_none (λ b. eqb b 44) text (lacks_each 44 text (blanks_lack 44 refl text blank)) in
    ap items_of parts ∙ rw (no_first text blank) refl

range_found : (text : List ℕ) (range : List Interval) → range_of text ≡ Some range → IsRangeText text range
unfolding range_of
range_found text range found = by_blank (are_blank text) refl found
  where
    by_blank : (b : Bool) → are_blank text ≡ b → cond b (Some (above 0 ∷ [])) (items_of (slice_split (λ b. eqb b 44) text)) ≡ Some range → IsRangeText text range
    by_blank true blank found = (let same : (above 0 ∷ []) ≡ range = cc in blank_text blank (sym same))
    by_blank false other found =
        let some : 0 < length (slice_split (λ b. eqb b 44) text) = omega (arith, length-slice_split (λ (b : ℕ). eqb b 44) text) in
        item_text (subst (λ (t : List ℕ). AreRangeItems t range) (join_with_byte-slice_split 44 text) (items_found (slice_split (λ b. eqb b 44) text) range some found))

range_given : (text : List ℕ) (range : List Interval) → IsRangeText text range → range_of text ≡ Some range
unfolding range_of
range_given text range (blank_text blank same) = rw blank (ap Some (sym same))
range_given text range (item_text are) = by_blank (are_blank text) refl
  where
    by_blank : (b : Bool) → are_blank text ≡ b → cond b (Some (above 0 ∷ [])) (items_of (slice_split (λ b. eqb b 44) text)) ≡ Some range
    by_blank true blank = (let none = blanks_no_items text blank in let given = items_given text range are in absurd cc)
    by_blank false other = items_given text range are

-- the two agree
pub range_is_read : (text : List ℕ) (range : List Interval) → (range_of text ≡ Some range) ↔ IsRangeText text range
range_is_read text range = (range_found text range, range_given text range)

pub one_range : OneRange
one_range text one other is is' = (let given = range_given text one is in let given' = range_given text other is' in cc)

-- ---- what the first bytes are

-- the place before which no byte is this one
pub place_found : (c : ℕ) (text : List ℕ) (i : ℕ) → i ≤ length text
    → ((k : ℕ) → k < i → eqb (get_or text k 0) c ≡ false) → (i < length text → eqb (get_or text i 0) c ≡ true)
    → i ≡ position_or_len (λ b. eqb b c) text
place_found c text i within before here =
    sym (prefix_len_is (λ b. not (eqb b c)) text i 0 within (λ k below. ap not (before k below)) (λ below. ap not (here below)))

-- the place before which all bytes are blanks
pub blanks_found : (text : List ℕ) (i : ℕ) → i ≤ length text → ((k : ℕ) → k < i → eqb (get_or text k 0) 32 ≡ true) → (i < length text → eqb (get_or text i 0) 32 ≡ false) → i ≡ prefix_len is_space text
blanks_found text i within before here = sym (prefix_len_is is_space text i 0 within before here)

-- ---- reading from the left

-- the columns of a text are the text
pub trimmed_whole : (text : List ℕ) → 1 ≤ length text → trimmed (columns text 1 (length text)) ≡ trimmed text
trimmed_whole text some = trimmed-columns text 1 (length text) (lit≤ tt) some ∙ ap trimmed (ap (λ n. take n text) (let whole : length text - 0 ≡ length text = omega arith in whole) ∙ take_all text)

-- the part of a text without a comma
last_part : (text : List ℕ) → length text ≤ position_or_len (λ b. eqb b 44) text → slice_split (λ b. eqb b 44) text ≡ before_first (λ b. eqb b 44) text ∷ []
last_part text past =
    let comma = λ (b : ℕ). eqb b 44 in
    let few : position_or_len comma text ≤ length text = prefix_len-le-length (λ (b : ℕ). not (comma b)) text in
    let whole : before_first comma text ≡ text = ap (λ i. take i text) (let same : position_or_len comma text ≡ length text = omega arith in same) ∙ take_all text in
    slice_split_none comma text (λ k d below. fails_before_first comma text k d (omega arith)) ∙ ap (λ (t : List ℕ). t ∷ []) (sym whole)

behind_one : (front : List Interval) (item : Interval) (read : Option (List Interval)) → read_behind front (read >>= λ xs. Some (item ∷ xs)) ≡ read_behind (front ++ item ∷ []) read
behind_one front item (Some xs) = ap Some (sym (append_assoc front (item ∷ []) xs))
behind_one front item None = refl

-- the first part
split_begins : (text : List ℕ) → (others : List (List ℕ)) × (slice_split (λ b. eqb b 44) text ≡ before_first (λ b. eqb b 44) text ∷ others)
split_begins text = by_place (ltb (position_or_len (λ b. eqb b 44) text) (length text)) refl
  where
    by_place : (b : Bool) → ltb (position_or_len (λ b. eqb b 44) text) (length text) ≡ b → (others : List (List ℕ)) × (slice_split (λ b. eqb b 44) text ≡ before_first (λ b. eqb b 44) text ∷ others)
    by_place true e = (slice_split (λ b. eqb b 44) (after_first (λ b. eqb b 44) text), slice_split_first (λ b. eqb b 44) text 0 (ltb-true _ _ e))
    by_place false e = ([], last_part text (ltb-false _ _ e))

-- one more item before those that are read
pub items_more : (front : List Interval) (item : Interval) (text : List ℕ) (all : Option (List Interval))
    → position_or_len (λ b. eqb b 44) text < length text → range_item (before_first (λ b. eqb b 44) text) ≡ Some item
    → read_behind front (items_of (slice_split (λ b. eqb b 44) text)) ≡ all
    → read_behind (front ++ item ∷ []) (items_of (slice_split (λ b. eqb b 44) (after_first (λ b. eqb b 44) text))) ≡ all
items_more front item text all within is so_far =
    let parts = slice_split_first (λ b. eqb b 44) text 0 within in
    let here : items_of (slice_split (λ b. eqb b 44) text) ≡
    (items_of (slice_split (λ b. eqb b 44) (after_first (λ b. eqb b 44) text)) >>= λ items. Some (item ∷ items)) =
    ap items_of parts ∙ rw is refl in
    sym (behind_one front item (items_of (slice_split (λ b. eqb b 44) (after_first (λ b. eqb b 44) text)))) ∙ sym (ap (read_behind front) here) ∙ so_far

-- the last item
pub items_last : (front : List Interval) (item : Interval) (text : List ℕ) (all : Option (List Interval))
    → length text ≤ position_or_len (λ b. eqb b 44) text → range_item (before_first (λ b. eqb b 44) text) ≡ Some item
    → read_behind front (items_of (slice_split (λ b. eqb b 44) text)) ≡ all → all ≡ Some (front ++ item ∷ [])
items_last front item text all past is so_far = sym so_far
    ∙ (let here : items_of (slice_split (λ b. eqb b 44) text) ≡ Some (item ∷ []) = ap items_of (last_part text past)
    ∙ rw is refl in ap (read_behind front) here)

-- an item that is none
pub items_fail : (front : List Interval) (text : List ℕ) (all : Option (List Interval))
    → range_item (before_first (λ b. eqb b 44) text) ≡ None → read_behind front (items_of (slice_split (λ b. eqb b 44) text)) ≡ all → all ≡ None
items_fail front text all none so_far = (let parts = split_begins text
    in let here : items_of (slice_split (λ b. eqb b 44) text) ≡ None = ap items_of parts.1 ∙ rw none refl in sym so_far
    ∙ ap (read_behind front) here)

-- none read so far
pub items_none : (read : Option (List Interval)) → read_behind [] read ≡ read
items_none (Some xs) = refl
items_none None = refl

-- the text that is no blank
pub range_is_items : (text : List ℕ) → are_blank text ≡ false → range_of text ≡ items_of (slice_split (λ b. eqb b 44) text)
unfolding range_of
range_is_items text other = rw other refl

pub range_is_all : (text : List ℕ) → are_blank text ≡ true → range_of text ≡ Some (above 0 ∷ [])
unfolding range_of
range_is_all text blank = rw blank refl

-- ---- what a reader promises

pub found_is_range : (text : List ℕ) (o : Option (List Interval)) → o ≡ range_of text → IfSome o (IsRangeText text)
found_is_range text None read = tt
found_is_range text (Some range) read = range_found text range (sym read)

pub none_is_range : (text : List ℕ) (o : Option (List Interval)) → o ≡ range_of text → IfNone o ((range : List Interval) → IsRangeText text range → ⊥)
none_is_range text None read = λ range is. let given = range_given text range is in absurd cc
none_is_range text (Some range) read = tt
