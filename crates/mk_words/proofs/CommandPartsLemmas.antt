-- Single words of a command.
--     name_as_file     a name is UTF-8, and so read as any text is
--     digits_field     one to nine digits are a field with their number
--     numbers_more, numbers_fail   words that are numbers, and one more
--     items_more, items_fail       the same of the items of a list
--     is_place, no_place           a place is so many numbers at most
use Rattle.std.proofs.Common.{◌≡◌, ℕ, ◌<◌, ◌≤◌, Bool, true, false, leb, eqb, List, [], ◌∷◌, ◌++◌, length, map, take, drop, get_or, ◌+◌, Option, Some, None, refl, sym, ap, ◌∙◌, arith}
use Rattle.std.specs.Prelude.{ℤ, pos}
use Rattle.std.proofs.lemmas.Int.{to_z-of_z}
use mir.Syntax.{w32}
use mir.Val.{SFits, to_z, of_z}
use lib.IntN.{nat_abs}
use Rattle.std.specs.List.{list_all, slice_split}
use Rattle.std.proofs.lemmas.Bool.{le-leb, leb-true}
use Rattle.std.specs.Char.{is_ascii_digit}
use Rattle.std.specs.Str.{is_utf8}
use Rattle.std.specs.Str.Parse.{digits_value}
use Rattle.std.proofs.lemmas.List.{append-nil, drop_more, map-append, take_more, take-append-drop}
use Rattle.std.proofs.lemmas.Str.{IsUtf8-from_ascii, is_utf8-from_IsUtf8}
use Rattle.mk_text.specs.Columns.{columns}
use Rattle.mk_text.specs.Fields.{NoSign, digits_number, field_in, field_of}
use Rattle.mk_text.proofs.ForCallers.{both_read, columns_between, digits_given, number_given}
use Rattle.mk_text.specs.Options.{◌>>=◌}
use Rattle.mk_words.specs.Commands.{file_in, name_in, numbers_in, place_in}
use Rattle.mk_kept.specs.Names.{is_name}
use Rattle.mk_kept.proofs.ForCallers.{name_ascii}

-- ---- names

-- and so UTF-8: it is read as any text is
pub name_as_file : (word : List ℕ) → is_name word ≡ true → file_in word ≡ name_in word
name_as_file word is = let utf8 : is_utf8 word ≡ true = is_utf8-from_IsUtf8 word (IsUtf8-from_ascii word (name_ascii word is)) in rw (utf8, is) refl

-- ---- numbers

whole_field : (word : List ℕ) → 1 ≤ length word → length word ≤ 9 → list_all is_ascii_digit word ≡ true → field_of word 1 (length word) ≡ Some (pos (digits_value 10 word))
unfolding field_of
whole_field word some few all =
    let whole : columns ([] ++ (word ++ [])) 1 (length word) ≡ word = columns_between [] word [] 1 (length word) (omega arith) (omega arith) in
    ap (λ (l : List ℕ). field_in (columns l 1 (length word))) (sym (append-nil word)) ∙ ap field_in whole
    ∙ ap field_in (sym (append-nil word)) ∙ number_given [] [] NoSign word refl refl some few all

-- the field has a number, which is not negative
pub digits_field : (word : List ℕ) (o : Option ℤ) (z : ℤ) → 0 < length word → length word ≤ 9 → list_all is_ascii_digit word ≡ true → o ≡ field_of word 1 (length word) → o ≡ Some z
    → z ≡ pos (digits_value 10 word)
digits_field word o z some few all is given = let h : field_of word 1 (length word) ≡ Some (pos (digits_value 10 word)) = whole_field word some few all in cc

pub digits_field_none : (word : List ℕ) (o : Option ℤ) → 0 < length word → length word ≤ 9 → list_all is_ascii_digit word ≡ true → o ≡ field_of word 1 (length word) → o ≡ None → ⊥
digits_field_none word o some few all is given = let h : field_of word 1 (length word) ≡ Some (pos (digits_value 10 word)) = whole_field word some few all in cc

-- what is read is that number
pub abs_is : (u v : ℕ) (z : ℤ) → u ≡ nat_abs (to_z w32 (of_z w32 z)) → SFits w32 z → z ≡ pos v → u ≡ v
abs_is u v z is fits same = is ∙ ap nat_abs (to_z-of_z w32 z fits ∙ same)

pub some_number : (word : List ℕ) (u : ℕ) → 1 ≤ length word → length word ≤ 9 → list_all is_ascii_digit word ≡ true → u ≡ digits_value 10 word → Some u ≡ digits_number word
some_number word u some few all is = ap Some is ∙ sym (digits_given word some few all)

-- ---- several

-- the word that is one number more
pub numbers_more : (words : List (List ℕ)) (word numbers : List ℕ) (n : ℕ) → numbers_in words ≡ Some numbers → digits_number word ≡ Some n
    → numbers_in (words ++ word ∷ []) ≡ Some (numbers ++ n ∷ [])
numbers_more [] word numbers n are is =
    let none : numbers ≡ [] = cc in
    ap (λ (o : Option ℕ). o >>= λ m. Some (m ∷ [])) is ∙ ap (λ (ns : List ℕ). Some (ns ++ n ∷ [])) (sym none)
numbers_more (first ∷ words) word numbers n are is =
    let one = both_read (digits_number first) (λ m. numbers_in words >>= λ ms. Some (m ∷ ms)) numbers are in
    let rest = both_read (numbers_in words) (λ ms. Some (one.0 ∷ ms)) numbers one.2 in
    let whole : one.0 ∷ rest.0 ≡ numbers = cc in
    ap (λ (o : Option ℕ). o >>= λ m. numbers_in (words ++ word ∷ []) >>= λ ms. Some (m ∷ ms)) one.1
    ∙ ap (λ (o : Option (List ℕ)). o >>= λ ms. Some (one.0 ∷ ms)) (numbers_more words word rest.0 n rest.1 is)
    ∙ ap (λ (ns : List ℕ). Some (ns ++ n ∷ [])) whole

-- a word that is none
pub numbers_fail : (words : List (List ℕ)) (word : List ℕ) (others : List (List ℕ)) → digits_number word ≡ None → numbers_in (words ++ word ∷ others) ≡ None
numbers_fail [] word others none = ap (λ (o : Option ℕ). o >>= λ m. numbers_in others >>= λ ms. Some (m ∷ ms)) none
numbers_fail (first ∷ words) word others none = by_first (digits_number first) (numbers_fail words word others none)
  where
    by_first : (o : Option ℕ) → numbers_in (words ++ word ∷ others) ≡ None → (o >>= λ m. numbers_in (words ++ word ∷ others) >>= λ ms. Some (m ∷ ms)) ≡ None
    by_first None rest = refl
    by_first (Some m) rest = ap (λ (o : Option (List ℕ)). o >>= λ ms. Some (m ∷ ms)) rest

-- the numbers of the items of a list, item by item
pub items_more : {X : Type 0} (f : X → List ℕ) (xs : List X) (i : ℕ) (d : X) (numbers new : List ℕ) (n : ℕ) → i < length xs → numbers_in (map f (take i xs)) ≡ Some numbers
    → Some n ≡ digits_number (f (get_or xs i d)) → new ≡ numbers ++ n ∷ [] → numbers_in (map f (take (i + 1) xs)) ≡ Some new
items_more f xs i d numbers new n within so_far is pushed =
    ap (λ l. numbers_in (map f l)) (take_more xs i d within) ∙ ap numbers_in (map-append f (take i xs) (get_or xs i d ∷ []))
    ∙ numbers_more (map f (take i xs)) (f (get_or xs i d)) numbers n so_far (sym is) ∙ ap Some (sym pushed)

pub items_fail : {X : Type 0} (f : X → List ℕ) (xs : List X) (i : ℕ) (d : X) → i < length xs → None ≡ digits_number (f (get_or xs i d)) → None ≡ numbers_in (map f xs)
items_fail f xs i d within none =
    let whole : take i xs ++ get_or xs i d ∷ drop (i + 1) xs ≡ xs = ap (λ l. take i xs ++ l) (sym (drop_more xs i d within)) ∙ take-append-drop i xs in
    sym (numbers_fail (map f (take i xs)) (f (get_or xs i d)) (map f (drop (i + 1) xs)) (sym none))
    ∙ ap numbers_in (sym (map-append f (take i xs) (get_or xs i d ∷ drop (i + 1) xs))) ∙ ap (λ l. numbers_in (map f l)) whole

-- so many parts, or fewer, are numbers or none
pub is_place : (word : List ℕ) → length (slice_split (λ b. eqb b 44) word) ≤ 514 → numbers_in (slice_split (λ b. eqb b 44) word) ≡ place_in word
is_place word few = rw (le-leb (length (slice_split (λ b. eqb b 44) word)) 514 few) refl

-- more are none
pub no_place : (word : List ℕ) → 514 < length (slice_split (λ b. eqb b 44) word) → None ≡ place_in word
no_place word many = by_test (leb (length (slice_split (λ b. eqb b 44) word)) 514) refl
  where
    by_test : (b : Bool) → leb (length (slice_split (λ b. eqb b 44) word)) 514 ≡ b → None ≡ place_in word
    by_test true e = absurd (omega (arith, leb-true _ _ e))
    by_test false e = rw e refl
