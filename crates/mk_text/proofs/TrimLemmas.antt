-- Blanks past the end of a line change nothing: the columns without their outer blanks are those that stand on the line
-- without their outer blanks. And what stands between blanks is what is left without them.
use Rattle.std.proofs.Common.{◌≡◌, ℕ, ◌+◌, ◌-◌, ◌<◌, ◌≤◌, true, false, zero, suc, Bool, List, ◌∷◌, [], ◌++◌, length, get_or, take, drop, replicate, sym, ap, ◌∙◌, arith, rules, refl}
use Rattle.std.specs.List.{prefix_len, suffix_len, list_all}
use Rattle.std.specs.Prelude.{reverse}
use Rattle.std.proofs.lemmas.List.{take-append-le, take-append-drop, places, same_lists, append-nil, append_assoc, reverse-append, length_push, length-append, length-take, length-drop, get_or-take, get_or-drop, get_or_append_left, get_or-append_right, get_or-reverse, drop_at, take_at, take_all}
use Rattle.std.proofs.lemmas.List.Sums.{prefix_len_is, suffix_len_is, prefix_len_passes, suffix_len-le-length}
use Rattle.mk_text.proofs.TestLemmas.{both}
use Rattle.mk_text.specs.Columns.{columns, standing, is_space, are_blank, without_first_blanks, without_last_blanks, trimmed}

-- the columns are what stands on the line, and blanks
pub columns_are : (line : List ℕ) (a b : ℕ) → 1 ≤ a → a ≤ b → columns line a b ≡ standing line a b ++ replicate (b + 1 - a - length (standing line a b)) 32
unfolding columns
columns_are line a b first order = same_lists _ _ (search (rules, places)) (λ k d h. grind (arith, places))

-- a blank at the front goes
first_yes : (c : ℕ) (cs : List ℕ) → is_space c ≡ true → without_first_blanks (c ∷ cs) ≡ without_first_blanks cs
first_yes c cs blank =
    let n = prefix_len is_space cs in
    let more : 1 + n ≡ suc n = omega arith in rw (blank, more) refl

-- any other byte stays
first_no : (c : ℕ) (cs : List ℕ) → is_space c ≡ false → without_first_blanks (c ∷ cs) ≡ c ∷ cs
first_no c cs other = rw other refl

-- a blank at the end goes with the last blanks
last_space : (cells : List ℕ) → without_last_blanks (cells ++ 32 ∷ []) ≡ without_last_blanks cells
last_space cells =
    let one_more : suffix_len is_space (cells ++ 32 ∷ []) ≡ 1 + suffix_len is_space cells = rw (reverse-append cells (32 ∷ [])) refl in
    let same : length (cells ++ 32 ∷ []) - suffix_len is_space (cells ++ 32 ∷ []) ≡ length cells - suffix_len is_space cells = omega (arith, length_push cells 32, one_more) in
    ap (λ n. take n (cells ++ 32 ∷ [])) same ∙ take-append-le (length cells - suffix_len is_space cells) cells (32 ∷ []) (omega arith)

-- by the first byte
trimmed_space_by : (c : ℕ) (cs : List ℕ) (b : Bool) → is_space c ≡ b → trimmed (cs ++ 32 ∷ []) ≡ trimmed cs → trimmed ((c ∷ cs) ++ 32 ∷ []) ≡ trimmed (c ∷ cs)
trimmed_space_by c cs true blank same = ap without_last_blanks (first_yes c (cs ++ 32 ∷ []) blank) ∙ same ∙ sym (ap without_last_blanks (first_yes c cs blank))
trimmed_space_by c cs false other same = ap without_last_blanks (first_no c (cs ++ 32 ∷ []) other) ∙ last_space (c ∷ cs) ∙ sym (ap without_last_blanks (first_no c cs other))

-- a blank at the end changes nothing
trimmed_space : (cells : List ℕ) → trimmed (cells ++ 32 ∷ []) ≡ trimmed cells
trimmed_space [] = refl
trimmed_space (c ∷ cs) = trimmed_space_by c cs (is_space c) refl (trimmed_space cs)

-- nor do many
pub trimmed_padded : (cells : List ℕ) (n : ℕ) → trimmed (cells ++ replicate n 32) ≡ trimmed cells
trimmed_padded cells zero = ap trimmed (append-nil cells)
trimmed_padded cells (suc n) = ap trimmed (sym (append_assoc cells (32 ∷ []) (replicate n 32))) ∙ trimmed_padded (cells ++ 32 ∷ []) n ∙ trimmed_space cells

-- so the columns past the line's end need not be looked at
pub trimmed-columns : (line : List ℕ) (a b : ℕ) → 1 ≤ a → a ≤ b → trimmed (columns line a b) ≡ trimmed (standing line a b)
trimmed-columns line a b first order =
    let on = standing line a b in
    ap trimmed (columns_are line a b first order) ∙ trimmed_padded on (b + 1 - a - length on)

-- ---- parts between blanks

-- where all pass, each one passes
pub list_all_at : (p : ℕ → Bool) (xs : List ℕ) (k : ℕ) → list_all p xs ≡ true → k < length xs → p (get_or xs k 0) ≡ true
list_all_at p [] k all lt = absurd (omega arith)
list_all_at p (x ∷ xs) zero all lt = (both (p x) (list_all p xs) all).0
list_all_at p (x ∷ xs) (suc k) all lt = list_all_at p xs k (both (p x) (list_all p xs) all).1 (omega arith)

-- where each one passes, all do
list_all_from : (p : ℕ → Bool) (xs : List ℕ) → ((k : ℕ) → k < length xs → p (get_or xs k 0) ≡ true) → list_all p xs ≡ true
list_all_from p [] each = refl
list_all_from p (x ∷ xs) each = rw (each 0 (omega arith), list_all_from p xs (λ k lt. each (suc k) (omega arith))) refl

-- what stands between blanks, where it neither begins nor ends with one, is what is left without them
pub trimmed_between : (before core after : List ℕ) → are_blank before ≡ true → are_blank after ≡ true → 0 < length core
    → is_space (get_or core 0 0) ≡ false → is_space (get_or core (length core - 1) 0) ≡ false
    → trimmed (before ++ (core ++ after)) ≡ core
trimmed_between before core after blank_before blank_after some first last =
    let whole = before ++ (core ++ after) in
    let rest = core ++ after in
    let size : length whole ≡ length before + length rest = length-append before rest in
    let rest_size : length rest ≡ length core + length after = length-append core after in
    let front : prefix_len is_space whole ≡ length before =
    prefix_len_is is_space whole (length before) 0 (omega arith)
    (λ k lt. ap is_space (get_or_append_left before rest 0 k lt) ∙ list_all_at is_space before k blank_before lt)
    (λ lt. ap is_space (get_or-append_right before rest (length before) (length before) 0 refl (omega arith)
    ∙ ap (λ (i : ℕ). get_or rest i 0) (let e : length before - length before ≡ 0 = omega arith in e)
    ∙ get_or_append_left core after 0 0 some) ∙ first) in
    let left : without_first_blanks whole ≡ rest = ap (λ (n : ℕ). drop n whole) front ∙ drop_at before rest (length before) refl in
    let end : suffix_len is_space rest ≡ length rest - length core =
    suffix_len_is is_space rest (length core) 0 (omega arith)
    (λ k le lt. ap is_space (get_or-append_right core after (length core) k 0 refl le) ∙ list_all_at is_space after (k - length core) blank_after (omega arith))
    (λ lt. ap is_space (get_or_append_left core after 0 (length core - 1) (omega arith)) ∙ last) in
    let kept : length rest - suffix_len is_space rest ≡ length core = omega arith in
    ap without_last_blanks left ∙ ap (λ (n : ℕ). take n rest) kept ∙ take_at core after (length core) refl

-- blanks alone leave nothing
pub trimmed_blank : (cells : List ℕ) → are_blank cells ≡ true → trimmed cells ≡ []
trimmed_blank [] blank = refl
trimmed_blank (c ∷ cs) blank =
    let both = both (is_space c) (list_all is_space cs) blank in
    ap without_last_blanks (first_yes c cs both.0) ∙ trimmed_blank cs both.1

-- the last bytes that pass a test pass it
pub last_pass : (p : ℕ → Bool) (cells : List ℕ) → list_all p (drop (length cells - suffix_len p cells) cells) ≡ true
last_pass p cells =
    let n = length cells - suffix_len p cells in
    let back = reverse cells in
    let few : suffix_len p cells ≤ length cells = suffix_len-le-length p cells in
    list_all_from p (drop n cells)
    (λ k lt.
    let within : k < length cells - n = omega (arith, length-drop n cells) in
    let mirrored : length cells - 1 - (n + k) < suffix_len p cells = omega arith in
    let there : length cells - 1 - (length cells - 1 - (n + k)) ≡ n + k = omega arith in
    let mirror : get_or back (length cells - 1 - (n + k)) 0 ≡ get_or cells (n + k) 0 =
    get_or-reverse cells (length cells - 1 - (n + k)) 0 (omega arith) ∙ ap (λ (i : ℕ). get_or cells i 0) there in
    ap p (get_or-drop n cells k 0 ∙ sym mirror) ∙ prefix_len_passes p back (length cells - 1 - (n + k)) 0 mirrored)

-- ---- a last byte that is no blank

-- a byte that is no blank stays behind the first blanks
front_stays : (xs : List ℕ) (c : ℕ) → is_space c ≡ false → (ys : List ℕ) × (without_first_blanks (xs ++ c ∷ []) ≡ ys ++ c ∷ [])
front_stays [] c other = ([], first_no c [] other)
front_stays (x ∷ xs) c other = by_test (front_stays xs c other) (is_space x) refl
  where
    by_test : (ys : List ℕ) × (without_first_blanks (xs ++ c ∷ []) ≡ ys ++ c ∷ []) → (b : Bool) → is_space x ≡ b → (ys : List ℕ) × (without_first_blanks ((x ∷ xs) ++ c ∷ []) ≡ ys ++ c ∷ [])
    by_test rest true blank = (rest.0, first_yes x (xs ++ c ∷ []) blank ∙ rest.1)
    by_test rest false is = (x ∷ xs, first_no x (xs ++ c ∷ []) is)

-- and at the end
last_stays : (xs : List ℕ) (c : ℕ) → is_space c ≡ false → without_last_blanks (xs ++ c ∷ []) ≡ xs ++ c ∷ []
last_stays xs c other =
    let none : suffix_len is_space (xs ++ c ∷ []) ≡ 0 = rw (reverse-append xs (c ∷ []), other) refl in
    take_all (length (xs ++ c ∷ []) - suffix_len is_space (xs ++ c ∷ [])) (xs ++ c ∷ []) (omega (arith, none))

-- so it is the last byte of what is left without the outer blanks
pub trimmed_last : (xs : List ℕ) (c : ℕ) → is_space c ≡ false → (ys : List ℕ) × (trimmed (xs ++ c ∷ []) ≡ ys ++ c ∷ [])
trimmed_last xs c other =
    let front = front_stays xs c other in
    (front.0, ap without_last_blanks front.1 ∙ last_stays front.0 c other)

-- ---- the three parts

-- columns are blanks, what is left without them, and blanks
pub record AreBetween (cells core : List ℕ) : Type 0 where
  pub before : List ℕ
  pub after : List ℕ
  pub whole : cells ≡ before ++ (core ++ after)
  pub blank_before : are_blank before ≡ true
  pub blank_after : are_blank after ≡ true

-- every cell is in one of the three
pub trimmed_is_between : (cells : List ℕ) → AreBetween cells (trimmed cells)
trimmed_is_between cells =
    let n = prefix_len is_space cells in
    let rest = without_first_blanks cells in
    let m = length rest - suffix_len is_space rest in
    record {
      before = take n cells;
      after = drop m rest;
      whole = sym (take-append-drop n cells) ∙ ap (λ (xs : List ℕ). take n cells ++ xs) (sym (take-append-drop m rest));
      blank_before =
          list_all_from is_space (take n cells)
          (λ k lt.
          let short : k < n = omega (arith, length-take n cells) in
          ap is_space (get_or-take n cells k 0 short) ∙ prefix_len_passes is_space cells k 0 short);
      blank_after = last_pass is_space rest;
    }
