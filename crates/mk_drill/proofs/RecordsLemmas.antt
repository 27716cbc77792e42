-- The records of drilled molecules by their numbers, all of them or those that are left.
--     text_there, text_given       the text under a number of all records
--     text_passing                 and of those whose numbers pass a test
--     left_more                    one multiple of 5 less
use Rattle.std.proofs.Common.{[], ◌∷◌, ◌≡◌, ℕ, zero, suc, ◌+◌, ◌*◌, ◌/◌, ◌%◌, ◌<◌, ◌≤◌, ◌&&◌, ◌||◌, Bool, true, false, cond, not, eqb, leb, List, map, Option, Some, None, arith, refl, sym, ap, ◌∙◌, ◌⊎◌, inl, inr}
use Rattle.std.specs.List.{filter, range_with_len}
use Rattle.std.proofs.lemmas.Bool.{cases_lt, eqb-true, eqb-false, leb-true, leb-false}
use Rattle.std.proofs.lemmas.List.Elements.{filter_agree}
use Rattle.mk_outside.specs.declared.tables.RecordRow.{RecordRow}
use Rattle.mk_outside.specs.Rows.{without}
use Rattle.mk_outside.specs.Tables.{record_number}
use Rattle.mk_library.specs.Records.{is_held, text_under}
use Rattle.mk_drill.specs.Draws.{drilled_table, state_for}
use Rattle.mk_drill.specs.DrilledRecords.{drilled_record, is_left, left_below, record_text}

-- the text of molecule n
abbrev pub text_for : ℕ → ℕ → List ℕ
text_for start n = record_text (drilled_table (state_for start n))

-- the rows whose number passes
abbrev pub passing : (ℕ → Bool) → List RecordRow → List RecordRow
passing keep records = filter (λ (row : RecordRow). keep row.number) records

-- the records of so many molecules from the m-th on
abbrev pub records_from : ℕ → ℕ → ℕ → List RecordRow
records_from start m k = map (drilled_record start) (range_with_len m k)

number_of : (start n : ℕ) → (drilled_record start n).number ≡ n
unfolding drilled_record
number_of start n = refl

text_is : (start n : ℕ) → (drilled_record start n).text ≡ text_for start n
unfolding drilled_record
text_is start n = refl

-- ---- under a number

there_at : (b : Bool) (x n : ℕ) (first text : List ℕ) (others : Option (List ℕ)) → eqb x n ≡ b → (x ≡ n → first ≡ text) → ((x ≡ n → ⊥) → others ≡ Some text) → cond b (Some first) others ≡ Some text
there_at true x n first text others is same other = ap (λ (t : List ℕ). Some t) (same (eqb-true x n is))
there_at false x n first text others is same other = other (eqb-false x n is)

-- the text of each of them
text_from : (start n m k : ℕ) → m ≤ n → n < m + k → text_under n (records_from start m k) ≡ Some (text_for start n)
text_from start n m zero least below = absurd (omega arith)
text_from start n m (suc k) least below =
    there_at (eqb (drilled_record start m).number n) (drilled_record start m).number n (drilled_record start m).text (text_for start n) (text_under n (records_from start (m + 1) k)) refl
    (λ same. text_is start m ∙ ap (text_for start) (sym (number_of start m) ∙ same))
    (λ other. text_from start n (m + 1) k (by_order (cases_lt m n) other) (omega arith))
  where
    by_order : (m < n) ⊎ (n ≤ m) → ((drilled_record start m).number ≡ n → ⊥) → m + 1 ≤ n
    by_order (inl less) other = omega arith
    by_order (inr more) other = absurd (other (number_of start m ∙ (let same : m ≡ n = omega arith in same)))

pub text_there : (start count n : ℕ) → 1 ≤ n → n ≤ count → text_under n (records_from start 1 count) ≡ Some (text_for start n)
text_there start count n least most = text_from start n 1 count least (omega arith)

-- the text under a number is that of the molecule
pub record IsTextFor (start m k n : ℕ) (text : List ℕ) : Type 0 where
  pub least : m ≤ n
  pub below : n < m + k
  pub is : text ≡ text_for start n

given_at : (b : Bool) (x n : ℕ) (first text : List ℕ) (others : Option (List ℕ)) (P : Type 0) → eqb x n ≡ b
    → cond b (Some first) others ≡ Some text → (x ≡ n → first ≡ text → P) → (others ≡ Some text → P) → P
given_at true x n first text others P is at same other = same (eqb-true x n is) cc
given_at false x n first text others P is at same other = other at

given_from : (start n m k : ℕ) (text : List ℕ) → text_under n (records_from start m k) ≡ Some text → IsTextFor start m k n text
given_from start n m zero text at = absurd cc
given_from start n m (suc k) text at =
    given_at (eqb (drilled_record start m).number n) (drilled_record start m).number n (drilled_record start m).text
    text (text_under n (records_from start (m + 1) k)) (IsTextFor start m (suc k) n text) refl at
    (λ same first.
    let number : m ≡ n = sym (number_of start m) ∙ same in
    record { least = omega (arith, number); below = omega (arith, number); is = sym first ∙ text_is start m ∙ ap (text_for start) number })
    (λ later.
    let rest = given_from start n (m + 1) k text later in
    record { least = omega (arith, rest.least); below = omega (arith, rest.below); is = rest.is })

pub text_given : (start count n : ℕ) (text : List ℕ) → text_under n (records_from start 1 count) ≡ Some text → IsTextFor start 1 count n text
text_given start count n text at = given_from start n 1 count text at

-- ---- those that pass

passing_at : (a b : Bool) (keep : ℕ → Bool) (row : RecordRow) (records : List RecordRow) (n : ℕ) → keep row.number ≡ a → eqb row.number n ≡ b
    → text_under n (passing keep records) ≡ cond (keep n) (text_under n records) None
    → text_under n (cond a (row ∷ passing keep records) (passing keep records)) ≡ cond (keep n) (cond b (Some row.text) (text_under n records)) None
passing_at true true keep row records n kept is rest =
    let passes : keep n ≡ true = ap keep (sym (eqb-true row.number n is)) ∙ kept in
    rw (is, passes) refl
passing_at true false keep row records n kept is rest = rw is rest
passing_at false true keep row records n kept is rest =
    let fails : keep n ≡ false = ap keep (sym (eqb-true row.number n is)) ∙ kept in
    rest ∙ rw fails refl
passing_at false false keep row records n kept is rest = rest

either_same : (b : Bool) (text : Option (List ℕ)) → text ≡ cond b text text
either_same true text = refl
either_same false text = refl

-- the text under a number, where it passes
pub text_passing : (keep : ℕ → Bool) (records : List RecordRow) (n : ℕ) → text_under n (passing keep records) ≡ cond (keep n) (text_under n records) None
text_passing keep [] n = either_same (keep n) None
text_passing keep (row ∷ records) n = passing_at (keep row.number) (eqb row.number n) keep row records n refl refl (text_passing keep records n)

-- a record with a text is held
held_at : (b : Bool) (first text : List ℕ) (others : Option (List ℕ)) (held : Bool) → cond b (Some first) others ≡ Some text → (others ≡ Some text → held ≡ true) → (b || held) ≡ true
held_at true first text others held at rest = refl
held_at false first text others held at rest = rest at

pub held_by_text : (n : ℕ) (records : List RecordRow) (text : List ℕ) → text_under n records ≡ Some text → is_held n records ≡ true
held_by_text n [] text at = absurd cc
held_by_text n (row ∷ records) text at = held_at (eqb row.number n) row.text text (text_under n records) (is_held n records) at (held_by_text n records text)

-- ---- multiples of 5

-- two tests one after the other
both_at : (a b : Bool) (p : RecordRow → Bool) (row : RecordRow) (rest others : List RecordRow) → p row ≡ b → filter p others ≡ rest
    → filter p (cond a (row ∷ others) others) ≡ cond (a && b) (row ∷ rest) rest
both_at true true p row rest others is same = rw is (ap (λ (rows : List RecordRow). row ∷ rows) same)
both_at true false p row rest others is same = rw is same
both_at false b p row rest others is same = same

filter_both : (p q : RecordRow → Bool) (records : List RecordRow) → filter p (filter q records) ≡ filter (λ row. q row && p row) records
filter_both p q [] = refl
filter_both p q (row ∷ records) = both_at (q row) (p row) p row (filter (λ row. q row && p row) records) (filter q records) refl (filter_both p q records)

-- what is left by one test more: the number is up to the next multiple of 5 exactly where it is up to this one, or is the next one
left_at : (a b c d : Bool) (k x : ℕ) → eqb (x % 5) 0 ≡ a → leb x (5 * k) ≡ b → leb x (5 * (k + 1)) ≡ c → eqb x (5 * k + 5) ≡ d → (not (a && b) && not d) ≡ not (a && c)
left_at true true true d k x multiple less more is = refl
left_at true true false d k x multiple less more is = absurd (omega (arith, leb-true x (5 * k) less, leb-false x (5 * (k + 1)) more))
left_at true false true true k x multiple less more is = refl
left_at true false true false k x multiple less more is =
    absurd (eqb-false x (5 * k + 5) is (omega (arith, eqb-true (x % 5) 0 multiple, leb-false x (5 * k) less, leb-true x (5 * (k + 1)) more)))
left_at true false false true k x multiple less more is = absurd (omega (arith, eqb-true x (5 * k + 5) is, leb-false x (5 * (k + 1)) more))
left_at true false false false k x multiple less more is = refl
left_at false b c true k x multiple less more is = absurd (eqb-false (x % 5) 0 multiple (omega (arith, eqb-true x (5 * k + 5) is)))
left_at false b c false k x multiple less more is = refl

-- one multiple of 5 less
pub left_more : (k : ℕ) (records : List RecordRow) → without record_number (5 * k + 5) (left_below k records) ≡ left_below (k + 1) records
unfolding without
left_more k records =
    filter_both (λ row. not (eqb row.number (5 * k + 5))) (λ row. is_left k row.number) records
    ∙ filter_agree (λ (row : RecordRow). is_left k row.number && not (eqb row.number (5 * k + 5))) (λ (row : RecordRow). is_left (k + 1) row.number)
    (λ row. left_at _ _ _ _ k row.number refl refl refl refl) records

-- none is removed at first
none_at : (a b : Bool) (x : ℕ) → eqb (x % 5) 0 ≡ a → leb x 0 ≡ b → (1 ≤ x) → not (a && b) ≡ true
none_at true true x multiple less least = absurd (omega (arith, leb-true x 0 less))
none_at true false x multiple less least = refl
none_at false b x multiple less least = refl

pub left_none : (start m k : ℕ) → 1 ≤ m → left_below 0 (records_from start m k) ≡ records_from start m k
left_none start m zero least = refl
left_none start m (suc k) least =
    let first : is_left 0 (drilled_record start m).number ≡ true =
    none_at (eqb ((drilled_record start m).number % 5) 0) (leb (drilled_record start m).number 0)
    (drilled_record start m).number refl refl (omega (arith, number_of start m)) in
    rw first (ap (λ (rows : List RecordRow). drilled_record start m ∷ rows) (left_none start (m + 1) k (omega arith)))

-- the next multiple is held
next_at : (a b : Bool) (k : ℕ) → eqb ((5 * k + 5) % 5) 0 ≡ a → leb (5 * k + 5) (5 * k) ≡ b → not (a && b) ≡ true
next_at true true k multiple less = absurd (omega (arith, leb-true (5 * k + 5) (5 * k) less))
next_at true false k multiple less = refl
next_at false b k multiple less = refl

pub next_held : (start count k : ℕ) → 5 * k + 5 ≤ count → is_held (5 * k + 5) (left_below k (records_from start 1 count)) ≡ true
next_held start count k most =
    held_by_text (5 * k + 5) (left_below k (records_from start 1 count)) (text_for start (5 * k + 5))
    (text_passing (is_left k) (records_from start 1 count) (5 * k + 5)
    ∙ (let kept : is_left k (5 * k + 5) ≡ true = next_at (eqb ((5 * k + 5) % 5) 0) (leb (5 * k + 5) (5 * k)) k refl refl in rw kept (text_there start count (5 * k + 5) (omega arith) most)))

-- behind all removals a number is left exactly where it is no multiple of 5
gone_at : (a b : Bool) (count n : ℕ) → eqb (n % 5) 0 ≡ a → leb n (5 * (count / 5)) ≡ b → n ≤ count → not (a && b) ≡ true → n % 5 ≡ 0 → ⊥
gone_at true true count n multiple less most left is = absurd cc
gone_at true false count n multiple less most left is = omega (arith, leb-false n (5 * (count / 5)) less)
gone_at false b count n multiple less most left is = eqb-false (n % 5) 0 multiple is

pub left_is_no_multiple : (count n : ℕ) → n ≤ count → is_left (count / 5) n ≡ true → n % 5 ≡ 0 → ⊥
left_is_no_multiple count n most left = gone_at (eqb (n % 5) 0) (leb n (5 * (count / 5))) count n refl refl most left

stays_at : (a b : Bool) (n : ℕ) → eqb (n % 5) 0 ≡ a → (n % 5 ≡ 0 → ⊥) → not (a && b) ≡ true
stays_at true b n multiple other = absurd (other (eqb-true (n % 5) 0 multiple))
stays_at false b n multiple other = refl

pub no_multiple_is_left : (count n : ℕ) → (n % 5 ≡ 0 → ⊥) → is_left (count / 5) n ≡ true
no_multiple_is_left count n other = stays_at (eqb (n % 5) 0) (leb n (5 * (count / 5))) n refl other
