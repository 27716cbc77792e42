-- Rows that read, as a whole, and after a change.
--     good_of, read_of       rows that read are good ones, and the other way
--     good_without           a record was taken out
--     good_replaced          one took the place of another
--     good_loaded            records stand behind all
use Rattle.std.proofs.Common.{[], ◌∷◌, ◌++◌, ◌≡◌, ℕ, zero, suc, ◌+◌, ◌<◌, ◌≤◌, true, not, List, length, take, filter, nat_eq, Some, arith, refl, sym, ap, subst, length-append, append_assoc}
use Rattle.std.specs.Prelude.{slice_get}
use Rattle.std.specs.List.{AllByRecursion}
use Rattle.std.proofs.lemmas.Bool.{cond_both, eqb-true}
use Rattle.std.proofs.lemmas.List.{append-nil}
use Rattle.std.proofs.lemmas.Grind.{common_steps}
use Rattle.mk_outside.specs.declared.tables.RecordRow.{RecordRow}
use Rattle.mk_outside.specs.declared.tables.Tables.{Tables}
use Rattle.mk_outside.specs.Rows.{in_place, put, without}
use Rattle.mk_outside.specs.Tables.{after_batch, record_number}
use Rattle.mk_library.specs.Records.{AreRising, IsRecordText, is_held, text_bytes}
use Rattle.mk_library.specs.Limits.{IsWithinLimits, file_bytes, most_bytes, most_number, most_records}
use Rattle.mk_library.specs.Library.{record_tables}
use Rattle.mk_library.specs.Edits.{puts_from}
use Rattle.mk_library.specs.Steps.{LoadKeeps}
use Rattle.mk_library.specs.StoredRows.{AllRead, Reads}
use Rattle.mk_library.proofs.LoadLemmas.{bytes_behind, change_behind, others_keep}

-- ---- rows that read, as a whole

-- what a row that reads is, wherever it stands
pub record IsGoodRow (next : ℕ) (row : RecordRow) : Type 0 where
  pub least : 1 ≤ row.number
  pub most : row.number ≤ most_number
  pub below_next : row.number < next
  pub short : length row.text ≤ file_bytes + 1
  pub text : IsRecordText row.text

-- what rows that read are together
pub record AreGood (next : ℕ) (rows : List RecordRow) : Type 0 where
  pub each : AllByRecursion (IsGoodRow next) rows
  pub rising : AreRising rows
  pub few : length rows ≤ most_records
  pub short : text_bytes rows ≤ most_bytes

-- the number is above those of these rows
abbrev IsAbove : List RecordRow → RecordRow → Type 0
IsAbove front row = AllByRecursion (λ (earlier : RecordRow). earlier.number < row.number) front

-- each row reads behind these and those before it
abbrev ReadBehind : ℕ → List RecordRow → List RecordRow → Type 0
ReadBehind next front rows = (place : ℕ) (row : RecordRow) → slice_get rows place ≡ Some row → Reads next (front ++ take place rows) row

-- and what they are so
record AreGoodBehind (next : ℕ) (front rows : List RecordRow) : Type 0 where
  each : AllByRecursion (IsGoodRow next) rows
  above : AllByRecursion (IsAbove front) rows
  rising : AreRising rows
  few : length front + length rows ≤ most_records
  short : text_bytes front + text_bytes rows ≤ most_bytes

split_front : (P : RecordRow → Type 0) (front : List RecordRow) (row : RecordRow) → AllByRecursion P (front ++ row ∷ []) → AllByRecursion P front × P row
split_front P [] row all = (tt, all.0)
split_front P (x ∷ front) row all = let rest = split_front P front row all.1 in ((all.0, rest.0), rest.1)

split_above : (front : List RecordRow) (row : RecordRow) (rows : List RecordRow) → AllByRecursion (IsAbove (front ++ row ∷ [])) rows
    → AllByRecursion (IsAbove front) rows × AllByRecursion (λ (later : RecordRow). row.number < later.number) rows
split_above front row [] all = (tt, tt)
split_above front row (x ∷ rows) all =
    let here = split_front (λ (earlier : RecordRow). earlier.number < x.number) front row all.0 in
    let rest = split_above front row rows all.1 in
    ((here.0, rest.0), (here.1, rest.1))

good_behind : (next : ℕ) (front rows : List RecordRow) → length front ≤ most_records → text_bytes front ≤ most_bytes → ReadBehind next front rows → AreGoodBehind next front rows
good_behind next front [] few short reads = record { each = tt; above = tt; rising = tt; few = omega (arith, few); short = omega (arith, short) }
good_behind next front (row ∷ rows) few short reads =
    let first : Reads next front row = subst (λ (f : List RecordRow). Reads next f row) (append-nil front) (reads 0 row refl) in
    let place = first.place in
    let bytes = bytes_behind row front in
    let rest = good_behind next (front ++ row ∷ []) rows (rw length-append (omega (arith, place.few))) (omega (arith, bytes, place.bytes))
    (λ i r there. subst (λ (f : List RecordRow). Reads next f r) (sym (append_assoc front (row ∷ []) (take i rows))) (reads (suc i) r there)) in
    let above = split_above front row rows rest.above in
    record {
      each = (record { least = place.least; most = place.most; below_next = place.below_next; short = place.short; text = first.text }, rest.each);
      above = (place.above, above.0);
      rising = (above.1, rest.rising);
      few = let count : length (front ++ row ∷ []) ≡ length front + 1 = length-append front (row ∷ []) in omega (arith, count, rest.few);
      short = omega (arith, bytes, rest.short);
    }

pub good_of : (next : ℕ) (rows : List RecordRow) → AllRead next rows → AreGood next rows
good_of next rows reads =
    let good = good_behind next [] rows (omega arith) (omega arith) reads in
    record { each = good.each; rising = good.rising; few = omega (arith, good.few); short = omega (arith, good.short) }

-- ---- and the other way

at_place : (P : RecordRow → Type 0) (rows : List RecordRow) (place : ℕ) (row : RecordRow) → AllByRecursion P rows → slice_get rows place ≡ Some row → P row
at_place P [] place row all there = cc
at_place P (x ∷ rows) zero row all there = let same : x ≡ row = cc in subst P same all.0
at_place P (x ∷ rows) (suc place) row all there = at_place P rows place row all.1 there

above_at : (rows : List RecordRow) (place : ℕ) (row : RecordRow) → AreRising rows → slice_get rows place ≡ Some row → IsAbove (take place rows) row
above_at [] place row rising there = cc
above_at (x ∷ rows) zero row rising there = tt
above_at (x ∷ rows) (suc place) row rising there =
    (at_place (λ (later : RecordRow). x.number < later.number) rows place row rising.0 there, above_at rows place row rising.1 there)

few_at : (rows : List RecordRow) (place : ℕ) (row : RecordRow) → slice_get rows place ≡ Some row → length (take place rows) < length rows
few_at [] place row there = cc
few_at (x ∷ rows) zero row there = omega arith
few_at (x ∷ rows) (suc place) row there = let rest = few_at rows place row there in omega (arith, rest)

bytes_at : (rows : List RecordRow) (place : ℕ) (row : RecordRow) → slice_get rows place ≡ Some row → text_bytes (take place rows) + length row.text ≤ text_bytes rows
bytes_at [] place row there = cc
bytes_at (x ∷ rows) zero row there = let same : x ≡ row = cc in let size = ap (λ (r : RecordRow). length r.text) same in omega (arith, size)
bytes_at (x ∷ rows) (suc place) row there = let rest = bytes_at rows place row there in omega (arith, rest)

pub read_of : (next : ℕ) (rows : List RecordRow) → AreGood next rows → AllRead next rows
read_of next rows good = λ place row there.
    let is = at_place (IsGoodRow next) rows place row good.each there in
    record {
      place = record {
        least = is.least;
        most = is.most;
        above = above_at rows place row good.rising there;
        below_next = is.below_next;
        few = let few = few_at rows place row there in omega (arith, few, good.few);
        bytes = let bytes = bytes_at rows place row there in omega (arith, bytes, good.short);
        short = is.short;
      };
      text = is.text;
    }

-- ---- a record that is taken out

all_without : (P : RecordRow → Type 0) (n : ℕ) (rows : List RecordRow) → AllByRecursion P rows → AllByRecursion P (without record_number n rows)
unfolding without
all_without P n [] all = tt
all_without P n (x ∷ rows) all =
    cond_both (not (nat_eq x.number n)) (x ∷ filter (λ r. not (nat_eq (record_number r) n)) rows) (filter (λ r. not (nat_eq (record_number r) n)) rows) (AllByRecursion P)
    (λ _. (all.0, all_without P n rows all.1)) (λ _. all_without P n rows all.1)

rising_without : (n : ℕ) (rows : List RecordRow) → AreRising rows → AreRising (without record_number n rows)
unfolding without
rising_without n [] rising = tt
rising_without n (x ∷ rows) rising =
    cond_both (not (nat_eq x.number n)) (x ∷ filter (λ r. not (nat_eq (record_number r) n)) rows) (filter (λ r. not (nat_eq (record_number r) n)) rows) AreRising
    (λ _. (all_without (λ (later : RecordRow). x.number < later.number) n rows rising.0, rising_without n rows rising.1)) (λ _. rising_without n rows rising.1)

fewer_without : (n : ℕ) (rows : List RecordRow) → length (without record_number n rows) ≤ length rows
unfolding without
fewer_without n [] = omega arith
fewer_without n (x ∷ rows) = grind (arith, common_steps, fewer_without n rows)

bytes_without : (n : ℕ) (rows : List RecordRow) → text_bytes (without record_number n rows) ≤ text_bytes rows
unfolding without
bytes_without n [] = omega arith
bytes_without n (x ∷ rows) = grind (arith, common_steps, bytes_without n rows)

pub good_without : (next n : ℕ) (rows : List RecordRow) → AreGood next rows → AreGood next (without record_number n rows)
good_without next n rows good = record {
  each = all_without (IsGoodRow next) n rows good.each;
  rising = rising_without n rows good.rising;
  few = let fewer = fewer_without n rows in omega (arith, fewer, good.few);
  short = let fewer = bytes_without n rows in omega (arith, fewer, good.short);
}

-- ---- a record in place of another

all_in_place : (P : RecordRow → Type 0) (row : RecordRow) (rows : List RecordRow) → P row → AllByRecursion P rows → AllByRecursion P (in_place record_number row rows)
all_in_place P row [] p all = tt
all_in_place P row (x ∷ rows) p all =
    cond_both (nat_eq x.number row.number) (row ∷ rows) (x ∷ in_place record_number row rows) (AllByRecursion P) (λ _. (p, all.1)) (λ _. (all.0, all_in_place P row rows p all.1))

above_in_place : (n : ℕ) (row : RecordRow) (rows : List RecordRow)
    → AllByRecursion (λ (later : RecordRow). n < later.number) rows
    → AllByRecursion (λ (later : RecordRow). n < later.number) (in_place record_number row rows)
above_in_place n row [] all = tt
above_in_place n row (x ∷ rows) all =
    cond_both (nat_eq x.number row.number) (row ∷ rows) (x ∷ in_place record_number row rows) (AllByRecursion (λ (later : RecordRow). n < later.number))
    (λ e. (subst (λ m. n < m) (eqb-true _ _ e) all.0, all.1)) (λ _. (all.0, above_in_place n row rows all.1))

rising_in_place : (row : RecordRow) (rows : List RecordRow) → AreRising rows → AreRising (in_place record_number row rows)
rising_in_place row [] rising = tt
rising_in_place row (x ∷ rows) rising =
    cond_both (nat_eq x.number row.number) (row ∷ rows) (x ∷ in_place record_number row rows) AreRising
    (λ e. (subst (λ m. AllByRecursion (λ (later : RecordRow). m < later.number) rows) (eqb-true _ _ e) rising.0, rising.1))
    (λ _. (above_in_place x.number row rows rising.0, rising_in_place row rows rising.1))

pub held_number_is : (P : ℕ → Type 0) (n : ℕ) (rows : List RecordRow) → AllByRecursion (λ (row : RecordRow). P row.number) rows → is_held n rows ≡ true → P n
held_number_is P n [] all held = cc
held_number_is P n (x ∷ rows) all held =
    cond_both (nat_eq x.number n) true (is_held n rows) (λ b. b ≡ true → P n)
    (λ e. λ _. subst P (eqb-true _ _ e) all.0) (λ _. λ later. held_number_is P n rows all.1 later)
    (grind (arith, common_steps, held))

pub each_below : (next : ℕ) (rows : List RecordRow) → AllByRecursion (IsGoodRow next) rows → AllByRecursion (λ (row : RecordRow). row.number < next) rows
each_below next [] all = tt
each_below next (row ∷ rows) all = (all.0.below_next, each_below next rows all.1)

each_least : (next : ℕ) (rows : List RecordRow) → AllByRecursion (IsGoodRow next) rows → AllByRecursion (λ (row : RecordRow). 1 ≤ row.number) rows
each_least next [] all = tt
each_least next (row ∷ rows) all = (all.0.least, each_least next rows all.1)

each_known : (next : ℕ) (rows : List RecordRow) → AllByRecursion (IsGoodRow next) rows → AllByRecursion (λ (row : RecordRow). row.number ≤ most_number) rows
each_known next [] all = tt
each_known next (row ∷ rows) all = (all.0.most, each_known next rows all.1)

put_held : (row : RecordRow) (rows : List RecordRow) → is_held row.number rows ≡ true → put record_number row rows ≡ in_place record_number row rows
unfolding put
put_held row rows held = rw held refl

-- the text of a row that reads
pub record IsGoodText (text : List ℕ) : Type 0 where
  pub short : length text ≤ file_bytes + 1
  pub is : IsRecordText text

pub good_replaced : (next n : ℕ) (text : List ℕ) (rows : List RecordRow) → AreGood next rows → is_held n rows ≡ true → IsGoodText text
    → IsWithinLimits (put record_number (record { number = n; text = text }) rows) → AreGood next (put record_number (record { number = n; text = text }) rows)
good_replaced next n text rows good held is limits =
    let row : RecordRow = record { number = n; text = text } in
    let below = held_number_is (λ m. m < next) n rows (each_below next rows good.each) held in
    let least = held_number_is (λ m. 1 ≤ m) n rows (each_least next rows good.each) held in
    let known = held_number_is (λ m. m ≤ most_number) n rows (each_known next rows good.each) held in
    let same = put_held row rows held in
    record {
      each = subst (AllByRecursion (IsGoodRow next)) (sym same)
          (all_in_place (IsGoodRow next) row rows (record { least = least; most = known; below_next = below; short = is.short; text = is.is }) good.each);
      rising = subst AreRising (sym same) (rising_in_place row rows good.rising);
      few = limits.few;
      short = limits.short;
    }

-- ---- records behind all

all_behind : (P : RecordRow → Type 0) (row : RecordRow) (rows : List RecordRow) → P row → AllByRecursion P rows → AllByRecursion P (rows ++ row ∷ [])
all_behind P row [] p all = (p, tt)
all_behind P row (x ∷ rows) p all = (all.0, all_behind P row rows p all.1)

rising_behind : (row : RecordRow) (rows : List RecordRow) → AreRising rows → IsAbove rows row → AreRising (rows ++ row ∷ [])
rising_behind row [] rising above = (tt, tt)
rising_behind row (x ∷ rows) rising above = (all_behind (λ (later : RecordRow). x.number < later.number) row rows above.0 rising.0, rising_behind row rows rising.1 above.1)

each_weaker : (m n : ℕ) (rows : List RecordRow) → m ≤ n → AllByRecursion (IsGoodRow m) rows → AllByRecursion (IsGoodRow n) rows
each_weaker m n [] le all = tt
each_weaker m n (row ∷ rows) le all =
    (record { least = all.0.least; most = all.0.most; below_next = omega (arith, all.0.below_next, le); short = all.0.short; text = all.0.text }, each_weaker m n rows le all.1)

good_behind_all : (n : ℕ) (text : List ℕ) (texts : List (List ℕ)) (records : List RecordRow) → 1 ≤ n → AreGood n records → IsGoodText text → LoadKeeps records n (text ∷ texts)
    → AreGood (n + 1) (records ++ record { number = n; text = text } ∷ [])
good_behind_all n text texts records least good is keeps =
    let row : RecordRow = record { number = n; text = text } in
    record {
      each = all_behind (IsGoodRow (n + 1)) row records
          (record { least = least; most = let known = keeps.numbers 0 (omega arith) in omega (arith, known); below_next = omega arith; short = is.short; text = is.is })
          (each_weaker n (n + 1) records (omega arith) good.each);
      rising = rising_behind row records good.rising (each_below n records good.each);
      few = rw length-append (omega (arith, keeps.few));
      short = let bytes = bytes_behind row records in omega (arith, bytes, keeps.short);
    }

pub good_loaded : (texts : List (List ℕ)) (n : ℕ) (records : List RecordRow) → 1 ≤ n → AreGood n records → AllByRecursion IsGoodText texts → LoadKeeps records n texts
    → AreGood (after_batch (puts_from n texts) (record_tables records n)).next_record (after_batch (puts_from n texts) (record_tables records n)).records
    × (1 ≤ (after_batch (puts_from n texts) (record_tables records n)).next_record)
good_loaded [] n records least good are keeps = (good, least)
good_loaded (text ∷ texts) n records least good are keeps =
    subst (λ (t : Tables). AreGood (after_batch (puts_from (n + 1) texts) t).next_record
    (after_batch (puts_from (n + 1) texts) t).records × (1 ≤ (after_batch (puts_from (n + 1) texts) t).next_record))
    (sym (change_behind n text records (each_below n records good.each)))
    (good_loaded texts (n + 1) (records ++ record { number = n; text = text } ∷ []) (omega arith)
    (good_behind_all n text texts records least good are.0 keeps) are.1 (others_keep records texts n text keeps))
