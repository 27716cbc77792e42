-- One change of a library: what it keeps, and which tables it leaves.
use Rattle.std.proofs.Common.{[], ◌∷◌, ◌≡◌, ℕ, ◌+◌, ◌-◌, ◌<◌, ◌≤◌, inl, inr, true, false, List, length, Some, arith, refl, sym, ap, ◌∙◌, subst}
use Rattle.std.specs.List.{AllByRecursion}
use Rattle.std.proofs.lemmas.Bool.{true≢false}
use Rattle.std.proofs.lemmas.List.{length-map}
use Rattle.std.proofs.lemmas.Grind.{common_steps}
use Rattle.mk_rows.specs.declared.by_number.Numbered.{Numbered}
use Rattle.mk_rows.specs.Rows.{holds, item_at, put_in_order, replaced, without}
use Rattle.mk_rows.proofs.ForCallers.{put_rising, replaced_rising, without_rising}
use Rattle.mk_model.specs.Molecules.{Molecule}
use Rattle.mk_outside.specs.declared.tables.RecordRow.{RecordRow}
use Rattle.mk_outside.specs.declared.tables.Change.TheVariants.{PutRecord, DropRecord}
use Rattle.mk_outside.specs.Tables.{after_change}
use Rattle.mk_library.specs.Records.{IsMoleculeOf, records_of, text_bytes}
use Rattle.mk_library.specs.Limits.{IsWithinLimits, most_bytes, most_number}
use Rattle.mk_library.specs.Library.{IsKept, record_tables}
use Rattle.mk_library.specs.Pending.{IsNumbered, KeepsLimits}
use Rattle.mk_library.proofs.RecordsLemmas.{all_held, all_of_records, all_of_rows, all_put, all_replaced, all_without, bytes_put, bytes_replaced, bytes_without, fewer_without, held_of, held_put, held_replaced, held_without, of_put, put_held, put_new, without_of}

same_tables : (a b : List RecordRow) (m n : ℕ) → a ≡ b → m ≡ n → record_tables a m ≡ record_tables b n
same_tables a b m n p q = ap (λ (xs : List RecordRow). record_tables xs m) p ∙ ap (λ k. record_tables b k) q

-- ---- a record that is held

pub held_tables : (texts : List (Numbered (List ℕ))) (rows : List (Numbered Molecule)) (bytes next number : ℕ) (text : List ℕ) → IsKept texts rows bytes next → holds number texts ≡ true
    → record_tables (records_of (replaced (record { number = number; item = text }) texts)) next ≡ after_change (PutRecord number text) (record_tables (records_of texts) next)
held_tables texts rows bytes next number text kept held =
    let below : number < next = all_held (λ n. n < next) number texts (all_of_rows (λ n. n < next) texts kept.below_next) held in
    same_tables _ _ _ _ (put_held (record { number = number; item = text }) texts held) (omega arith)

-- a text that is held is among those that are counted
pub former_within : (n : ℕ) (former : List ℕ) (texts : List (Numbered (List ℕ))) → item_at n texts ≡ Some former → length former ≤ text_bytes (records_of texts)
former_within n former [] is = cc
former_within n former (x ∷ texts) is = grind (arith, common_steps, former_within n former texts)

pub held_kept : (texts : List (Numbered (List ℕ))) (rows : List (Numbered Molecule)) (bytes next number : ℕ) (text former : List ℕ) (mol : Molecule) → IsKept texts rows bytes next
    → holds number texts ≡ true → item_at number texts ≡ Some former → IsMoleculeOf text mol → KeepsLimits (PutRecord number text) (record_tables (records_of texts) next)
    → IsKept (replaced (record { number = number; item = text }) texts) (replaced (record { number = number; item = mol }) rows) ((bytes - length former) + length text) next
held_kept texts rows bytes next number text former mol kept held is molecule limits = record {
  rising = replaced_rising (record { number = number; item = text }) texts kept.rising;
  below_next = all_of_records (λ n. n < next) _ (all_replaced (λ n. n < next) (record { number = number; item = text }) texts (all_of_rows (λ n. n < next) texts kept.below_next));
  limits = subst IsWithinLimits (sym (put_held (record { number = number; item = text }) texts held)) limits;
  held = held_replaced number text mol texts rows molecule kept.held;
  counted = let bytes_are = bytes_replaced (record { number = number; item = text }) former texts is in
      let counted : bytes ≡ text_bytes (records_of texts) = kept.counted in
      let short : length former ≤ text_bytes (records_of texts) = former_within number former texts is in
      omega (arith, bytes_are, counted, short);
}

length_replaced : {T : Type 0} (row : Numbered T) (rows : List (Numbered T)) → length (replaced row rows) ≡ length rows
length_replaced row [] = refl
length_replaced row (x ∷ rows) = grind (arith, common_steps, length_replaced row rows)

-- where the bytes suffice, a text in place of the former keeps the limits
pub over_keeps : (texts : List (Numbered (List ℕ))) (rows : List (Numbered Molecule)) (bytes next number : ℕ) (text former : List ℕ) → IsKept texts rows bytes next → holds number texts ≡ true
    → item_at number texts ≡ Some former → length text ≤ most_bytes - (bytes - length former) → KeepsLimits (PutRecord number text) (record_tables (records_of texts) next)
over_keeps texts rows bytes next number text former kept held is fits =
    subst IsWithinLimits (put_held (record { number = number; item = text }) texts held) (record {
      few = rw (length-map, length_replaced (record { number = number; item = text }) texts) (rw length-map at kept.limits.few);
      short = let bytes_are = bytes_replaced (record { number = number; item = text }) former texts is in
          let within = former_within number former texts is in
          omega (arith, bytes_are, within, kept.counted, kept.limits.short, fits);
      numbers = all_of_records (λ n. n ≤ most_number) _
          (all_replaced (λ n. n ≤ most_number) (record { number = number; item = text }) texts
          (all_of_rows (λ n. n ≤ most_number) texts kept.limits.numbers));
    })

-- and where the limits are kept, the bytes suffice
pub over_fits : (texts : List (Numbered (List ℕ))) (rows : List (Numbered Molecule)) (bytes next number : ℕ) (text former : List ℕ) → IsKept texts rows bytes next → holds number texts ≡ true
    → item_at number texts ≡ Some former → KeepsLimits (PutRecord number text) (record_tables (records_of texts) next) → length text ≤ most_bytes - (bytes - length former)
over_fits texts rows bytes next number text former kept held is keeps =
    let limits : IsWithinLimits (records_of (replaced (record { number = number; item = text }) texts)) =
    subst IsWithinLimits (sym (put_held (record { number = number; item = text }) texts held)) keeps in
    let short = limits.short in
    let bytes_are = bytes_replaced (record { number = number; item = text }) former texts is in
    let within = former_within number former texts is in
    omega (arith, bytes_are, within, kept.counted, short)

-- ---- a record under the next number

number_next : (texts : List (Numbered (List ℕ))) (next number : ℕ) (text : List ℕ) → holds number texts ≡ false
    → IsNumbered (PutRecord number text) (record_tables (records_of texts) next) → number ≡ next
number_next texts next number text new (inl held) = absurd (true≢false (sym held ∙ sym (held_of number texts) ∙ new))
number_next texts next number text new (inr is) = is

pub new_tables : (texts : List (Numbered (List ℕ))) (next number : ℕ) (text : List ℕ) → holds number texts ≡ false
    → IsNumbered (PutRecord number text) (record_tables (records_of texts) next)
    → record_tables (records_of (put_in_order (record { number = number; item = text }) texts)) (number + 1) ≡ after_change (PutRecord number text) (record_tables (records_of texts) next)
new_tables texts next number text new numbered =
    let is : number ≡ next = number_next texts next number text new numbered in
    same_tables _ _ _ _ (put_new (record { number = number; item = text }) texts new) (omega (arith, is))

-- a number that can be kept
pub new_known : (texts : List (Numbered (List ℕ))) (next number : ℕ) (text : List ℕ) → holds number texts ≡ false
    → KeepsLimits (PutRecord number text) (record_tables (records_of texts) next) → number ≤ most_number
new_known texts next number text new limits =
    of_put (λ n. n ≤ most_number) (record { number = number; item = text }) texts
    (all_of_rows (λ n. n ≤ most_number) _ (subst IsWithinLimits (sym (put_new (record { number = number; item = text }) texts new)) limits).numbers)

pub all_below : (m n : ℕ) (rows : List (Numbered (List ℕ))) → m ≤ n → AllByRecursion (λ x. x.number < m) rows → AllByRecursion (λ x. x.number < n) rows
all_below m n [] le h = tt
all_below m n (x ∷ rows) le h = (omega (arith, h.0), all_below m n rows le h.1)

pub new_kept : (texts : List (Numbered (List ℕ))) (rows : List (Numbered Molecule)) (bytes next number : ℕ) (text : List ℕ) (mol : Molecule) → IsKept texts rows bytes next
    → holds number texts ≡ false → IsNumbered (PutRecord number text) (record_tables (records_of texts) next) → IsMoleculeOf text mol
    → KeepsLimits (PutRecord number text) (record_tables (records_of texts) next)
    → IsKept (put_in_order (record { number = number; item = text }) texts) (put_in_order (record { number = number; item = mol }) rows) (bytes + length text) (number + 1)
new_kept texts rows bytes next number text mol kept new numbered molecule limits = record {
  rising = put_rising (record { number = number; item = text }) texts kept.rising new;
  below_next = let is : number ≡ next = number_next texts next number text new numbered in
      all_of_records (λ n. n < number + 1) _ (all_put (λ n. n < number + 1) (record { number = number; item = text })
      texts (omega arith) (all_below next (number + 1) texts (omega (arith, is))
      (all_of_rows (λ n. n < next) texts kept.below_next)));
  limits = subst IsWithinLimits (sym (put_new (record { number = number; item = text }) texts new)) limits;
  held = held_put number text mol texts rows molecule kept.held;
  counted = let bytes_are = bytes_put (record { number = number; item = text }) texts in
      let counted : bytes ≡ text_bytes (records_of texts) = kept.counted in
      omega (arith, bytes_are, counted);
}

-- ---- a record that is taken out

pub out_tables : (texts : List (Numbered (List ℕ))) (next number : ℕ)
    → record_tables (records_of (without number texts)) next ≡ after_change (DropRecord number) (record_tables (records_of texts) next)
out_tables texts next number = same_tables _ _ _ _ (without_of number texts) refl

fewer_records : (number : ℕ) (texts : List (Numbered (List ℕ))) → length (records_of (without number texts)) ≤ length (records_of texts)
fewer_records number texts = rw (length-map, length-map) (fewer_without number texts)

pub out_kept : (texts : List (Numbered (List ℕ))) (rows : List (Numbered Molecule)) (bytes next number : ℕ) (former : List ℕ) → IsKept texts rows bytes next
    → item_at number texts ≡ Some former → IsKept (without number texts) (without number rows) (bytes - length former) next
out_kept texts rows bytes next number former kept is =
    let bytes_are : text_bytes (records_of (without number texts)) + length former ≡ text_bytes (records_of texts) = bytes_without number former texts kept.rising is in
    record {
      rising = without_rising number texts kept.rising;
      below_next = all_of_records (λ n. n < next) _ (all_without (λ n. n < next) number texts (all_of_rows (λ n. n < next) texts kept.below_next));
      limits = record {
        few = let fewer = fewer_records number texts in omega (arith, fewer, kept.limits.few);
        short = omega (arith, bytes_are, kept.limits.short);
        numbers = all_of_records (λ n. n ≤ most_number) _ (all_without (λ n. n ≤ most_number) number texts (all_of_rows (λ n. n ≤ most_number) texts kept.limits.numbers));
      };
      held = held_without number texts rows kept.held;
      counted = let counted : bytes ≡ text_bytes (records_of texts) = kept.counted in omega (arith, bytes_are, counted);
    }
