-- Texts under their numbers as record rows, and molecules beside them.
use Rattle.std.proofs.Common.{◌≡◌, ℕ, ◌+◌, ◌<◌, ◌≤◌, Bool, true, false, not, List, [], ◌∷◌, length, nat_eq, nat_lt, Option, Some, None, arith, refl, sym, ap, ◌∙◌, subst}
use Rattle.std.specs.List.{AllByRecursion}
use Rattle.std.proofs.lemmas.Bool.{cond_both, eqb-true, eqb-false, ltb-true, ltb-false}
use Rattle.std.proofs.lemmas.Grind.{common_steps}
use Rattle.mk_rows.specs.declared.by_number.Numbered.{Numbered}
use Rattle.std.specs.Prelude.{IfNone, IfSome}
use Rattle.mk_library.specs.Library.{IsKept, IsLeastHeld, IsLibrary, NoneHeld}
use Rattle.mk_rows.specs.Rows.{holds, item_at, IsLeastFrom, NoneFrom, IsRising, put_in_order, replaced, without}
use Rattle.mk_model.specs.Molecules.{Molecule}
use Rattle.mk_outside.specs.declared.tables.RecordRow.{RecordRow}
use Rattle.mk_outside.specs.Rows.{put, in_place, in_order}
use Rattle.mk_outside.specs.Rows as outside
use Rattle.mk_outside.specs.Tables.{record_number}
use Rattle.mk_library.specs.Records.{AreHeld, AreRising, IsMoleculeOf, is_held, record_of, records_of, text_bytes, text_under}

-- ---- texts as record rows

pub held_of : (n : ℕ) (rows : List (Numbered (List ℕ))) → holds n rows ≡ is_held n (records_of rows)
held_of n [] = refl
held_of n (row ∷ rows) = grind (arith, common_steps, held_of n rows)

pub text_there : (n : ℕ) (rows : List (Numbered (List ℕ))) → item_at n rows ≡ text_under n (records_of rows)
text_there n [] = refl
text_there n (row ∷ rows) = grind (arith, common_steps, text_there n rows)

pub in_order_of : (row : Numbered (List ℕ)) (rows : List (Numbered (List ℕ)))
    → records_of (put_in_order row rows) ≡ in_order record_number (record_of row) (records_of rows)
in_order_of row [] = refl
in_order_of row (x ∷ rows) = grind (arith, common_steps, in_order_of row rows)

in_place_of : (row : Numbered (List ℕ)) (rows : List (Numbered (List ℕ)))
    → records_of (replaced row rows) ≡ in_place record_number (record_of row) (records_of rows)
in_place_of row [] = refl
in_place_of row (x ∷ rows) = grind (arith, common_steps, in_place_of row rows)

-- a row of a new number is put in order
pub put_new : (row : Numbered (List ℕ)) (rows : List (Numbered (List ℕ))) → holds row.number rows ≡ false
    → records_of (put_in_order row rows) ≡ put record_number (record_of row) (records_of rows)
unfolding put
put_new row rows new =
    let none : is_held row.number (records_of rows) ≡ false = sym (held_of row.number rows) ∙ new in
    rw none (in_order_of row rows)

-- one of a number that is held in place of the former
pub put_held : (row : Numbered (List ℕ)) (rows : List (Numbered (List ℕ))) → holds row.number rows ≡ true
    → records_of (replaced row rows) ≡ put record_number (record_of row) (records_of rows)
unfolding put
put_held row rows held =
    let some : is_held row.number (records_of rows) ≡ true = sym (held_of row.number rows) ∙ held in
    rw some (in_place_of row rows)

pub without_of : (n : ℕ) (rows : List (Numbered (List ℕ))) → records_of (without n rows) ≡ outside.without record_number n (records_of rows)
unfolding outside.without
without_of n [] = refl
without_of n (x ∷ rows) = grind (arith, common_steps, without_of n rows)

pub least_of : (from : ℕ) (rows : List (Numbered (List ℕ))) (found : Option ℕ) → IfSome found (IsLeastFrom from rows) → IfSome found (IsLeastHeld from (records_of rows))
least_of from rows None is = tt
least_of from rows (Some n) is = record {
  held = sym (held_of n rows) ∙ is.held;
  not_below = is.not_below;
  least = λ other le held. is.least other le (held_of other rows ∙ held);
}

pub none_of : (from : ℕ) (rows : List (Numbered (List ℕ))) (found : Option ℕ) → IfNone found (NoneFrom from rows) → IfNone found (NoneHeld from (records_of rows))
none_of from rows None is = λ n le. sym (held_of n rows) ∙ is n le
none_of from rows (Some n) is = tt

-- what holds of each number, of rows and of records
pub all_of_records : (Q : ℕ → Type 0) (rows : List (Numbered (List ℕ))) → AllByRecursion (λ row. Q row.number) rows → AllByRecursion (λ (row : RecordRow). Q row.number) (records_of rows)
all_of_records Q [] h = tt
all_of_records Q (row ∷ rows) h = (h.0, all_of_records Q rows h.1)

pub all_of_rows : (Q : ℕ → Type 0) (rows : List (Numbered (List ℕ))) → AllByRecursion (λ (row : RecordRow). Q row.number) (records_of rows) → AllByRecursion (λ row. Q row.number) rows
all_of_rows Q [] h = tt
all_of_rows Q (row ∷ rows) h = (h.0, all_of_rows Q rows h.1)

pub rising_of : (rows : List (Numbered (List ℕ))) → IsRising rows → AreRising (records_of rows)
rising_of [] h = tt
rising_of (row ∷ rows) h = (all_of_records (λ n. row.number < n) rows h.0, rising_of rows h.1)

-- ---- numbers after a change

module _ {T : Type 0} where
  pub all_put : (Q : ℕ → Type 0) (row : Numbered T) (rows : List (Numbered T)) → Q row.number → AllByRecursion (λ x. Q x.number) rows → AllByRecursion (λ x. Q x.number) (put_in_order row rows)
  all_put Q row [] q h = (q, tt)
  all_put Q row (x ∷ rows) q h =
      cond_both (nat_lt row.number x.number) (row ∷ x ∷ rows) (x ∷ put_in_order row rows) (AllByRecursion (λ y. Q y.number))
      (λ e. (q, h)) (λ e. (h.0, all_put Q row rows q h.1))

  pub all_replaced : (Q : ℕ → Type 0) (row : Numbered T) (rows : List (Numbered T)) → AllByRecursion (λ x. Q x.number) rows → AllByRecursion (λ x. Q x.number) (replaced row rows)
  all_replaced Q row [] h = tt
  all_replaced Q row (x ∷ rows) h =
      cond_both (nat_eq x.number row.number) (row ∷ rows) (x ∷ replaced row rows) (AllByRecursion (λ y. Q y.number))
      (λ e. (subst Q (eqb-true _ _ e) h.0, h.1)) (λ e. (h.0, all_replaced Q row rows h.1))

  pub all_without : (Q : ℕ → Type 0) (n : ℕ) (rows : List (Numbered T)) → AllByRecursion (λ x. Q x.number) rows → AllByRecursion (λ x. Q x.number) (without n rows)
  all_without Q n [] h = tt
  all_without Q n (x ∷ rows) h =
      cond_both (not (nat_eq x.number n)) (x ∷ without n rows) (without n rows) (AllByRecursion (λ y. Q y.number))
      (λ e. (h.0, all_without Q n rows h.1)) (λ e. all_without Q n rows h.1)

  -- what holds of each number holds of one that is held
  pub all_held : (Q : ℕ → Type 0) (n : ℕ) (rows : List (Numbered T)) → AllByRecursion (λ x. Q x.number) rows → holds n rows ≡ true → Q n
  all_held Q n [] h held = cc
  all_held Q n (x ∷ rows) h held =
      cond_both (nat_eq x.number n) true (holds n rows) (λ b. b ≡ true → Q n)
      (λ e. λ _. subst Q (eqb-true _ _ e) h.0) (λ e. λ later. all_held Q n rows h.1 later)
      (grind (arith, common_steps, held))

  -- what holds of each number after a row was put holds of its own
  pub of_put : (Q : ℕ → Type 0) (row : Numbered T) (rows : List (Numbered T)) → AllByRecursion (λ x. Q x.number) (put_in_order row rows) → Q row.number
  of_put Q row [] h = h.0
  of_put Q row (x ∷ rows) h =
      cond_both (nat_lt row.number x.number) (row ∷ x ∷ rows) (x ∷ put_in_order row rows) (λ xs. AllByRecursion (λ y. Q y.number) xs → Q row.number)
      (λ e. λ k. k.0) (λ e. λ k. of_put Q row rows k.1) h

  -- under a number that is held stands an item
  pub held_has : (n : ℕ) (rows : List (Numbered T)) → holds n rows ≡ true → item_at n rows ≡ None → ⊥
  held_has n [] held none = cc
  held_has n (x ∷ rows) held none = grind (arith, common_steps, held_has n rows)

  pub fewer_without : (n : ℕ) (rows : List (Numbered T)) → length (without n rows) ≤ length rows
  fewer_without n [] = omega arith
  fewer_without n (x ∷ rows) = grind (arith, common_steps, fewer_without n rows)

-- where an item was taken out, there is room for one more
pub freed_there : {A : Type 0} (r : Option A) (old new : ℕ) → (r ≡ None → ⊥) → IfSome r (λ _. old + 1 ≤ new) → old + 1 ≤ new
freed_there None old new some freed = absurd (some refl)
freed_there (Some item) old new some freed = freed

-- ---- bytes

pub bytes_put : (row : Numbered (List ℕ)) (rows : List (Numbered (List ℕ))) → text_bytes (records_of (put_in_order row rows)) ≡ text_bytes (records_of rows) + length row.item
bytes_put row [] = omega arith
bytes_put row (x ∷ rows) = grind (arith, common_steps, bytes_put row rows)

pub bytes_replaced : (row : Numbered (List ℕ)) (former : List ℕ) (rows : List (Numbered (List ℕ))) → item_at row.number rows ≡ Some former
    → text_bytes (records_of (replaced row rows)) + length former ≡ text_bytes (records_of rows) + length row.item
bytes_replaced row former [] is = cc
bytes_replaced row former (x ∷ rows) is = grind (arith, common_steps, bytes_replaced row former rows)

none_without : (n : ℕ) (rows : List (Numbered (List ℕ))) → AllByRecursion (λ later. n < later.number) rows → without n rows ≡ rows
none_without n [] h = refl
none_without n (x ∷ rows) h =
    let more : n < x.number = h.0 in
    grind (arith, common_steps, none_without n rows h.1)

some_same : (a b : List ℕ) → Some a ≡ Some b → a ≡ b
some_same a b h = cc

pub bytes_without : (n : ℕ) (former : List ℕ) (rows : List (Numbered (List ℕ))) → IsRising rows → item_at n rows ≡ Some former
    → text_bytes (records_of (without n rows)) + length former ≡ text_bytes (records_of rows)
bytes_without n former [] rising is = cc
bytes_without n former (x ∷ rows) rising is =
    cond_both (nat_eq x.number n) (Some x.item) (item_at n rows)
    (λ found. found ≡ Some former → text_bytes (records_of (without n (x ∷ rows))) + length former ≡ text_bytes (records_of (x ∷ rows)))
    (λ e. λ here.
    let same : x.number ≡ n = eqb-true _ _ e in
    let rest : without n rows ≡ rows = none_without n rows (subst (λ m. AllByRecursion (λ later. m < later.number) rows) same rising.0) in
    let text : x.item ≡ former = some_same x.item former here in
    grind (arith, common_steps, rest, text))
    (λ e. λ later. grind (arith, common_steps, bytes_without n former rows rising.1 later))
    is

-- ---- molecules beside records

pub holds_beside : (n : ℕ) (texts : List (Numbered (List ℕ))) (rows : List (Numbered Molecule)) → AreHeld (records_of texts) rows → holds n rows ≡ holds n texts
holds_beside n [] [] h = refl
holds_beside n [] (row ∷ rows) h = absurd h
holds_beside n (text ∷ texts) [] h = absurd h
holds_beside n (text ∷ texts) (row ∷ rows) h =
    let same : text.number ≡ row.number = h.0 in
    grind (arith, common_steps, holds_beside n texts rows h.2)

pub held_put : (number : ℕ) (text : List ℕ) (mol : Molecule) (texts : List (Numbered (List ℕ))) (rows : List (Numbered Molecule)) → IsMoleculeOf text mol
    → AreHeld (records_of texts) rows
    → AreHeld (records_of (put_in_order (record { number = number; item = text }) texts)) (put_in_order (record { number = number; item = mol }) rows)
held_put number text mol [] [] is h = (refl, is, tt)
held_put number text mol [] (row ∷ rows) is h = absurd h
held_put number text mol (x ∷ texts) [] is h = absurd h
held_put number text mol (x ∷ texts) (row ∷ rows) is h =
    cond_both (nat_lt number x.number) (record { number = number; item = text } ∷ x ∷ texts) (x ∷ put_in_order (record { number = number; item = text }) texts)
    (λ xs. AreHeld (records_of xs) (put_in_order (record { number = number; item = mol }) (row ∷ rows)))
    (λ e. cond_both (nat_lt number row.number) (record { number = number; item = mol } ∷ row ∷ rows) (row ∷ put_in_order (record { number = number; item = mol }) rows)
    (λ ys. AreHeld (records_of (record { number = number; item = text } ∷ x ∷ texts)) ys)
    (λ f. (refl, is, h)) (λ f. let same : x.number ≡ row.number = h.0 in absurd (omega (arith, same, ltb-true _ _ e, ltb-false _ _ f))))
    (λ e. cond_both (nat_lt number row.number) (record { number = number; item = mol } ∷ row ∷ rows) (row ∷ put_in_order (record { number = number; item = mol }) rows)
    (λ ys. AreHeld (records_of (x ∷ put_in_order (record { number = number; item = text }) texts)) ys)
    (λ f. let same : x.number ≡ row.number = h.0 in absurd (omega (arith, same, ltb-false _ _ e, ltb-true _ _ f)))
    (λ f. (h.0, h.1, held_put number text mol texts rows is h.2)))

pub held_replaced : (number : ℕ) (text : List ℕ) (mol : Molecule) (texts : List (Numbered (List ℕ))) (rows : List (Numbered Molecule)) → IsMoleculeOf text mol
    → AreHeld (records_of texts) rows
    → AreHeld (records_of (replaced (record { number = number; item = text }) texts)) (replaced (record { number = number; item = mol }) rows)
held_replaced number text mol [] [] is h = tt
held_replaced number text mol [] (row ∷ rows) is h = absurd h
held_replaced number text mol (x ∷ texts) [] is h = absurd h
held_replaced number text mol (x ∷ texts) (row ∷ rows) is h =
    cond_both (nat_eq x.number number) (record { number = number; item = text } ∷ texts) (x ∷ replaced (record { number = number; item = text }) texts)
    (λ xs. AreHeld (records_of xs) (replaced (record { number = number; item = mol }) (row ∷ rows)))
    (λ e. cond_both (nat_eq row.number number) (record { number = number; item = mol } ∷ rows) (row ∷ replaced (record { number = number; item = mol }) rows)
    (λ ys. AreHeld (records_of (record { number = number; item = text } ∷ texts)) ys)
    (λ f. (refl, is, h.2)) (λ f. absurd (eqb-false _ _ f (sym h.0 ∙ eqb-true _ _ e))))
    (λ e. cond_both (nat_eq row.number number) (record { number = number; item = mol } ∷ rows) (row ∷ replaced (record { number = number; item = mol }) rows)
    (λ ys. AreHeld (records_of (x ∷ replaced (record { number = number; item = text }) texts)) ys)
    (λ f. absurd (eqb-false _ _ e (h.0 ∙ eqb-true _ _ f))) (λ f. (h.0, h.1, held_replaced number text mol texts rows is h.2)))

differ : (a b : Bool) → a ≡ b → not a ≡ true → not b ≡ false → ⊥
differ true true same p q = cc
differ true false same p q = cc
differ false true same p q = cc
differ false false same p q = cc

pub held_without : (n : ℕ) (texts : List (Numbered (List ℕ))) (rows : List (Numbered Molecule)) → AreHeld (records_of texts) rows → AreHeld (records_of (without n texts)) (without n rows)
held_without n [] [] h = tt
held_without n [] (row ∷ rows) h = absurd h
held_without n (x ∷ texts) [] h = absurd h
held_without n (x ∷ texts) (row ∷ rows) h =
    cond_both (not (nat_eq x.number n)) (x ∷ without n texts) (without n texts) (λ xs. AreHeld (records_of xs) (without n (row ∷ rows)))
    (λ e. cond_both (not (nat_eq row.number n)) (row ∷ without n rows) (without n rows) (λ ys. AreHeld (records_of (x ∷ without n texts)) ys)
    (λ f. (h.0, h.1, held_without n texts rows h.2)) (λ f. absurd (differ (nat_eq x.number n) (nat_eq row.number n) (ap (λ m. nat_eq m n) h.0) e f)))
    (λ e. cond_both (not (nat_eq row.number n)) (row ∷ without n rows) (without n rows) (λ ys. AreHeld (records_of (without n texts)) ys)
    (λ f. absurd (differ (nat_eq row.number n) (nat_eq x.number n) (ap (λ m. nat_eq m n) (sym h.0)) f e)) (λ f. held_without n texts rows h.2))

-- what a library keeps of its parts it keeps of its view
pub is_library : (texts : List (Numbered (List ℕ))) (rows : List (Numbered Molecule)) (bytes next spare : ℕ) → IsKept texts rows bytes next
    → IsLibrary (record { records = records_of texts; rows = rows; next_record = next; spare = spare })
is_library texts rows bytes next spare kept = record {
  rising = rising_of texts kept.rising;
  below_next = kept.below_next;
  limits = kept.limits;
  held = kept.held;
}
