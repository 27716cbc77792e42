-- The same part a number of times is read exactly.
use Rattle.std.proofs.Common.{◌≡◌, ℕ, zero, suc, ◌≤◌, ◌<◌, Bool, true, false, cond, leb, List, [], ◌∷◌, ◌++◌, length, take, drop, inl, inr, refl, sym, ap, subst, ◌∙◌, arith}
use Rattle.std.proofs.lemmas.List.{append-nil, length-append, length-take, drop_at, take-append-drop}
use Rattle.std.proofs.lemmas.Bool.{leb-true, leb-false, le-leb, lt-leb}
use Rattle.std.specs.Prelude.{◌⊎◌}
use Rattle.mk_form.specs.Reading.{Reading, Took, Stop}
use Rattle.mk_form.specs.Exact.{Part, Exact, Anything}
use Rattle.mk_form.specs.InWords.{InWords}
use Rattle.mk_form.specs.Lines.{Nothing, give}
use Rattle.mk_form.specs.Sequence.{Then, sequence}
use Rattle.mk_form.specs.Seen.{Seen, seen_as}
use Rattle.mk_form.specs.Rows.{Times, rows, read_any, any_lines}
use Rattle.mk_form.proofs.InWords.{exact-in_words}
use Rattle.mk_form.proofs.Lines.{exact-give}
use Rattle.mk_form.proofs.Sequence.{exact-sequence}
use Rattle.mk_form.proofs.Seen.{exact-seen_as}

module _ {L X : Type 0} (P : List L → X → Type 0) where
  -- no line is no text of the part
  none_to : (lines : List L) (xs : List X) → Nothing [] lines xs → Times P 0 lines xs
  none_to lines xs h = subst (Times P 0 lines) (sym h.1) (record { series = h.0; count = refl })

  -- no text of the part is no line
  none_from : (lines : List L) (xs : List X) → Times P 0 lines xs → Nothing [] lines xs
  none_from lines [] h = (h.series, refl)
  none_from lines (x ∷ xs) h = absurd (let k : suc (length xs) ≡ 0 = h.count in cc)

  -- one text and n others are n + 1
  one_more_to : (n : ℕ) (lines : List L) (xs : List X) → Then P (λ x. Seen (λ ys. x ∷ ys) (Times P n)) lines xs → Times P (suc n) lines xs
  one_more_to n lines xs h =
      let k = h.second in
      subst (Times P (suc n) lines) (sym k.seen) (record { series = (h.front, h.back, h.whole, h.first, k.is.series); count = ap suc k.is.count })

  -- n + 1 texts are one and n others
  one_more_from : (n : ℕ) (lines : List L) (xs : List X) → Times P (suc n) lines xs → Then P (λ x. Seen (λ ys. x ∷ ys) (Times P n)) lines xs
  one_more_from n lines [] h = absurd (let k : 0 ≡ suc n = h.count in cc)
  one_more_from n lines (x ∷ xs) h =
      let e : suc (length xs) ≡ suc n = h.count in
      let s = h.series in
      record { front = s.0; back = s.1; middle = x; whole = s.2; first = s.3; second = record { first = xs; is = record { series = s.4; count = cc }; seen = refl } }

-- no part at all
pub rows_none : {L X : Type 0} (p : Part L X) → InWords (give []) (rows 0 p)
rows_none p = record { is_to = none_to p.is; is_from = none_from p.is; live_to = λ lines h. h; live_from = λ lines h. h; due_to = λ lines h. h; due_from = λ lines h. h; reads = λ lines. refl }

-- one part, and then the others
pub rows_more : {L X : Type 0} (n : ℕ) (p : Part L X) → InWords (sequence p (λ x. seen_as (λ xs. x ∷ xs) (rows n p))) (rows (suc n) p)
rows_more n p = record {
  is_to = one_more_to p.is n;
  is_from = one_more_from p.is n;
  live_to = λ lines h. h;
  live_from = λ lines h. h;
  due_to = λ lines h. h;
  due_from = λ lines h. h;
  reads = λ lines. refl;
}

-- the same part n times is read exactly
pub exact-rows : {L X : Type 0} {says : L → Bool} {p : Part L X} (n : ℕ) → Exact says Anything p → Exact says Anything (rows n p)
exact-rows {p} zero e = exact-in_words (rows_none p) (exact-give [])
exact-rows {p} (suc n) e = exact-in_words (rows_more n p) (exact-sequence e (λ x. exact-seen_as (λ xs. x ∷ xs) (exact-rows n e)))

-- ---- lines that aren't looked at

-- which way the count went
any_at : {L : Type 0} (t : Bool) (n : ℕ) (lines : List L) (reading : Reading L (Unit {0})) → leb n (length lines) ≡ t → cond t (Took tt (drop n lines)) (Stop false []) ≡ reading
    → ((n ≤ length lines) × (reading ≡ Took tt (drop n lines))) ⊎ ((length lines < n) × (reading ≡ Stop false []))
any_at true n lines reading h e = inl (leb-true n (length lines) h, sym e)
any_at false n lines reading h e = inr (leb-false n (length lines) h, sym e)

-- there are enough lines, or not
any_cases : {L : Type 0} (n : ℕ) (lines : List L) (reading : Reading L (Unit {0})) → read_any n lines ≡ reading
    → ((n ≤ length lines) × (reading ≡ Took tt (drop n lines))) ⊎ ((length lines < n) × (reading ≡ Stop false []))
any_cases n lines reading e = any_at (leb n (length lines)) n lines reading refl e

-- where there are enough lines, they are taken
pub any_enough : {L : Type 0} (n : ℕ) (lines : List L) → n ≤ length lines → read_any n lines ≡ Took tt (drop n lines)
any_enough n lines le = let e : leb n (length lines) ≡ true = le-leb n (length lines) le in rw e refl

-- and where there are not, the stop is behind the last
pub any_few : {L : Type 0} (n : ℕ) (lines : List L) → length lines < n → read_any n lines ≡ Stop false []
any_few n lines lt = let e : leb n (length lines) ≡ false = lt-leb n (length lines) lt in rw e refl

-- lines that aren't looked at are read exactly
pub exact-any_lines : {L : Type 0} {says : L → Bool} (n : ℕ) → Exact says Anything (any_lines n)
exact-any_lines {L} n = record {
  took = λ lines rest v e. elim (any_cases n lines (Took v rest) e) [
    | inl h ↦
        let k = h.1 in
        let same : rest ≡ drop n lines = cc in
        let le = h.0 in
        record { front = take n lines; whole = sym (take-append-drop n lines) ∙ ap (λ (x : List L). take n lines ++ x) (sym same); is = omega (arith, length-take n lines); follows = tt }
    | inr h ↦ absurd (let k = h.1 in cc)
  ];
  again = λ front rest v is _.
      any_enough n (front ++ rest) (omega (arith, is, length-append front rest)) ∙ ap (Took tt) (drop_at front rest n is);
  fits = λ lines rest named e. elim (any_cases n lines (Stop named rest) e) [
    | inl h ↦ absurd (let k = h.1 in cc)
    | inr h ↦
        let k = h.1 in
        let none : rest ≡ [] = cc in
        let lt = h.0 in
        record { front = lines; whole = sym (append-nil lines) ∙ ap (λ (x : List L). lines ++ x) (sym none); live = omega arith }
  ];
  none = λ front rest l named e live. elim (any_cases n (front ++ l ∷ rest) (Stop named (l ∷ rest)) e) [
    | inl h ↦ let k = h.1 in cc
    | inr h ↦ let k = h.1 in cc
  ];
  due = λ front rest l d h. absurd d;
  named = λ lines rest e. elim (any_cases n lines (Stop true rest) e) [
    | inl h ↦ absurd (let k = h.1 in cc)
    | inr h ↦ absurd (let k = h.1 in cc)
  ];
  live = λ lines v is. omega (arith, is);
  shorter = λ front more live. omega (arith, live, length-append front more);
  ends = λ front more l v is _ live. let len : length (l ∷ more) ≡ suc (length more) = refl in absurd (omega (arith, is, live, length-append front (l ∷ more)));
}
