-- What holds in a loop that reads rows one after the other, by the index of the next line. Such a loop has the invariant
-- `RowsLeft`; the lemmas are its start, its step, and its two ends.
use Rattle.std.proofs.Common.{◌≡◌, ℕ, suc, ◌+◌, ◌-◌, ◌≤◌, ◌<◌, Bool, List, [], ◌∷◌, ◌++◌, length, drop, refl, sym, ap, ◌∙◌, append_assoc, arith}
use Rattle.std.proofs.lemmas.List.{append-nil}
use Rattle.mk_form.specs.Reading.{Reading, Took, Stop, and_then, TakesLines, StopsAtLine}
use Rattle.mk_form.specs.Exact.{Part}
use Rattle.mk_form.specs.Rows.{rows}

-- what was read before, and then what is still read
abbrev pub with_front : {L X : Type 0} → List X → Reading L (List X) → Reading L (List X)
with_front front reading = and_then reading (λ xs. Took (front ++ xs))

-- nothing before what is read
pub front_none : {L X : Type 0} (reading : Reading L (List X)) → with_front [] reading ≡ reading
front_none (Took xs rest) = refl
front_none (Stop n rest) = refl

-- one more before what is read
pub front_more : {L X : Type 0} (front : List X) (x : X) (reading : Reading L (List X)) → with_front front (and_then reading (λ xs. Took (x ∷ xs))) ≡ with_front (front ++ x ∷ []) reading
front_more {X = X} front x (Took xs rest) = ap (λ (ys : List X). Took ys rest) (sym (append_assoc front (x ∷ []) xs))
front_more front x (Stop n rest) = refl

-- Of count rows from the line of index `from` on, those before the i-th are read, and the next line is that of index `at`.
pub record RowsLeft {L X : Type 0} (p : Part L X) (lines : List L) (from count : ℕ) (front : List X) (i at : ℕ) : Type 0 where
  pub within : at ≤ length lines
  pub so_far : with_front front ((rows (count - i) p).read (drop at lines)) ≡ (rows count p).read (drop from lines)

module _ {L X : Type 0} (p : Part L X) (lines : List L) (from count : ℕ) where
  -- before the first row
  pub rows_left_start : from ≤ length lines → RowsLeft p lines from count [] 0 from
  rows_left_start le = record {
    within = le;
    so_far = front_none ((rows (count - 0) p).read (drop from lines))
        ∙ ap (λ (n : ℕ). (rows n p).read (drop from lines)) (let e : count - 0 ≡ count = omega arith in e);
  }

  -- a row that reads
  pub rows_left_item : (front : List X) (i at next : ℕ) (x : X) → i < count → RowsLeft p lines from count front i at
      → TakesLines lines next x (p.read (drop at lines)) → RowsLeft p lines from count (front ++ x ∷ []) (i + 1) next
  rows_left_item front i at next x lt h t =
      let k : count - i ≡ suc (count - (i + 1)) = omega arith in
      record { within = t.within; so_far = sym (front_more front x ((rows (count - (i + 1)) p).read (drop next lines))) ∙ sym (rw (k, t.took) refl) ∙ h.so_far }

  -- a row that stops
  pub rows_left_stop : (front : List X) (i at k : ℕ) (named : Bool) → i < count → RowsLeft p lines from count front i at
      → StopsAtLine lines named k (p.read (drop at lines))
      → StopsAtLine lines named k ((rows count p).read (drop from lines))
  rows_left_stop front i at k named lt h s =
      let e : count - i ≡ suc (count - (i + 1)) = omega arith in
      record { counted = s.counted; stop = sym h.so_far ∙ rw (e, s.stop) refl }

  -- behind the last row
  pub rows_left_end : (front : List X) (i at : ℕ) → count ≤ i → RowsLeft p lines from count front i at → TakesLines lines at front ((rows count p).read (drop from lines))
  rows_left_end front i at le h =
      let k : count - i ≡ 0 = omega arith in
      record { within = h.within; took = sym h.so_far ∙ rw k (ap (λ (xs : List X). Took xs (drop at lines)) (append-nil front)) }
