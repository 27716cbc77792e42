-- What holds in a loop that reads parts until an end, by the index of the next line. Such a loop has the invariant
-- `UntilLeft`; the lemmas are its start, its step, and its ends.
use Rattle.std.proofs.Common.{◌≡◌, ℕ, ◌+◌, ◌-◌, ◌≤◌, ◌<◌, Bool, true, false, List, [], ◌∷◌, ◌++◌, length, get_or, drop, refl, sym, ap, ◌∙◌, append_assoc, arith}
use Rattle.std.proofs.lemmas.List.{append-nil, drop_more, drop_all}
use Rattle.mk_form.specs.Reading.{Reading, Took, Stop, and_then, TakesLines, StopsAtLine}
use Rattle.mk_form.specs.Exact.{Part, Exact, Anything}
use Rattle.mk_form.specs.Choice.{Shows}
use Rattle.mk_form.specs.Until.{with_none, with_first, until}
use Rattle.mk_form.proofs.Until.{until_none, until_end, until_item, until_stop}

-- what was read before, and then what is still read
abbrev pub with_items : {L X U : Type 0} → List X → Reading L (List X × U) → Reading L (List X × U)
with_items front reading = and_then reading (λ v. Took (front ++ v.0, v.1))

-- nothing before what is read
items_none : {L X U : Type 0} (reading : Reading L (List X × U)) → with_items [] reading ≡ reading
items_none (Took v rest) = refl
items_none (Stop n rest) = refl

-- one more before what is read
items_more : {L X U : Type 0} (front : List X) (x : X) (reading : Reading L (List X × U)) → with_items front (and_then reading (λ v. Took (with_first x v))) ≡ with_items (front ++ x ∷ []) reading
items_more {L} {X} {U} front x (Took v rest) = ap (λ (ys : List X). let r : Reading L (List X × U) = Took (ys, v.1) rest in r) (sym (append_assoc front (x ∷ []) v.0))
items_more front x (Stop n rest) = refl

-- Of the parts from the line of index `from` on those in `front` are read, and the next line is that of index `at`.
pub record UntilLeft {L X U : Type 0} (b : L → Bool) (p : Part L X) (q : Part L U) (lines : List L) (from : ℕ) (front : List X) (at : ℕ) : Type 0 where
  pub within : at ≤ length lines
  pub so_far : with_items front ((until b p q).read (drop at lines)) ≡ (until b p q).read (drop from lines)

module _ {L X U : Type 0} {says : L → Bool} {Follows : List L → Type 0} {b : L → Bool} {p : Part L X} {q : Part L U}
    (e : Exact says Anything p) (f : Exact says Follows q) (s : Shows b false p) (t : Shows b true q) (lines : List L)
    (from : ℕ) where
  -- before the first part
  pub until_left_start : from ≤ length lines → UntilLeft b p q lines from [] from
  until_left_start le = record { within = le; so_far = items_none ((until b p q).read (drop from lines)) }

  -- a part that reads
  pub until_left_item : (front : List X) (at next : ℕ) (d : L) (x : X) → at < length lines
      → b (get_or lines at d) ≡ false → UntilLeft b p q lines from front at
      → TakesLines lines next x (p.read (drop at lines)) → UntilLeft b p q lines from (front ++ x ∷ []) next
  until_left_item front at next d x lt goes h k =
      let split = drop_more lines at d lt in
      let one = until_item e f s t (get_or lines at d) (drop (at + 1) lines) (drop next lines) x goes (ap p.read (sym split) ∙ k.took) in
      record {
        within = k.within;
        so_far = sym (items_more front x ((until b p q).read (drop next lines))) ∙ sym (ap (λ (r : Reading L (List X × U)). with_items front r) (ap (until b p q).read split ∙ one)) ∙ h.so_far;
      }

  -- a part that stops
  pub until_left_stop : (front : List X) (at k : ℕ) (d : L) (named : Bool) → at < length lines
      → b (get_or lines at d) ≡ false → UntilLeft b p q lines from front at
      → StopsAtLine lines named k (p.read (drop at lines))
      → StopsAtLine lines named k ((until b p q).read (drop from lines))
  until_left_stop front at k d named lt goes h stop =
      let split = drop_more lines at d lt in
      let one = until_stop e f s t (get_or lines at d) (drop (at + 1) lines) (drop (k - 1) lines) named goes (ap p.read (sym split) ∙ stop.stop) in
      record { counted = stop.counted; stop = sym h.so_far ∙ ap (λ (r : Reading L (List X × U)). with_items front r) (ap (until b p q).read split ∙ one) }

  -- no line is left
  pub until_left_past : (front : List X) (at : ℕ) → at ≡ length lines → UntilLeft b p q lines from front at → StopsAtLine lines false (at + 1) ((until b p q).read (drop from lines))
  until_left_past front at last h =
      let none : drop at lines ≡ [] = drop_all at lines (omega arith) in
      let here : drop ((at + 1) - 1) lines ≡ [] = ap (λ (n : ℕ). drop n lines) (let i : (at + 1) - 1 ≡ at = omega arith in i) ∙ none in
      record {
        counted = (omega arith, omega arith);
        stop = sym h.so_far ∙ ap (λ (r : Reading L (List X × U)). with_items front r) (ap (until b p q).read none ∙ until_none e f s t) ∙ ap (Stop false) (sym here);
      }

  -- the end is read
  pub until_left_end : (front : List X) (at next : ℕ) (d : L) (u : U) → at < length lines → b (get_or lines at d) ≡ true
      → UntilLeft b p q lines from front at → TakesLines lines next u (q.read (drop at lines))
      → TakesLines lines next (front, u) ((until b p q).read (drop from lines))
  until_left_end front at next d u lt ends h k =
      let split = drop_more lines at d lt in
      let one = until_end e f s t (get_or lines at d) (drop (at + 1) lines) ends in
      let last : (until b p q).read (drop at lines) ≡ Took (with_none u) (drop next lines) = ap (until b p q).read split
      ∙ one ∙ ap (λ (r : Reading L U). let w : Reading L (List X × U) = and_then r (λ u. Took (with_none u)) in w)
      (ap q.read (sym split) ∙ k.took) in
      record {
        within = k.within;
        took = sym h.so_far ∙ ap (λ (r : Reading L (List X × U)). with_items front r) last
            ∙ ap (λ (xs : List X). let r : Reading L (List X × U) = Took (xs, u) (drop next lines) in r)
            (append-nil front);
      }

  -- the end stops
  pub until_left_end_stop : (front : List X) (at k : ℕ) (d : L) (named : Bool) → at < length lines
      → b (get_or lines at d) ≡ true → UntilLeft b p q lines from front at
      → StopsAtLine lines named k (q.read (drop at lines))
      → StopsAtLine lines named k ((until b p q).read (drop from lines))
  until_left_end_stop front at k d named lt ends h stop =
      let split = drop_more lines at d lt in
      let one = until_end e f s t (get_or lines at d) (drop (at + 1) lines) ends in
      let last : (until b p q).read (drop at lines) ≡ Stop named (drop (k - 1) lines) = ap (until b p q).read split
      ∙ one ∙ ap (λ (r : Reading L U). let w : Reading L (List X × U) = and_then r (λ u. Took (with_none u)) in w)
      (ap q.read (sym split) ∙ stop.stop) in
      record { counted = stop.counted; stop = sym h.so_far ∙ ap (λ (r : Reading L (List X × U)). with_items front r) last }
