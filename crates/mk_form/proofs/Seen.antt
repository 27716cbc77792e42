-- A part with another value is read exactly.
use Rattle.std.proofs.Common.{◌≡◌, Bool, true, List, ◌∷◌, ◌++◌, length, take, ◌-◌, refl, sym, ap, subst, ◌∙◌, inl, inr, arith}
use Rattle.std.proofs.lemmas.List.{length-append, take_at}
use Rattle.mk_form.specs.Reading.{Reading, Took, Stop, and_then}
use Rattle.mk_form.specs.Exact.{Part, Exact}
use Rattle.mk_form.specs.Seen.{seen_as, WithItsLines, with_taken, with_lines}
use Rattle.mk_form.proofs.Readings.{took_both, stopped}

-- ---- a value seen as another

module _ {L X V : Type 0} {says : L → Bool} {Follows : List L → Type 0} {p : Part L X} (f : X → V) (e : Exact says Follows p) where
  -- the value that is seen
  abbrev then_seen : X → List L → Reading L V
  then_seen x = Took (f x)

  -- a stop is that of the part
  seen_stopped : (lines rest : List L) (n : Bool) → and_then (p.read lines) then_seen ≡ Stop n rest → p.read lines ≡ Stop n rest
  seen_stopped lines rest n h = elim (stopped (p.read lines) then_seen n rest h) [
    | inl h ↦ h
    | inr h ↦ absurd (let k = h.second in cc)
  ]

  -- a value seen as another is read exactly
  pub exact-seen_as : Exact says Follows (seen_as f p)
  exact-seen_as = record {
    took = λ lines rest v h.
        let b = took_both (p.read lines) then_seen v rest h in
        let last = b.second in
        let one = e.took lines b.left b.middle b.first in
        let same : b.left ≡ rest = cc in
        record { front = one.front; whole = one.whole ∙ ap (λ (x : List L). one.front ++ x) same; is = record { first = b.middle; is = one.is; seen = cc }; follows = subst Follows same one.follows };
    again = λ front rest v h k. ap (λ (x : Reading L X). and_then x then_seen) (e.again front rest h.first h.is k) ∙ ap (λ (w : V). Took w rest) (sym h.seen);
    fits = λ lines rest n h. e.fits lines rest n (seen_stopped lines rest n h);
    none = λ front rest l n h k. e.none front rest l n (seen_stopped (front ++ l ∷ rest) (l ∷ rest) n h) k;
    due = λ front rest l d h. ap (λ (x : Reading L X). and_then x then_seen) (e.due front rest l d h);
    named = λ lines rest h. e.named lines rest (seen_stopped lines rest true h);
    live = λ lines v h. e.live lines h.first h.is;
    shorter = e.shorter;
    ends = λ front more l v h k m. e.ends front more l h.first h.is k m;
  }

-- ---- a value with its lines

-- what stands before the rest
taken : {L : Type 0} (lines front rest : List L) → lines ≡ front ++ rest → take (length lines - length rest) lines ≡ front
taken lines front rest e = ap (take (length lines - length rest)) e ∙ take_at front rest (length lines - length rest) (omega (arith, ap length e, length-append front rest))

module _ {L V : Type 0} {says : L → Bool} {Follows : List L → Type 0} {p : Part L V} (e : Exact says Follows p) where
  -- a stop is that of the part
  lines_stopped : (lines rest : List L) (n : Bool) → and_then (p.read lines) (with_taken lines) ≡ Stop n rest → p.read lines ≡ Stop n rest
  lines_stopped lines rest n h = elim (stopped (p.read lines) (with_taken lines) n rest h) [
    | inl h ↦ h
    | inr h ↦ absurd (let k = h.second in cc)
  ]

  -- a value with its lines is read exactly
  pub exact-with_lines : Exact says Follows (with_lines p)
  exact-with_lines = record {
    took = λ lines rest v h.
        let b = took_both (p.read lines) (with_taken lines) v rest h in
        let last = b.second in
        let one = e.took lines b.left b.middle b.first in
        let same : b.left ≡ rest = cc in
        let value : v ≡ (b.middle, take (length lines - length b.left) lines) = cc in
        record {
          front = one.front;
          whole = one.whole ∙ ap (λ (x : List L). one.front ++ x) same;
          is = subst (WithItsLines p.is one.front) (sym value) (record { is = one.is; lines_are = taken lines one.front b.left one.whole });
          follows = subst Follows same one.follows;
        };
    again = λ front rest v h k.
        ap (λ (x : Reading L V). and_then x (with_taken (front ++ rest))) (e.again front rest v.0 h.is k)
        ∙ ap (λ (x : List L). let w : Reading L (V × List L) = Took (v.0, x) rest in w) (taken (front ++ rest) front rest refl ∙ sym h.lines_are);
    fits = λ lines rest n h. e.fits lines rest n (lines_stopped lines rest n h);
    none = λ front rest l n h k. e.none front rest l n (lines_stopped (front ++ l ∷ rest) (l ∷ rest) n h) k;
    due = λ front rest l d h. ap (λ (x : Reading L V). and_then x (with_taken (front ++ l ∷ rest))) (e.due front rest l d h);
    named = λ lines rest h. e.named lines rest (lines_stopped lines rest true h);
    live = λ lines v h. e.live lines v.0 h.is;
    shorter = e.shorter;
    ends = λ front more l v h k m. e.ends front more l v.0 h.is k m;
  }
