-- What holds of one part holds of another, in parts made of them: so a form that speaks of itself grows with each step.
use Rattle.std.proofs.Common.{Bool, Option, Some, None, List, inl, inr}
use Rattle.mk_form.specs.Exact.{Part, NeverDue}
use Rattle.mk_form.specs.Limit.{IsBelow}
use Rattle.mk_form.specs.Sequence.{sequence}
use Rattle.mk_form.specs.Seen.{seen_as}
use Rattle.mk_form.specs.ToEnd.{UpTo, EndsBehind, up_to}
use Rattle.mk_form.specs.Either.{either}

-- one part and then the one or the other
pub below-sequence : {L X V : Type 0} (p : Part L X) {q r : X → Part L V} → ((x : X) → IsBelow (q x) (r x)) → IsBelow (sequence p q) (sequence p r)
below-sequence p w = record {
  is = λ lines v h. record { front = h.front; back = h.back; middle = h.middle; whole = h.whole; first = h.first; second = (w h.middle).is h.back v h.second };
  live = λ lines h. elim h [
    | inl h ↦ inl h
    | inr h ↦ inr (record { front = h.front; back = h.back; middle = h.middle; whole = h.whole; first = h.first; second = (w h.middle).live h.back h.second })
  ];
  due = λ lines h. elim h [
    | inl h ↦ inl h
    | inr h ↦ inr (record { front = h.front; back = h.back; middle = h.middle; whole = h.whole; first = h.first; second = (w h.middle).due h.back h.second })
  ];
}

-- the value of the one or the other seen as another
pub below-seen_as : {L X V : Type 0} {p q : Part L X} (f : X → V) → IsBelow p q → IsBelow (seen_as f p) (seen_as f q)
below-seen_as f w = record { is = λ lines v h. record { first = h.first; is = w.is lines h.first h.is; seen = h.seen }; live = w.live; due = w.due }

module _ {L V : Type 0} (b : L → Bool) {p q : Part L V} (w : IsBelow p q) where
  -- a text up to a separator, and then one of the other
  up_to_is : (lines ds : List L) (o : Option V) → UpTo b p.is lines (ds, o) → UpTo b q.is lines (ds, o)
  up_to_is lines ds None h = record { none = h.none; rest = h.rest }
  up_to_is lines ds (Some v) h =
      let r = h.rest in
      record { none = h.none; rest = record { separator = r.separator; back = r.back; whole = r.whole; separates = r.separates; after = w.is r.back v r.after } }

  -- what ends behind the separator
  behind : {N M : List L → Type 0} → ((lines : List L) → N lines → M lines) → (lines : List L) → EndsBehind b N lines → EndsBehind b M lines
  behind f lines h = record { before = h.before; separator = h.separator; back = h.back; whole = h.whole; none = h.none; separates = h.separates; here = f h.back h.here }

  -- lines up to a separator, and then the one or the other
  pub below-up_to : IsBelow (up_to b p) (up_to b q)
  below-up_to = record {
    is = λ lines d h. up_to_is lines d.0 d.1 h;
    live = λ lines h. elim h [ inl h ↦ inl h | inr h ↦ inr (behind {N = p.live} {M = q.live} w.live lines h) ];
    due = λ lines h. behind {N = p.due} {M = q.due} w.due lines h;
  }

-- either a part or the one or the other
pub below-either : {L V : Type 0} (p : Part L V) {q r : Part L V} → IsBelow q r → IsBelow (either p q) (either p r)
below-either p w = record {
  is = λ lines v h. elim h [ inl h ↦ inl h | inr h ↦ inr (w.is lines v h) ];
  live = λ lines h. elim h [ inl h ↦ inl h | inr h ↦ inr (w.live lines h) ];
  due = w.due;
}

-- a part that is never named is below either of it and another
pub below-first : {L V : Type 0} {p : Part L V} (q : Part L V) → NeverDue p → IsBelow p (either p q)
below-first q none = record { is = λ lines v h. inl h; live = λ lines h. inl h; due = λ lines d. absurd (none.never lines d) }
