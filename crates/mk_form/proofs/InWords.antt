-- A part that is told in two ways is read exactly where one of them is.
use Rattle.std.proofs.Common.{Bool, List, [], ◌∷◌, ◌++◌, sym, ◌∙◌}
use Rattle.mk_form.specs.Exact.{Part, Exact}
use Rattle.mk_form.specs.InWords.{InWords}

-- each fact of exactness in the other words
pub exact-in_words : {L V : Type 0} {says : L → Bool} {Follows : List L → Type 0} {p q : Part L V} → InWords p q → Exact says Follows p → Exact says Follows q
exact-in_words w e = record {
  took = λ lines rest v h. let k = e.took lines rest v (w.reads lines ∙ h) in record { front = k.front; whole = k.whole; is = w.is_to k.front v k.is; follows = k.follows };
  again = λ front rest v h f. sym (w.reads (front ++ rest)) ∙ e.again front rest v (w.is_from front v h) f;
  fits = λ lines rest n h. let k = e.fits lines rest n (w.reads lines ∙ h) in record { front = k.front; whole = k.whole; live = w.live_to k.front k.live };
  none = λ front rest l n h k. e.none front rest l n (w.reads (front ++ l ∷ rest) ∙ h) (w.live_from (front ++ l ∷ []) k);
  due = λ front rest l d h. sym (w.reads (front ++ l ∷ rest)) ∙ e.due front rest l (w.due_from front d) h;
  named = λ lines rest h.
      let k = e.named lines rest (w.reads lines ∙ h) in
      record { front = k.front; line = k.line; behind = k.behind; whole = k.whole; rest_is = k.rest_is; due = w.due_to k.front k.due; says_so = k.says_so };
  live = λ lines v h. w.live_to lines (e.live lines v (w.is_from lines v h));
  shorter = λ front more h. w.live_to front (e.shorter front more (w.live_from (front ++ more) h));
  ends = λ front more l v h f k. e.ends front more l v (w.is_from front v h) f (w.live_from (front ++ l ∷ more) k);
}
