-- Lines to the end are read exactly.
use Rattle.std.proofs.Common.{◌≡◌, Bool, true, false, cond, List, [], ◌∷◌, ◌++◌, refl, sym, ap, ◌∙◌, inl, inr}
use Rattle.std.specs.Prelude.{◌⊎◌}
use Rattle.std.proofs.lemmas.List.{append-nil}
use Rattle.mk_form.specs.Reading.{Took, Stop}
use Rattle.mk_form.specs.Exact.{Exact, NoLines}
use Rattle.mk_form.specs.ToEnd.{EachIs, read_all, lines_to_end}

-- which way a test went
pub split_if : {A : Type 0} (t : Bool) (x y z : A) → cond t x y ≡ z → ((t ≡ true) × (x ≡ z)) ⊎ ((t ≡ false) × (y ≡ z))
split_if true x y z e = inl (refl, e)
split_if false x y z e = inr (refl, e)

-- what behind it is nothing is the whole
pub whole_is : {L : Type 0} (lines front rest : List L) → lines ≡ front ++ rest → rest ≡ [] → front ≡ lines
whole_is lines front rest whole none = sym (append-nil front) ∙ ap (λ (x : List _). front ++ x) (sym none) ∙ sym whole

-- ---- lines that say one thing in a test

-- of more lines that say it, the first ones do
pub each-shorter : {L : Type 0} (b : L → Bool) (t : Bool) (front more : List L) → EachIs b t (front ++ more) → EachIs b t front
each-shorter b t [] more h = tt
each-shorter b t (x ∷ front) more h = (h.0, each-shorter b t front more h.1)

-- and each line between does
pub each-at : {L : Type 0} (b : L → Bool) (t : Bool) (front more : List L) (l : L) → EachIs b t (front ++ l ∷ more) → b l ≡ t
each-at b t [] more l h = h.0
each-at b t (x ∷ front) more l h = each-at b t front more l h.1

-- one more line that says it
pub each-push : {L : Type 0} (b : L → Bool) (t : Bool) (lines : List L) (l : L) → EachIs b t lines → b l ≡ t → EachIs b t (lines ++ l ∷ [])
each-push b t [] l h e = (e, tt)
each-push b t (x ∷ lines) l h e = (h.0, each-push b t lines l h.1 e)

-- lines that may be anything pass a test that always passes
pub each-any : {L : Type 0} (lines : List L) → EachIs (λ _. true) true lines
each-any [] = tt
each-any (l ∷ lines) = (refl, each-any lines)

-- ---- lines that all pass, to the end

-- where the reading stops, there is a line that fails, and those before it pass
pub record StopsAll {L : Type 0} (b : L → Bool) (lines rest : List L) (n : Bool) : Type 0 where
  pub front : List L
  pub line : L
  pub behind : List L
  pub whole : lines ≡ front ++ rest
  pub rest_is : rest ≡ line ∷ behind
  pub pass : EachIs b true front
  pub fails : b line ≡ false
  pub plain : n ≡ false

module _ {L : Type 0} (b : L → Bool) where
  -- what is read is a text
  all_took : (lines rest : List L) (v : Unit {0}) → read_all b lines ≡ Took v rest → (rest ≡ []) × EachIs b true lines
  all_took [] rest v e = (cc, tt)
  all_took (l ∷ lines) rest v e = elim (split_if (b l) (read_all b lines) (Stop false (l ∷ lines)) (Took v rest) e) [
    | inl h ↦ let k = all_took lines rest v h.1 in (k.0, (h.0, k.1))
    | inr h ↦ absurd (let k = h.1 in cc)
  ]

  -- each text is read
  pub all_again : (lines : List L) (v : Unit {0}) → EachIs b true lines → read_all b lines ≡ Took v []
  all_again [] v h = refl
  all_again (l ∷ lines) v h = rw h.0 (all_again lines v h.1)

  -- the lines before a stop are live
  all_fits : (lines rest : List L) (n : Bool) → read_all b lines ≡ Stop n rest → StopsAll b lines rest n
  all_fits [] rest n e = absurd cc
  all_fits (l ∷ lines) rest n e = elim (split_if (b l) (read_all b lines) (Stop false (l ∷ lines)) (Stop n rest) e) [
    | inl h ↦
        let k = all_fits lines rest n h.1 in
        record { front = l ∷ k.front; line = k.line; behind = k.behind; whole = ap (λ (x : List L). l ∷ x) k.whole; rest_is = k.rest_is; pass = (h.0, k.pass); fails = k.fails; plain = k.plain }
    | inr h ↦ let k = h.1 in record { front = []; line = l; behind = lines; whole = cc; rest_is = cc; pass = tt; fails = h.0; plain = cc }
  ]

-- lines to the end are read exactly
pub exact-lines_to_end : {L : Type 0} {says : L → Bool} (b : L → Bool) → Exact says NoLines (lines_to_end b)
exact-lines_to_end {L} b = record {
  took = λ lines rest v e.
      let h = all_took b lines rest v e in
      record { front = lines; whole = sym (ap (λ (x : List L). lines ++ x) h.0 ∙ append-nil lines); is = h.1; follows = h.0 };
  again = λ front rest v h end. ap (read_all b) (ap (λ (x : List L). front ++ x) end ∙ append-nil front) ∙ all_again b front v h ∙ ap (Took v) (sym end);
  fits = λ lines rest n e. let h = all_fits b lines rest n e in record { front = h.front; whole = h.whole; live = h.pass };
  none = λ front rest l n e h.
      let k = all_fits b (front ++ l ∷ rest) (l ∷ rest) n e in
      let same : l ≡ k.line = (let i = k.rest_is in cc) in
      let misses : b l ≡ false = ap b same ∙ k.fails in
      let holds = each-at b true front [] l h in
      cc;
  due = λ front rest l d h. absurd d;
  named = λ lines rest e. absurd (let k = (all_fits b lines rest true e).plain in cc);
  live = λ lines v h. h;
  shorter = each-shorter b true;
  ends = λ front more l v h end k. cc;
}
