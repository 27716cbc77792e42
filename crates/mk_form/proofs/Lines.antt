-- The smallest parts are read exactly.
use Rattle.std.proofs.Common.{◌≡◌, Bool, true, false, Option, Some, None, List, [], ◌∷◌, ◌++◌, refl, sym, ap, ◌∙◌, inl, inr}
use Rattle.mk_form.specs.Reading.{Took, Stop}
use Rattle.mk_form.specs.Exact.{Exact, TakesText, LiveBefore, Anything}
use Rattle.mk_form.specs.Lines.{give, OneLine, UpToOneLine, line_of, read_line, line, counts_line, passing, line_where}
use Rattle.mk_form.proofs.Cuts.{no_line, no_front, one_line}

-- ---- no line

-- no line is read exactly
pub exact-give : {L V : Type 0} {says : L → Bool} (v : V) → Exact says Anything (give v)
exact-give v = record {
  took = λ lines rest w e. record { front = []; whole = cc; is = (refl, cc); follows = tt };
  again = λ front rest w h _. rw (h.0, h.1) refl;
  fits = λ lines rest n e. absurd cc;
  none = λ front rest l n e h. absurd cc;
  due = λ front rest l d h. absurd d;
  named = λ lines rest e. absurd cc;
  live = λ lines w h. h.0;
  shorter = no_front;
  ends = λ front more l w h _ k. no_line front l more k;
}

-- ---- one line

module _ {L V : Type 0} (names : L → Bool) (f : L → Option V) where
  -- the same, by what the line spells
  line_took_at : (o : Option V) (l : L) (lines rest : List L) (n : Bool) (v : V) → f l ≡ o → line_of o n l lines ≡ Took v rest → TakesText Anything (OneLine f) (l ∷ lines) rest v
  line_took_at (Some w) l lines rest n v h e = record { front = l ∷ []; whole = cc; is = record { line = l; whole = refl; spells = cc }; follows = tt }
  line_took_at None l lines rest n v h e = absurd cc

  -- what is read is a text
  line_took : (lines rest : List L) (v : V) → read_line names f lines ≡ Took v rest → TakesText Anything (OneLine f) lines rest v
  line_took [] rest v e = absurd cc
  line_took (l ∷ lines) rest v e = line_took_at (f l) l lines rest (names l) v refl e

  -- each text is read
  line_again : (front rest : List L) (v : V) → OneLine f front v → read_line names f (front ++ rest) ≡ Took v rest
  line_again front rest v h = rw h.whole (rw h.spells refl)

  -- at a stop the line spells nothing, and is all that is left
  line_stop_at : (o : Option V) (l : L) (lines rest : List L) (n m : Bool) → line_of o n l lines ≡ Stop m rest → (l ∷ lines ≡ rest) × (o ≡ None) × (n ≡ m)
  line_stop_at (Some w) l lines rest n m e = absurd cc
  line_stop_at None l lines rest n m e = (cc, refl, cc)

  -- the lines before a stop are live
  line_fits : (lines rest : List L) (n : Bool) → read_line names f lines ≡ Stop n rest → LiveBefore (UpToOneLine f) lines rest
  line_fits [] rest n e = record { front = []; whole = cc; live = inl refl }
  line_fits (l ∷ lines) rest n e = record { front = []; whole = (line_stop_at (f l) l lines rest (names l) n e).0; live = inl refl }

  -- and with the line at the stop they are not
  line_none : (front rest : List L) (l : L) (n : Bool) → read_line names f (front ++ l ∷ rest) ≡ Stop n (l ∷ rest) → UpToOneLine f (front ++ l ∷ []) → ⊥
  line_none front rest l n e h = elim h [
    | inl h ↦ no_line front l [] h
    | inr h ↦
        let is = h.1 in
        let o = one_line front l is.line [] is.whole in
        let first : line_of (f l) (names l) l rest ≡ Stop n (l ∷ rest) = ap (λ (x : List L). read_line names f (x ++ l ∷ rest)) (sym o.0) ∙ e in
        let bad = (line_stop_at (f l) l rest (l ∷ rest) (names l) n first).1 in
        let good : f l ≡ Some h.0 = ap f o.1 ∙ is.spells in
        absurd cc
  ]

  -- a text is live
  line_live : (lines : List L) (v : V) → OneLine f lines v → UpToOneLine f lines
  line_live lines v h = inr (v, h)

  -- the same, of the one line
  line_shorter_at : (front more : List L) (l : L) (v : V) → f l ≡ Some v → front ++ more ≡ l ∷ [] → UpToOneLine f front
  line_shorter_at [] more l v spells e = inl refl
  line_shorter_at (x ∷ front) more l v spells e =
      let o : (front ++ more ≡ []) × (x ≡ l) = (cc, cc) in
      inr (v, record { line = l; whole = rw (o.1, no_front front more o.0) refl; spells = spells })

  -- the first lines of what is live are live
  line_shorter : (front more : List L) → UpToOneLine f (front ++ more) → UpToOneLine f front
  line_shorter front more h = elim h [
    | inl h ↦ inl (no_front front more h)
    | inr h ↦ line_shorter_at front more h.1.line h.0 h.1.spells h.1.whole
  ]

  -- behind a text nothing goes on
  line_ends : (front more : List L) (l : L) (v : V) → OneLine f front v → UpToOneLine f (front ++ l ∷ more) → ⊥
  line_ends front more l v h k = elim k [
    | inl k ↦ no_line front l more k
    | inr k ↦
        let e : h.line ∷ l ∷ more ≡ k.1.line ∷ [] = ap (λ (x : List L). x ++ l ∷ more) (sym h.whole) ∙ k.1.whole in
        cc
  ]

  -- no other line is named
  line_named : (lines rest : List L) → read_line names f lines ≡ Stop true rest → (l : L) × (others : List L) × (rest ≡ l ∷ others) × (lines ≡ rest) × (names l ≡ true)
  line_named [] rest e = absurd cc
  line_named (l ∷ lines) rest e =
      let h = line_stop_at (f l) l lines rest (names l) true e in
      (l, lines, sym h.0, h.0, h.2)

-- one line, which is never named
pub exact-line : {L V : Type 0} {says : L → Bool} (f : L → Option V) → Exact says Anything (line f)
exact-line {L} {V} f = record {
  took = line_took (λ _. false) f;
  again = λ front rest v h _. line_again (λ _. false) f front rest v h;
  fits = line_fits (λ _. false) f;
  none = line_none (λ _. false) f;
  due = λ front rest l d h. absurd d;
  named = λ lines rest e. absurd (let h = line_named (λ _. false) f lines rest e in cc);
  live = line_live (λ _. false) f;
  shorter = line_shorter (λ _. false) f;
  ends = λ front more l v h _ k. line_ends (λ _. false) f front more l v h k;
}

-- a line that spells no value where it says its name
pub exact-counts_line : {L V : Type 0} (says : L → Bool) (f : L → Option V) → ((l : L) → says l ≡ true → f l ≡ None) → Exact says Anything (counts_line says f)
exact-counts_line {L} {V} says f apart = record {
  took = line_took says f;
  again = λ front rest v h _. line_again says f front rest v h;
  fits = line_fits says f;
  none = line_none says f;
  due = λ front rest l d h. rw d (rw (apart l h, h) refl);
  named = λ lines rest e.
      let h = line_named says f lines rest e in
      record { front = []; line = h.0; behind = h.1; whole = h.3; rest_is = h.2; due = refl; says_so = h.4 };
  live = line_live says f;
  shorter = line_shorter says f;
  ends = λ front more l v h _ k. line_ends says f front more l v h k;
}

-- ---- one line that passes a test

-- the same, by what the test says
passes_at : {L : Type 0} (b : L → Bool) (l : L) (v : Unit {0}) (t : Bool) → b l ≡ t → passing b l ≡ Some v → b l ≡ true
passes_at b l v true e h = e
passes_at b l v false e h = absurd (let k : passing b l ≡ None = rw e refl in cc)

-- a line of this kind passes the test
pub passes : {L : Type 0} (b : L → Bool) (l : L) (v : Unit {0}) → passing b l ≡ Some v → b l ≡ true
passes b l v h = passes_at b l v (b l) refl h

-- and a line that passes it is of this kind
pub does_pass : {L : Type 0} (b : L → Bool) (l : L) → b l ≡ true → passing b l ≡ Some tt
does_pass b l h = rw h refl

-- one line that passes a test is read exactly
pub exact-line_where : {L : Type 0} {says : L → Bool} (b : L → Bool) → Exact says Anything (line_where b)
exact-line_where b = exact-line (passing b)
