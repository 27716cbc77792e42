-- One part and then another are read exactly.
use Rattle.std.proofs.Common.{◌≡◌, Bool, true, List, [], ◌∷◌, ◌++◌, refl, sym, ap, subst, ◌∙◌, append_assoc, inl, inr}
use Rattle.std.proofs.lemmas.List.{append_cancel_right}
use Rattle.mk_form.specs.Reading.{Reading, Took, Stop, and_then}
use Rattle.mk_form.specs.Exact.{Part, Exact, TakesText, LiveBefore, NamedAt, Anything}
use Rattle.mk_form.specs.Sequence.{sequence}
use Rattle.mk_form.proofs.Cuts.{split_at, split_two, regroup}
use Rattle.mk_form.proofs.Readings.{took_both, stopped}

module _ {L X V : Type 0} {says : L → Bool} {Follows : List L → Type 0} {p : Part L X} {q : X → Part L V} (e : Exact says Anything p) (f : (x : X) → Exact says Follows (q x)) where
  -- a text of the first and then of the second
  abbrev Is : List L → V → Type 0
  Is = (sequence p q).is

  -- what may go on
  abbrev Live : List L → Type 0
  Live = (sequence p q).live

  -- where a name is due
  abbrev Due : List L → Type 0
  Due = (sequence p q).due

  -- the reader of both
  abbrev read : List L → Reading L V
  read = (sequence p q).read

  -- the reader of the second
  abbrev on : X → List L → Reading L V
  on x = (q x).read

  -- what is read is a text
  sequence_took : (lines rest : List L) (v : V) → read lines ≡ Took v rest → TakesText Follows Is lines rest v
  sequence_took lines rest v h =
      let b = took_both (p.read lines) on v rest h in
      let one = e.took lines b.left b.middle b.first in
      let two = (f b.middle).took b.left rest v b.second in
      record {
        front = one.front ++ two.front;
        whole = one.whole ∙ ap (λ (x : List L). one.front ++ x) two.whole ∙ sym (append_assoc one.front two.front rest);
        is = record { front = one.front; back = two.front; middle = b.middle; whole = refl; first = one.is; second = two.is };
        follows = two.follows;
      }

  -- each text is read
  sequence_again : (front rest : List L) (v : V) → Is front v → Follows rest → read (front ++ rest) ≡ Took v rest
  sequence_again front rest v t h =
      ap read (regroup front t.front t.back rest t.whole)
      ∙ ap (λ (x : Reading L X). and_then x on) (e.again t.front (t.back ++ rest) t.middle t.first tt)
      ∙ (f t.middle).again t.back rest v t.second h

  -- the lines before a stop are live
  sequence_fits : (lines rest : List L) (n : Bool) → read lines ≡ Stop n rest → LiveBefore Live lines rest
  sequence_fits lines rest n h = elim (stopped (p.read lines) on n rest h) [
    | inl h ↦ let one = e.fits lines rest n h in record { front = one.front; whole = one.whole; live = inl one.live }
    | inr h ↦
        let one = e.took lines h.left h.middle h.first in
        let two = (f h.middle).fits h.left rest n h.second in
        record {
          front = one.front ++ two.front;
          whole = one.whole ∙ ap (λ (x : List L). one.front ++ x) two.whole ∙ sym (append_assoc one.front two.front rest);
          live = inr (record { front = one.front; back = two.front; middle = h.middle; whole = refl; first = one.is; second = two.live });
        }
  ]

  -- behind a text of the first part, the first part doesn't go on
  not_live : (front back : List L) (l : L) (more : List L) (x : X) → p.is front x → p.live (front ++ (back ++ l ∷ more)) → ⊥
  not_live front [] l more x h m = e.ends front more l x h tt m
  not_live front (y ∷ back) l more x h m = e.ends front (back ++ l ∷ more) y x h tt m

  -- a text of the first part that has the line l in it is live up to l
  live_with : (a between b front : List L) (l : L) (x : X) → a ≡ front ++ l ∷ between → p.is a x → p.live (front ++ l ∷ [])
  live_with a between b front l x is h =
      e.shorter (front ++ l ∷ []) between (subst p.live (is ∙ sym (append_assoc front (l ∷ []) between)) (e.live a x h))

  -- and with the line at the stop they are not
  sequence_none : (front rest : List L) (l : L) (n : Bool) → read (front ++ l ∷ rest) ≡ Stop n (l ∷ rest) → Live (front ++ l ∷ []) → ⊥
  sequence_none front rest l n h t = elim (stopped (p.read (front ++ l ∷ rest)) on n (l ∷ rest) h) [
    | inl h ↦ elim t [
      | inl m ↦ e.none front rest l n h m
      | inr m ↦ elim (split_at m.front m.back front l [] (sym m.whole)) [
        | inl s ↦
            let one = ap p.read (regroup front m.front s.between (l ∷ rest) s.front_is) ∙ e.again m.front (s.between ++ l ∷ rest) m.middle m.first tt in
            absurd cc
        | inr s ↦ e.none front rest l n h (live_with m.front s.between m.back front l m.middle s.front_is m.first)
      ]
    ]
    | inr h ↦
        let one = e.took (front ++ l ∷ rest) h.left h.middle h.first in
        let two = (f h.middle).fits h.left (l ∷ rest) n h.second in
        let whole : front ++ l ∷ rest ≡ (one.front ++ two.front) ++ l ∷ rest = one.whole ∙ ap (λ (x : List L). one.front ++ x) two.whole ∙ sym (append_assoc one.front two.front (l ∷ rest)) in
        let front_is : front ≡ one.front ++ two.front = append_cancel_right front (one.front ++ two.front) (l ∷ rest) whole in
        let more : front ++ l ∷ [] ≡ one.front ++ (two.front ++ l ∷ []) = regroup front one.front two.front (l ∷ []) front_is in
        elim t [
          | inl m ↦ not_live one.front two.front l [] h.middle one.is (subst p.live more m)
          | inr m ↦
              let a = e.again m.front m.back m.middle m.first tt in
              let b = e.again one.front (two.front ++ l ∷ []) h.middle one.is tt in
              let same = sym a ∙ ap p.read (sym m.whole ∙ more) ∙ b in
              let middle_is : m.middle ≡ h.middle = cc in
              let back_is : m.back ≡ two.front ++ l ∷ [] = cc in
              let live : (q h.middle).live (two.front ++ l ∷ []) = subst (λ (x : X). (q x).live (two.front ++ l ∷ [])) middle_is (subst (q m.middle).live back_is m.second) in
              (f h.middle).none two.front rest l n (ap (on h.middle) (sym two.whole) ∙ h.second) live
        ]
  ]

  -- a line that says its name where one is due is named
  sequence_due : (front rest : List L) (l : L) → Due front → says l ≡ true → read (front ++ l ∷ rest) ≡ Stop true (l ∷ rest)
  sequence_due front rest l d h = elim d [
    | inl d ↦ ap (λ (x : Reading L X). and_then x on) (e.due front rest l d h)
    | inr d ↦
        ap read (regroup front d.front d.back (l ∷ rest) d.whole)
        ∙ ap (λ (x : Reading L X). and_then x on) (e.again d.front (d.back ++ l ∷ rest) d.middle d.first tt)
        ∙ (f d.middle).due d.back rest l d.second h
  ]

  -- no other line is named
  sequence_named : (lines rest : List L) → read lines ≡ Stop true rest → NamedAt says Due lines rest
  sequence_named lines rest h = elim (stopped (p.read lines) on true rest h) [
    | inl h ↦ let one = e.named lines rest h in record { front = one.front; line = one.line; behind = one.behind; whole = one.whole; rest_is = one.rest_is; due = inl one.due; says_so = one.says_so }
    | inr h ↦
        let one = e.took lines h.left h.middle h.first in
        let two = (f h.middle).named h.left rest h.second in
        record {
          front = one.front ++ two.front;
          line = two.line;
          behind = two.behind;
          whole = one.whole ∙ ap (λ (x : List L). one.front ++ x) two.whole ∙ sym (append_assoc one.front two.front rest);
          rest_is = two.rest_is;
          due = inr (record { front = one.front; back = two.front; middle = h.middle; whole = refl; first = one.is; second = two.due });
          says_so = two.says_so;
        }
  ]

  -- a text is live
  sequence_live : (lines : List L) (v : V) → Is lines v → Live lines
  sequence_live lines v h = inr (record { front = h.front; back = h.back; middle = h.middle; whole = h.whole; first = h.first; second = (f h.middle).live h.back v h.second })

  -- the first lines of what is live are live
  sequence_shorter : (front more : List L) → Live (front ++ more) → Live front
  sequence_shorter front more h = elim h [
    | inl h ↦ inl (e.shorter front more h)
    | inr h ↦ elim (split_two h.front h.back front more (sym h.whole)) [
      | inl s ↦ inr (record {
        front = h.front;
        back = s.between;
        middle = h.middle;
        whole = s.front_is;
        first = h.first;
        second = (f h.middle).shorter s.between more (subst (q h.middle).live s.back_is h.second);
      })
      | inr s ↦ inl (e.shorter front s.between (subst p.live s.front_is (e.live h.front h.middle h.first)))
    ]
  ]

  -- behind a text nothing goes on
  sequence_ends : (front more : List L) (l : L) (v : V) → Is front v → Follows (l ∷ more) → Live (front ++ l ∷ more) → ⊥
  sequence_ends front more l v t follows h =
      let left : front ++ l ∷ more ≡ t.front ++ (t.back ++ l ∷ more) = regroup front t.front t.back (l ∷ more) t.whole in
      elim h [
        | inl m ↦ not_live t.front t.back l more t.middle t.first (subst p.live left m)
        | inr m ↦
            let a = e.again m.front m.back m.middle m.first tt in
            let b = e.again t.front (t.back ++ l ∷ more) t.middle t.first tt in
            let same = sym a ∙ ap p.read (sym m.whole ∙ left) ∙ b in
            let middle_is : m.middle ≡ t.middle = cc in
            let back_is : m.back ≡ t.back ++ l ∷ more = cc in
            let live : (q t.middle).live (t.back ++ l ∷ more) = subst (λ (x : X). (q x).live (t.back ++ l ∷ more)) middle_is (subst (q m.middle).live back_is m.second) in
            (f t.middle).ends t.back more l v t.second follows live
      ]

  -- one part and then another are read exactly
  pub exact-sequence : Exact says Follows (sequence p q)
  exact-sequence = record {
    took = sequence_took;
    again = sequence_again;
    fits = sequence_fits;
    none = sequence_none;
    due = sequence_due;
    named = sequence_named;
    live = sequence_live;
    shorter = sequence_shorter;
    ends =
        sequence_ends;
  }
