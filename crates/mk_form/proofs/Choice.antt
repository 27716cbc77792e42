-- One of two parts, by the first line, is read exactly.
use Rattle.std.proofs.Common.{◌≡◌, Bool, true, false, cond, Option, Some, List, [], ◌∷◌, ◌++◌, refl, sym, subst, ◌∙◌, inl, inr}
use Rattle.mk_form.specs.Reading.{Reading, Took, Stop}
use Rattle.mk_form.specs.Exact.{Part, Exact, TakesText, LiveBefore, NamedAt}
use Rattle.mk_form.specs.InWords.{form}
use Rattle.mk_form.specs.Lines.{OneLine, line, passing, line_where}
use Rattle.mk_form.specs.Sequence.{sequence}
use Rattle.mk_form.specs.Seen.{seen_as, with_lines}
use Rattle.mk_form.specs.Choice.{FirstIs, FirstMayBe, Shows, choice}
use Rattle.mk_form.proofs.Lines.{passes}
use Rattle.mk_form.proofs.Cuts.{no_front}

-- ---- which parts show in their first line

-- what holds of the first line holds with lines behind it
pub first_append : {L : Type 0} (b : L → Bool) (t : Bool) (front back : List L) → FirstIs b t front → FirstIs b t (front ++ back)
first_append b t [] back h = absurd h
first_append b t (x ∷ front) back h = h

-- where the first line passes, it may
pub first_may_be : {L : Type 0} (b : L → Bool) (t : Bool) (lines : List L) → FirstIs b t lines → FirstMayBe b t lines
first_may_be b t [] h = absurd h
first_may_be b t (x ∷ lines) h = h

-- the first of more lines is the first, if there is one
pub first_of_front : {L : Type 0} (b : L → Bool) (t : Bool) (front back : List L) → FirstIs b t (front ++ back) → FirstMayBe b t front
first_of_front b t [] back h = tt
first_of_front b t (x ∷ front) back h = h

-- one line shows what it is, where each line that spells a value does
pub shows-line : {L V : Type 0} (b : L → Bool) (t : Bool) (f : L → Option V) → ((l : L) (v : V) → f l ≡ Some v → b l ≡ t) → Shows b t (line f)
shows-line {L} {V} b t f h =
    let text : (lines : List L) (v : V) → OneLine f lines v → FirstIs b t lines = λ lines v k. subst (FirstIs b t) (sym k.whole) (h k.line v k.spells) in
    record {
      text = text;
      live = λ lines k. elim k [
        | inl k ↦ subst (FirstMayBe b t) (sym k) tt
        | inr k ↦ first_may_be b t lines (text lines k.0 k.1)
      ];
      due = λ lines d. absurd d;
    }

-- a line that passes one test shows what it is, where the other test says one thing of all such lines
pub shows-line_where : {L : Type 0} (b : L → Bool) (t : Bool) (c : L → Bool) → ((l : L) → c l ≡ true → b l ≡ t) → Shows b t (line_where c)
shows-line_where b t c h = shows-line b t (passing c) (λ l v k. h l (passes c l v k))

-- a part with another behind it shows what the first part shows
pub shows-sequence : {L X V : Type 0} {b : L → Bool} {t : Bool} {p : Part L X} (q : X → Part L V) → Shows b t p → Shows b t (sequence p q)
shows-sequence {b} {t} q s = record {
  text = λ lines v h. subst (FirstIs b t) (sym h.whole) (first_append b t h.front h.back (s.text h.front h.middle h.first));
  live = λ lines h. elim h [
    | inl h ↦ s.live lines h
    | inr h ↦ first_may_be b t lines (subst (FirstIs b t) (sym h.whole) (first_append b t h.front h.back (s.text h.front h.middle h.first)))
  ];
  due = λ lines h. elim h [
    | inl h ↦ s.due lines h
    | inr h ↦ subst (FirstIs b t) (sym h.whole) (first_append b t h.front h.back (s.text h.front h.middle h.first))
  ];
}

-- the value plays no part
pub shows-seen_as : {L X V : Type 0} {b : L → Bool} {t : Bool} {p : Part L X} (f : X → V) → Shows b t p → Shows b t (seen_as f p)
shows-seen_as f s = record { text = λ lines v h. s.text lines h.first h.is; live = s.live; due = s.due }

-- nor do the lines beside it
pub shows-with_lines : {L V : Type 0} {b : L → Bool} {t : Bool} {p : Part L V} → Shows b t p → Shows b t (with_lines p)
shows-with_lines s = record { text = λ lines v h. s.text lines v.0 h.is; live = s.live; due = s.due }

-- a form shows what each text and each place of a name in it shows
pub shows-form : {L V : Type 0} (b : L → Bool) (t : Bool) (Is : List L → V → Type 0) (Due : List L → Type 0)
    (reader : List L → Reading L V) → ((lines : List L) (v : V) → Is lines v → FirstIs b t lines)
    → ((lines : List L) → Due lines → FirstIs b t lines) → Shows b t (form Is Due reader)
shows-form b t Is Due reader text due = record { text = text; live = λ lines h. first_of_front b t lines h.0 (text (lines ++ h.0) h.1 h.2); due = due }

-- ---- the choice

module _ {L V : Type 0} {says : L → Bool} {Follows : List L → Type 0} {b : L → Bool} {p q : Part L V}
    (e : Exact says Follows p) (f : Exact says Follows q) (s : Shows b true p) (t : Shows b false q) where
  -- a text of one of the two
  abbrev Is : List L → V → Type 0
  Is = (choice b p q).is

  -- what may go on in one of the two
  abbrev Live : List L → Type 0
  Live = (choice b p q).live

  -- where a name is due in one of the two
  abbrev Due : List L → Type 0
  Due = (choice b p q).due

  -- the reader of the choice
  abbrev read : List L → Reading L V
  read = (choice b p q).read

  -- which reader it is where a line is there
  chosen : (u : Bool) (front rest : List L) → FirstIs b u front → read (front ++ rest) ≡ cond u (p.read (front ++ rest)) (q.read (front ++ rest))
  chosen u [] rest h = absurd h
  chosen u (x ∷ front) rest h = rw h refl

  -- the same where the line is the first that doesn't fit
  chosen_by : (u : Bool) (front rest : List L) (l : L) → FirstMayBe b u (front ++ l ∷ []) → read (front ++ l ∷ rest) ≡ cond u (p.read (front ++ l ∷ rest)) (q.read (front ++ l ∷ rest))
  chosen_by u [] rest l h = rw h refl
  chosen_by u (x ∷ front) rest l h = rw h refl

  -- what is read is a text, by what the test says
  took_at : (u : Bool) (l : L) (lines rest : List L) (v : V) → cond u (p.read (l ∷ lines)) (q.read (l ∷ lines)) ≡ Took v rest → TakesText Follows Is (l ∷ lines) rest v
  took_at true l lines rest v h = let k = e.took (l ∷ lines) rest v h in record { front = k.front; whole = k.whole; is = inl k.is; follows = k.follows }
  took_at false l lines rest v h = let k = f.took (l ∷ lines) rest v h in record { front = k.front; whole = k.whole; is = inr k.is; follows = k.follows }

  -- what is read is a text
  choice_took : (lines rest : List L) (v : V) → read lines ≡ Took v rest → TakesText Follows Is lines rest v
  choice_took [] rest v h = absurd cc
  choice_took (l ∷ lines) rest v h = took_at (b l) l lines rest v h

  -- each text is read
  choice_again : (front rest : List L) (v : V) → Is front v → Follows rest → read (front ++ rest) ≡ Took v rest
  choice_again front rest v h k = elim h [
    | inl h ↦ chosen true front rest (s.text front v h) ∙ e.again front rest v h k
    | inr h ↦ chosen false front rest (t.text front v h) ∙ f.again front rest v h k
  ]

  -- a part whose first line shows what it is goes on from nothing
  goes_on_at : (r : Reading L V) → p.read [] ≡ r → p.live []
  goes_on_at (Took v rest) h =
      let k = e.took [] rest v h in
      absurd (subst (FirstIs b true) (no_front k.front rest (sym k.whole)) (s.text k.front v k.is))
  goes_on_at (Stop n rest) h = let k = e.fits [] rest n h in subst p.live (no_front k.front rest (sym k.whole)) k.live

  -- no line yet is live in the first part
  pub goes_on : p.live []
  goes_on = goes_on_at (p.read []) refl

  -- the lines before a stop are live, by what the test says
  fits_at : (u : Bool) (l : L) (lines rest : List L) (n : Bool) → cond u (p.read (l ∷ lines)) (q.read (l ∷ lines)) ≡ Stop n rest → LiveBefore Live (l ∷ lines) rest
  fits_at true l lines rest n h = let k = e.fits (l ∷ lines) rest n h in record { front = k.front; whole = k.whole; live = inl k.live }
  fits_at false l lines rest n h = let k = f.fits (l ∷ lines) rest n h in record { front = k.front; whole = k.whole; live = inr k.live }

  -- the lines before a stop are live
  choice_fits : (lines rest : List L) (n : Bool) → read lines ≡ Stop n rest → LiveBefore Live lines rest
  choice_fits [] rest n h = record { front = []; whole = cc; live = inl goes_on }
  choice_fits (l ∷ lines) rest n h = fits_at (b l) l lines rest n h

  -- and with the line at the stop they are not
  choice_none : (front rest : List L) (l : L) (n : Bool) → read (front ++ l ∷ rest) ≡ Stop n (l ∷ rest) → Live (front ++ l ∷ []) → ⊥
  choice_none front rest l n h k = elim k [
    | inl k ↦ e.none front rest l n (sym (chosen_by true front rest l (s.live (front ++ l ∷ []) k)) ∙ h) k
    | inr k ↦ f.none front rest l n (sym (chosen_by false front rest l (t.live (front ++ l ∷ []) k)) ∙ h) k
  ]

  -- a line that says its name where one is due is named
  choice_due : (front rest : List L) (l : L) → Due front → says l ≡ true → read (front ++ l ∷ rest) ≡ Stop true (l ∷ rest)
  choice_due front rest l d h = elim d [
    | inl d ↦ chosen true front (l ∷ rest) (s.due front d) ∙ e.due front rest l d h
    | inr d ↦ chosen false front (l ∷ rest) (t.due front d) ∙ f.due front rest l d h
  ]

  -- no other line is named, by what the test says
  named_at : (u : Bool) (l : L) (lines rest : List L) → cond u (p.read (l ∷ lines)) (q.read (l ∷ lines)) ≡ Stop true rest → NamedAt says Due (l ∷ lines) rest
  named_at true l lines rest h = let k = e.named (l ∷ lines) rest h in
      record {
        front = k.front;
        line = k.line;
        behind = k.behind;
        whole = k.whole;
        rest_is = k.rest_is;
        due = inl k.due;
        says_so = k.says_so;
      }
  named_at false l lines rest h = let k = f.named (l ∷ lines) rest h in
      record {
        front = k.front;
        line = k.line;
        behind = k.behind;
        whole = k.whole;
        rest_is = k.rest_is;
        due = inr k.due;
        says_so = k.says_so;
      }

  -- no other line is named
  choice_named : (lines rest : List L) → read lines ≡ Stop true rest → NamedAt says Due lines rest
  choice_named [] rest h = absurd cc
  choice_named (l ∷ lines) rest h = named_at (b l) l lines rest h

  -- a choice is read exactly where both parts are and show what they are
  pub exact-choice : Exact says Follows (choice b p q)
  exact-choice = record {
    took = choice_took;
    again = choice_again;
    fits = choice_fits;
    none = choice_none;
    due = choice_due;
    named = choice_named;
    live = λ lines v h. elim h [ inl h ↦ inl (e.live lines v h) | inr h ↦ inr (f.live lines v h) ];
    shorter = λ front more h. elim h [ inl h ↦ inl (e.shorter front more h) | inr h ↦ inr (f.shorter front more h) ];
    ends = λ front more l v h k m. elim h [
      | inl h ↦ elim m [
        | inl m ↦ e.ends front more l v h k m
        | inr m ↦ apart front more l (s.text front v h) (t.live (front ++ l ∷ more) m)
      ]
      | inr h ↦ elim m [
        | inl m ↦ apart_too front more l (t.text front v h) (s.live (front ++ l ∷ more) m)
        | inr m ↦ f.ends front more l v h k m
      ]
    ];
  }
    where
      -- a first line that passes is none that fails
      apart : (front more : List L) (l : L) → FirstIs b true front → FirstMayBe b false (front ++ l ∷ more) → ⊥
      apart [] more l h k = absurd h
      apart (x ∷ front) more l h k = cc

      -- and the other way round
      apart_too : (front more : List L) (l : L) → FirstIs b false front → FirstMayBe b true (front ++ l ∷ more) → ⊥
      apart_too [] more l h k = absurd h
      apart_too (x ∷ front) more l h k = cc
