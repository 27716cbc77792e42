-- Several lines that are read as one are read exactly.
use Rattle.std.proofs.Common.{◌≡◌, Bool, true, false, cond, Option, Some, None, List, [], ◌∷◌, ◌++◌, refl, sym, ap, subst, ◌∙◌, append_assoc, inl, inr}
use Rattle.std.specs.Prelude.{◌⊎◌}
use Rattle.mk_form.specs.Reading.{Reading, Took, Stop}
use Rattle.mk_form.specs.Exact.{Exact, TakesText, Anything, NeverDue}
use Rattle.mk_form.specs.Lines.{line_of}
use Rattle.mk_form.specs.Choice.{FirstIs, FirstMayBe, Shows}
use Rattle.mk_form.specs.ToEnd.{EachIs}
use Rattle.mk_form.specs.Joined.{Joined, UpToJoined, read_joined, joined}
use Rattle.mk_form.proofs.Cuts.{split_at, no_line, no_front, too_long}
use Rattle.mk_form.proofs.Choice.{first_may_be}
use Rattle.mk_form.proofs.ToEnd.{split_if, each-shorter, each-at}

module _ {L V : Type 0} (goes_on closes : L → Bool) where
  -- a text of lines as one
  abbrev Is : (List L → Option V) → List L → V → Type 0
  Is f = Joined goes_on closes f

  -- what may go on
  abbrev Live : (List L → Option V) → List L → Type 0
  Live f = UpToJoined goes_on closes f

  -- the reader of lines as one
  abbrev read : (List L → Option V) → List L → Reading L V
  read f = read_joined goes_on closes f

  -- what the lines behind l spell together with it
  abbrev behind : (List L → Option V) → L → List L → Option V
  behind f l others = f (l ∷ others)

  -- the one line that closes
  pub record Closes (f : List L → Option V) (l : L) (lines : List L) (v : V) : Type 0 where
    pub ends : goes_on l ≡ false
    pub closed : closes l ≡ true
    pub none : lines ≡ []
    pub spells : f (l ∷ []) ≡ Some v

  -- a line that goes on before a text
  cons_is : (f : List L → Option V) (l : L) (lines : List L) (v : V) → goes_on l ≡ true → Is (behind f l) lines v → Is f (l ∷ lines) v
  cons_is f l lines v g h = record { firsts = l ∷ h.firsts; last = h.last; whole = ap (λ (x : List L). l ∷ x) h.whole; go_on = (g, h.go_on); ends = h.ends; closed = h.closed; spells = h.spells }

  -- the first line goes on, or it is all, by the lines that go on
  uncons_at : (f : List L → Option V) (l : L) (lines firsts : List L) (last : L) (v : V)
      → l ∷ lines ≡ firsts ++ last ∷ [] → EachIs goes_on true firsts → goes_on last ≡ false → closes last ≡ true
      → f (l ∷ lines) ≡ Some v
      → ((goes_on l ≡ true) × Is (behind f l) lines v) ⊎ Closes f l lines v
  uncons_at f l lines [] last v whole go_on ends closed spells =
      let first : l ≡ last = cc in
      let none : lines ≡ [] = cc in
      inr (record { ends = ap goes_on first ∙ ends; closed = ap closes first ∙ closed; none = none; spells = ap (λ (x : List L). f (l ∷ x)) (sym none) ∙ spells })
  uncons_at f l lines (x ∷ firsts) last v whole go_on ends closed spells =
      let first : l ≡ x = cc in
      inl (ap goes_on first ∙ go_on.0, record { firsts = firsts; last = last; whole = cc; go_on = go_on.1; ends = ends; closed = closed; spells = spells })

  -- the first line of a text goes on, or it is all
  uncons_is : (f : List L → Option V) (l : L) (lines : List L) (v : V) → Is f (l ∷ lines) v → ((goes_on l ≡ true) × Is (behind f l) lines v) ⊎ Closes f l lines v
  uncons_is f l lines v h = uncons_at f l lines h.firsts h.last v h.whole h.go_on h.ends h.closed h.spells

  -- which way the reader goes at a line
  pub record Stays (f : List L → Option V) (l : L) (lines : List L) (r : Reading L V) : Type 0 where
    pub ends : goes_on l ≡ false
    pub here : cond (closes l) (line_of (f (l ∷ [])) false l lines) (Stop false (l ∷ lines)) ≡ r

  -- the reader goes on at the first line, or stays there
  branches : (f : List L → Option V) (l : L) (lines : List L) (r : Reading L V) → read f (l ∷ lines) ≡ r → ((goes_on l ≡ true) × (read (behind f l) lines ≡ r)) ⊎ Stays f l lines r
  branches f l lines r h = elim (split_if (goes_on l) (read (behind f l) lines) (cond (closes l) (line_of (f (l ∷ [])) false l lines) (Stop false (l ∷ lines))) r h) [
    | inl k ↦ inl k
    | inr k ↦ inr (record { ends = k.0; here = k.1 })
  ]

  -- the value of one line
  taken_at : (o : Option V) (f : List L → Option V) (l : L) (lines rest : List L) (v : V) → f (l ∷ []) ≡ o → line_of o false l lines ≡ Took v rest → (f (l ∷ []) ≡ Some v) × (lines ≡ rest)
  taken_at (Some w) f l lines rest v is h = (is ∙ cc, cc)
  taken_at None f l lines rest v is h = absurd cc

  -- the first line is all
  stays_took : (f : List L → Option V) (l : L) (lines rest : List L) (v : V) → Stays f l lines (Took v rest) → TakesText Anything (Is f) (l ∷ lines) rest v
  stays_took f l lines rest v s = elim (split_if (closes l) (line_of (f (l ∷ [])) false l lines) (Stop false (l ∷ lines)) (Took v rest) s.here) [
    | inl k ↦
        let t = taken_at (f (l ∷ [])) f l lines rest v refl k.1 in
        record { front = l ∷ []; whole = ap (λ (x : List L). l ∷ x) t.1; is = record { firsts = []; last = l; whole = refl; go_on = tt; ends = s.ends; closed = k.0; spells = t.0 }; follows = tt }
    | inr k ↦ absurd (let e = k.1 in cc)
  ]

  -- what is read is a text
  joined_took : (f : List L → Option V) (lines rest : List L) (v : V) → read f lines ≡ Took v rest → TakesText Anything (Is f) lines rest v
  joined_took f [] rest v h = absurd cc
  joined_took f (l ∷ lines) rest v h = elim (branches f l lines (Took v rest) h) [
    | inl k ↦
        let t = joined_took (behind f l) lines rest v k.1 in
        record { front = l ∷ t.front; whole = ap (λ (x : List L). l ∷ x) t.whole; is = cons_is f l t.front v k.0 t.is; follows = tt }
    | inr k ↦ stays_took f l lines rest v k
  ]

  -- each text is read
  joined_again : (f : List L → Option V) (front rest : List L) (v : V) → Is f front v → read f (front ++ rest) ≡ Took v rest
  joined_again f [] rest v h = absurd (no_line h.firsts h.last [] (sym h.whole))
  joined_again f (l ∷ front) rest v h = elim (uncons_is f l front v h) [
    | inl k ↦ rw (k.0) (joined_again (behind f l) front rest v k.1)
    | inr k ↦ rw (k.ends, k.closed, k.none) (rw k.spells refl)
  ]

  -- a stop is plain, and at the line where the reader stays
  stop_at : (o : Option V) (l : L) (lines rest : List L) (n : Bool) → line_of o false l lines ≡ Stop n rest → (l ∷ lines ≡ rest) × (n ≡ false) × (o ≡ None)
  stop_at (Some v) l lines rest n h = absurd cc
  stop_at None l lines rest n h = (cc, cc, refl)

  -- the line closes and the lines spell no value, or it doesn't close
  pub record StopsHere (f : List L → Option V) (l : L) (lines rest : List L) (n : Bool) : Type 0 where
    pub rest_is : l ∷ lines ≡ rest
    pub plain : n ≡ false
    pub spells_none : (v : V) → closes l ≡ true → f (l ∷ []) ≡ Some v → ⊥

  -- the reader stops at the first line
  stays_stop : (f : List L → Option V) (l : L) (lines rest : List L) (n : Bool) → Stays f l lines (Stop n rest) → StopsHere f l lines rest n
  stays_stop f l lines rest n s = elim (split_if (closes l) (line_of (f (l ∷ [])) false l lines) (Stop false (l ∷ lines)) (Stop n rest) s.here) [
    | inl k ↦ let t = stop_at (f (l ∷ [])) l lines rest n k.1 in record { rest_is = t.0; plain = t.1; spells_none = λ v _ h. (let e = t.2 in cc) }
    | inr k ↦ let e = k.1 in record { rest_is = cc; plain = cc; spells_none = λ v c _. (let d = k.0 in cc) }
  ]

  -- the lines before a stop are live
  joined_fits : (f : List L → Option V) (lines rest : List L) (n : Bool) → read f lines ≡ Stop n rest → (front : List L) × (lines ≡ front ++ rest) × EachIs goes_on true front × (n ≡ false)
  joined_fits f [] rest n h = ([], cc, tt, cc)
  joined_fits f (l ∷ lines) rest n h = elim (branches f l lines (Stop n rest) h) [
    | inl k ↦ let t = joined_fits (behind f l) lines rest n k.1 in (l ∷ t.0, ap (λ (x : List L). l ∷ x) t.1, (k.0, t.2), t.3)
    | inr k ↦ let t = stays_stop f l lines rest n k in ([], t.rest_is, tt, t.plain)
  ]

  -- the first line of what is live goes on, or it is all
  uncons_live : (f : List L → Option V) (l : L) (lines : List L) → Live f (l ∷ lines) → ((goes_on l ≡ true) × Live (behind f l) lines) ⊎ ((v : V) × Closes f l lines v)
  uncons_live f l lines h = elim h [
    | inl h ↦ inl (h.0, inl h.1)
    | inr h ↦ elim (uncons_is f l lines h.0 h.1) [
      | inl k ↦ inl (k.0, inr (h.0, k.1))
      | inr k ↦ inr (h.0, k)
    ]
  ]

  -- and with the line at the stop they are not
  joined_none : (f : List L → Option V) (front rest : List L) (l : L) (n : Bool) → read f (front ++ l ∷ rest) ≡ Stop n (l ∷ rest) → Live f (front ++ l ∷ []) → ⊥
  joined_none f [] rest l n h live = elim (branches f l rest (Stop n (l ∷ rest)) h) [
    | inl k ↦ let t = joined_fits (behind f l) rest (l ∷ rest) n k.1 in too_long t.0 rest l t.1
    | inr k ↦ elim (uncons_live f l [] live) [
      | inl m ↦ let a = k.ends in let b = m.0 in cc
      | inr m ↦ (stays_stop f l rest (l ∷ rest) n k).spells_none m.0 m.1.closed m.1.spells
    ]
  ]
  joined_none f (y ∷ front) rest l n h live = elim (uncons_live f y (front ++ l ∷ []) live) [
    | inl m ↦ elim (branches f y (front ++ l ∷ rest) (Stop n (l ∷ rest)) h) [
      | inl k ↦ joined_none (behind f y) front rest l n k.1 m.1
      | inr k ↦ let a = k.ends in let b = m.0 in cc
    ]
    | inr m ↦ no_line front l [] m.1.none
  ]

  -- the first lines of what is live are live
  joined_shorter : (f : List L → Option V) (front more : List L) → Live f (front ++ more) → Live f front
  joined_shorter f front more h = elim h [
    | inl h ↦ inl (each-shorter goes_on true front more h)
    | inr h ↦
        let j = h.1 in
        elim (split_at front more j.firsts j.last [] j.whole) [
          | inl s ↦ inl (each-shorter goes_on true front s.between (subst (EachIs goes_on true) s.front_is j.go_on))
          | inr s ↦
              let none : s.between ≡ [] = no_front s.between more (sym s.more_is) in
              let front_is : front ≡ j.firsts ++ j.last ∷ [] = s.front_is ∙ ap (λ (x : List L). j.firsts ++ j.last ∷ x) none in
              let same : front ++ more ≡ front = j.whole ∙ sym front_is in
              inr (h.0, record { firsts = j.firsts; last = j.last; whole = front_is; go_on = j.go_on; ends = j.ends; closed = j.closed; spells = ap f (sym same) ∙ j.spells })
        ]
  ]

  -- behind the line that closes, nothing goes on
  closed_at : (f : List L → Option V) (l m : L) (firsts more : List L) → goes_on l ≡ false → Live f (firsts ++ l ∷ m ∷ more) → ⊥
  closed_at f l m firsts more ends h = elim h [
    | inl h ↦ let g = each-at goes_on true firsts (m ∷ more) l h in cc
    | inr h ↦
        let j = h.1 in
        elim (split_at firsts (l ∷ m ∷ more) j.firsts j.last [] j.whole) [
          | inl s ↦ between_at s.between j s.front_is s.back_is
          | inr s ↦ elim_past s.between s.more_is
        ]
  ]
    where
      elim_past : (between : List L) → [] ≡ between ++ l ∷ m ∷ more → ⊥
      elim_past between e = no_line between l (m ∷ more) (sym e)

      -- the last line of one text doesn't go on in another
      between_at : (between : List L) {v : V} (j : Is f (firsts ++ l ∷ m ∷ more) v) → j.firsts ≡ firsts ++ between → l ∷ m ∷ more ≡ between ++ j.last ∷ [] → ⊥
      between_at [] j e back = cc
      between_at (x ∷ xs) j e back =
          let same : l ≡ x = cc in
          let g : goes_on x ≡ true = each-at goes_on true firsts xs x (subst (EachIs goes_on true) e j.go_on) in
          let k = ap goes_on same ∙ g in
          cc

  -- behind a text nothing goes on
  joined_ends : (f : List L → Option V) (front more : List L) (l : L) (v : V) → Is f front v → Live f (front ++ l ∷ more) → ⊥
  joined_ends f front more l v h live =
      closed_at f h.last l h.firsts more h.ends (subst (Live f) (ap (λ (x : List L). x ++ l ∷ more) h.whole ∙ append_assoc h.firsts (h.last ∷ []) (l ∷ more)) live)

-- lines as one are read exactly
pub exact-joined : {L V : Type 0} {says : L → Bool} (goes_on closes : L → Bool) (f : List L → Option V) → Exact says Anything (joined goes_on closes f)
exact-joined {L} {V} goes_on closes f = record {
  took = joined_took goes_on closes f;
  again = λ front rest v h _. joined_again goes_on closes f front rest v h;
  fits = λ lines rest n h. let k = joined_fits goes_on closes f lines rest n h in record { front = k.0; whole = k.1; live = inl k.2 };
  none = joined_none goes_on closes f;
  due = λ front rest l d h. absurd d;
  named = λ lines rest h. absurd (let k = (joined_fits goes_on closes f lines rest true h).3 in cc);
  live = λ lines v h. inr (v, h);
  shorter = joined_shorter goes_on closes f;
  ends = λ front more l v h _ live. joined_ends goes_on closes f front more l v h live;
}

-- and never named
pub never-joined : {L V : Type 0} (goes_on closes : L → Bool) (f : List L → Option V) → NeverDue (joined goes_on closes f)
never-joined goes_on closes f = record { never = λ lines d. d }

module _ {L V : Type 0} (b : L → Bool) (t : Bool) (goes_on closes : L → Bool) (f : List L → Option V) (on : (l : L) → goes_on l ≡ true → b l ≡ t) (close : (l : L) → closes l ≡ true → b l ≡ t) where
  -- the first line of a text shows what it is
  shows_text : (lines firsts : List L) (last : L) → lines ≡ firsts ++ last ∷ [] → EachIs goes_on true firsts → closes last ≡ true → FirstIs b t lines
  shows_text lines [] last whole each closed = subst (FirstIs b t) (sym whole) (close last closed)
  shows_text lines (x ∷ firsts) last whole each closed = subst (FirstIs b t) (sym whole) (on x each.0)

  -- the first line of lines that go on shows what they are
  shows_live : (lines : List L) → EachIs goes_on true lines → FirstMayBe b t lines
  shows_live [] h = tt
  shows_live (l ∷ lines) h = on l h.0

  -- the lines show what they are, where each line that goes on does and each that closes
  pub shows-joined : Shows b t (joined goes_on closes f)
  shows-joined = record {
    text = λ lines v h. shows_text lines h.firsts h.last h.whole h.go_on h.closed;
    live = λ lines h. elim h [
      | inl h ↦ shows_live lines h
      | inr h ↦ first_may_be b t lines (shows_text lines h.1.firsts h.1.last h.1.whole h.1.go_on h.1.closed)
    ];
    due = λ lines d. absurd d;
  }
