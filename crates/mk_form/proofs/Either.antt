-- One of two parts that both run to the end is read exactly.
use Rattle.std.proofs.Common.{◌≡◌, suc, ◌≤◌, Bool, true, false, cond, ltb, List, [], ◌∷◌, ◌++◌, length, refl, sym, ap, subst, ◌∙◌, append_assoc, inl, inr, arith}
use Rattle.std.specs.Prelude.{◌⊎◌}
use Rattle.std.proofs.lemmas.Bool.{ltb-true, ltb-false, le-ltb}
use Rattle.std.proofs.lemmas.List.{append-nil, length-append}
use Rattle.mk_form.specs.Reading.{Reading, Took, Stop}
use Rattle.mk_form.specs.Exact.{Part, Exact, TakesText, LiveBefore, NeverDue, NoLines}
use Rattle.mk_form.specs.Either.{farther, either}
use Rattle.mk_form.proofs.Cuts.{split_at, regroup}

-- what was read was read by one of the two
farther_took : {L V : Type 0} (x y : Reading L V) (v : V) (rest : List L) → farther x y ≡ Took v rest → (x ≡ Took v rest) ⊎ (y ≡ Took v rest)
farther_took (Took w a) y v rest e = inl e
farther_took (Stop n a) (Took w b) v rest e = inr e
farther_took (Stop n a) (Stop m b) v rest e = absurd (stop_at (ltb (length a) (length b)) e)
  where
    -- a stop is no value
    stop_at : (t : Bool) → cond t (Stop n a) (Stop m b) ≡ Took v rest → ⊥
    stop_at true h = cc
    stop_at false h = cc

-- the stop is x's, and y's is no farther
pub record StopOf {L V : Type 0} (x y : Reading L V) (n : Bool) (rest : List L) : Type 0 where
  pub name : Bool
  pub other : List L
  pub is : x ≡ Stop n rest
  pub second : y ≡ Stop name other
  pub near : length rest ≤ length other

-- which stop it is, by what the comparison says
farther_stop_at : {L V : Type 0} (t : Bool) (n m : Bool) (a b : List L) (k : Bool) (rest : List L) (x y : Reading L V)
    → x ≡ Stop n a → y ≡ Stop m b → ltb (length a) (length b) ≡ t → cond t x y ≡ Stop k rest → StopOf x y k rest
    ⊎ StopOf y x k rest
farther_stop_at true n m a b k rest x y ex ey t e =
    let lt = ltb-true (length a) (length b) t in
    let both = sym ex ∙ e in
    let same : a ≡ rest = cc in
    inl (record { name = m; other = b; is = e; second = ey; near = omega (arith, ap length same) })
farther_stop_at false n m a b k rest x y ex ey t e =
    let le = ltb-false (length a) (length b) t in
    let both = sym ey ∙ e in
    let same : b ≡ rest = cc in
    inr (record { name = n; other = a; is = e; second = ex; near = omega (arith, ap length same) })

-- where both stop, the stop is that of one, and the other's is no farther
farther_stop : {L V : Type 0} (x y : Reading L V) (n : Bool) (rest : List L) → farther x y ≡ Stop n rest → StopOf x y n rest ⊎ StopOf y x n rest
farther_stop (Took w a) y n rest e = absurd cc
farther_stop (Stop m a) (Took w b) n rest e = absurd cc
farther_stop (Stop m a) (Stop k b) n rest e = farther_stop_at (ltb (length a) (length b)) m k a b n rest (Stop m a) (Stop k b) refl refl refl e

module _ {L V : Type 0} {says : L → Bool} {Follows : List L → Type 0} {p : Part L V} (e : Exact says Follows p) where
  -- the same, where the lines between the stop and l are known
  stopped_at : (between before front rest : List L) (l : L) (n : Bool) → p.read (front ++ l ∷ rest) ≡ Stop n (between ++ l ∷ rest) → front ≡ before ++ between → p.live (front ++ l ∷ []) → ⊥
  stopped_at [] before front rest l n h f live = e.none front rest l n h live
  stopped_at (y ∷ ys) before front rest l n h f live =
      let left : (rest : List L) → front ++ l ∷ rest ≡ before ++ y ∷ (ys ++ l ∷ rest) = λ rest. regroup front before (y ∷ ys) (l ∷ rest) f in
      let shorter = e.shorter (before ++ y ∷ []) (ys ++ l ∷ []) (subst p.live (left [] ∙ sym (append_assoc before (y ∷ []) (ys ++ l ∷ []))) live) in
      e.none before (ys ++ l ∷ rest) y n (ap p.read (sym (left rest)) ∙ h) shorter

  -- a reader that stopped at the line l or before it has nothing live with l in it
  pub stopped_before : (front rest : List L) (l : L) (n : Bool) (a : List L) → p.read (front ++ l ∷ rest) ≡ Stop n a → length (l ∷ rest) ≤ length a → p.live (front ++ l ∷ []) → ⊥
  stopped_before front rest l n a h near live =
      let k = e.fits (front ++ l ∷ rest) a n h in
      elim (split_at k.front a front l rest (sym k.whole)) [
        | inl s ↦ stopped_at s.between k.front front rest l n (h ∙ ap (Stop n) s.back_is) s.front_is live
        | inr s ↦
            let near' : suc (length rest) ≤ length a = near in
            absurd (omega (arith, ap length s.more_is, length-append s.between a))
      ]

-- p is never named, no text is one of both, and no line of p says a name
module _ {L V : Type 0} {says : L → Bool} {p q : Part L V} (e : Exact says NoLines p) (f : Exact says NoLines q)
    (none : NeverDue p)
    (apart : (lines : List L) (v w : V) → p.is lines v → q.is lines w → ⊥)
    (unnamed : (front : List L) (l : L) → p.live (front ++ l ∷ []) → says l ≡ true → ⊥)
  where
    -- a text of one of the two
    abbrev Is : List L → V → Type 0
    Is = (either p q).is

    -- what may go on in one of the two
    abbrev Live : List L → Type 0
    Live = (either p q).live

    -- the reader of both
    abbrev read : List L → Reading L V
    read = (either p q).read

    -- what is read is a text
    either_took : (lines rest : List L) (v : V) → read lines ≡ Took v rest → TakesText NoLines Is lines rest v
    either_took lines rest v h = elim (farther_took (p.read lines) (q.read lines) v rest h) [
      | inl h ↦ let k = e.took lines rest v h in record { front = k.front; whole = k.whole; is = inl k.is; follows = k.follows }
      | inr h ↦ let k = f.took lines rest v h in record { front = k.front; whole = k.whole; is = inr k.is; follows = k.follows }
    ]

    -- what the second reads is read where the first reads nothing
    second_took : (x : Reading L V) (v : V) (rest : List L) → ((w : V) (other : List L) → x ≡ Took w other → ⊥) → farther x (Took v rest) ≡ Took v rest
    second_took (Took w other) v rest h = absurd (h w other refl)
    second_took (Stop n other) v rest h = refl

    -- what is a text of the second is not read by the first
    not_first : (front rest : List L) (v : V) → q.is front v → NoLines rest → (w : V) (other : List L) → p.read (front ++ rest) ≡ Took w other → ⊥
    not_first front rest v h end w other k =
        let i = e.took (front ++ rest) other w k in
        let same : i.front ≡ front = sym (append-nil i.front) ∙ ap (λ (x : List L). i.front ++ x) (sym i.follows) ∙ sym i.whole ∙ ap (λ (x : List L). front ++ x) end ∙ append-nil front in
        apart front w v (subst (λ (x : List L). p.is x w) same i.is) h

    -- each text is read
    either_again : (front rest : List L) (v : V) → Is front v → NoLines rest → read (front ++ rest) ≡ Took v rest
    either_again front rest v h end = elim h [
      | inl h ↦ ap (λ (x : Reading L V). farther x (q.read (front ++ rest))) (e.again front rest v h end)
      | inr h ↦ ap (farther (p.read (front ++ rest))) (f.again front rest v h end) ∙ second_took (p.read (front ++ rest)) v rest (not_first front rest v h end)
    ]

    -- the lines before a stop are live
    either_fits : (lines rest : List L) (n : Bool) → read lines ≡ Stop n rest → LiveBefore Live lines rest
    either_fits lines rest n h = elim (farther_stop (p.read lines) (q.read lines) n rest h) [
      | inl h ↦ let k = e.fits lines rest n h.is in record { front = k.front; whole = k.whole; live = inl k.live }
      | inr h ↦ let k = f.fits lines rest n h.is in record { front = k.front; whole = k.whole; live = inr k.live }
    ]

    -- and with the line at the stop they are not
    either_none : (front rest : List L) (l : L) (n : Bool) → read (front ++ l ∷ rest) ≡ Stop n (l ∷ rest) → Live (front ++ l ∷ []) → ⊥
    either_none front rest l n h live = elim (farther_stop (p.read (front ++ l ∷ rest)) (q.read (front ++ l ∷ rest)) n (l ∷ rest) h) [
      | inl k ↦ elim live [
        | inl i ↦ e.none front rest l n k.is i
        | inr i ↦ stopped_before f front rest l k.name k.other k.second k.near i
      ]
      | inr k ↦ elim live [
        | inl i ↦ stopped_before e front rest l k.name k.other k.second k.near i
        | inr i ↦ f.none front rest l n k.is i
      ]
    ]

    -- the first reader doesn't go past a line that says its name
    not_past_at : (x : Reading L V) (front rest : List L) (l : L) → says l ≡ true → p.read (front ++ l ∷ rest) ≡ x → farther x (Stop true (l ∷ rest)) ≡ Stop true (l ∷ rest)
    not_past_at (Took w other) front rest l named h =
        let k = e.took (front ++ l ∷ rest) other w h in
        let same : k.front ≡ front ++ l ∷ rest = sym (append-nil k.front) ∙ ap (λ (x : List L). k.front ++ x) (sym k.follows) ∙ sym k.whole in
        let live : p.live (front ++ l ∷ rest) = subst p.live same (e.live k.front w k.is) in
        absurd (unnamed front l (e.shorter (front ++ l ∷ []) rest (subst p.live (sym (append_assoc front (l ∷ []) rest)) live)) named)
    not_past_at (Stop n other) front rest l named h =
        let k = e.fits (front ++ l ∷ rest) other n h in
        elim (split_at k.front other front l rest (sym k.whole)) [
          | inl b ↦
              let far : ltb (length other) (length (l ∷ rest)) ≡ false = le-ltb _ _ (omega (arith, ap length b.back_is, length-append b.between (l ∷ rest))) in
              rw far refl
          | inr b ↦ absurd (unnamed front l (e.shorter (front ++ l ∷ []) b.between (subst p.live (b.front_is ∙ sym (append_assoc front (l ∷ []) b.between)) k.live)) named)
        ]

    -- one of two parts is read exactly where both are
    pub exact-either : Exact says NoLines (either p q)
    exact-either = record {
      took = either_took;
      again = either_again;
      fits = either_fits;
      none = either_none;
      due = λ front rest l d h. ap (farther (p.read (front ++ l ∷ rest))) (f.due front rest l d h) ∙ not_past_at (p.read (front ++ l ∷ rest)) front rest l h refl;
      named = λ lines rest h. elim (farther_stop (p.read lines) (q.read lines) true rest h) [
        | inl h ↦ let k = e.named lines rest h.is in absurd (none.never k.front k.due)
        | inr h ↦ f.named lines rest h.is
      ];
      live = λ lines v h. elim h [ inl h ↦ inl (e.live lines v h) | inr h ↦ inr (f.live lines v h) ];
      shorter = λ front more h. elim h [ inl h ↦ inl (e.shorter front more h) | inr h ↦ inr (f.shorter front more h) ];
      ends = λ front more l v h end k. cc;
    }
