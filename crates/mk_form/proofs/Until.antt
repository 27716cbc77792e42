-- Parts, and then an end that its first line shows, are read exactly.
use Rattle.std.proofs.Common.{◌≡◌, ℕ, zero, suc, ◌≤◌, ◌<◌, Bool, true, false, cond, List, [], ◌∷◌, ◌++◌, length, refl, sym, ap, subst, ◌∙◌, append_assoc, inl, inr, arith}
use Rattle.std.specs.Prelude.{◌⊎◌}
use Rattle.std.proofs.lemmas.List.{length-append}
use Rattle.mk_form.specs.Reading.{Reading, Took, Stop, and_then}
use Rattle.mk_form.specs.Exact.{Part, Exact, Anything}
use Rattle.mk_form.specs.Sequence.{EndsIn}
use Rattle.mk_form.specs.Seen.{Seen, seen_as}
use Rattle.mk_form.specs.Rows.{Series}
use Rattle.mk_form.specs.Choice.{FirstIs, Shows}
use Rattle.mk_form.specs.Limit.{IsLimit}
use Rattle.mk_form.specs.Until.{Ended, EndsInUntil, with_none, with_first, within, until}
use Rattle.mk_form.proofs.Cuts.{no_front}
use Rattle.mk_form.proofs.Readings.{same_behind}
use Rattle.mk_form.proofs.Limit.{exact-limit}
use Rattle.mk_form.proofs.Seen.{exact-seen_as}
use Rattle.mk_form.proofs.Sequence.{exact-sequence}
use Rattle.mk_form.proofs.Choice.{shows-sequence, shows-seen_as, exact-choice}

-- ---- lines that end within one of some parts, said by steps and all at once

module _ {L X : Type 0} (M : List L → Type 0) (P : List L → X → Type 0) (N : List L → Type 0) (W : ℕ → List L → Type 0) where
  -- from the steps
  pub all_at_once : ((lines : List L) → W 0 lines → N lines) → ((n : ℕ) (lines : List L) → W (suc n) lines → N lines ⊎ EndsIn M P (λ _. W n) lines)
      → (n : ℕ) (lines : List L) → W n lines → EndsInUntil M P N lines
  all_at_once end step zero lines h = record { values = []; front = []; back = lines; whole = refl; items = refl; last = inr (end lines h) }
  all_at_once end step (suc n) lines h = elim (step n lines h) [
    | inl h ↦ record { values = []; front = []; back = lines; whole = refl; items = refl; last = inr h }
    | inr h ↦ elim h [
      | inl h ↦ record { values = []; front = []; back = lines; whole = refl; items = refl; last = inl h }
      | inr h ↦
          let k = all_at_once end step n h.back h.second in
          record {
            values = h.middle ∷ k.values;
            front = h.front ++ k.front;
            back = k.back;
            whole = h.whole ∙ ap (λ (x : List L). h.front ++ x) k.whole ∙ sym (append_assoc h.front k.front k.back);
            items = (h.front, k.front, refl, h.first, k.items);
            last = k.last;
          }
    ]
  ]

  -- to the steps, of which there are enough
  pub by_steps : ((n : ℕ) (lines : List L) → N lines ⊎ EndsIn M P (λ _. W n) lines → W (suc n) lines)
      → (n : ℕ) (lines : List L) (values : List X) (front back : List L) → lines ≡ front ++ back → Series P front values → M back ⊎ N back → length values < n → W n lines
  by_steps step zero lines values front back whole items last few = absurd (omega arith)
  by_steps step (suc n) lines [] front back whole items last few =
      let same : back ≡ lines = sym (whole ∙ ap (λ (x : List L). x ++ back) items) in
      step n lines (elim last [
        | inl h ↦ inr (inl (subst M same h))
        | inr h ↦ inl (subst N same h)
      ])
  by_steps step (suc n) lines (x ∷ xs) front back whole items last few =
      let few' : suc (length xs) < suc n = few in
      step n lines (inr (inr (record {
        front = items.0;
        back = items.1 ++ back;
        middle = x;
        whole = whole ∙ ap (λ (y : List L). y ++ back) items.2 ∙ append_assoc items.0 items.1 back;
        first = items.3;
        second = by_steps step n (items.1 ++ back) xs items.1 back refl items.4 last (omega (arith, few'));
      })))

module _ {L X U : Type 0} {says : L → Bool} {Follows : List L → Type 0} {b : L → Bool} {p : Part L X} {q : Part L U}
    (e : Exact says Anything p) (f : Exact says Follows q) (s : Shows b false p) (t : Shows b true q) where
  -- with no more than n parts
  pub exact-within : (n : ℕ) → Exact says Follows (within n b p q)
  exact-within zero = exact-seen_as with_none f
  exact-within (suc n) =
      exact-choice (exact-seen_as with_none f) (exact-sequence e (λ x. exact-seen_as (with_first x) (exact-within n)))
      (shows-seen_as with_none t) (shows-sequence (λ x. seen_as (with_first x) (within n b p q)) s)

  -- ---- the words of the definition

  -- no more than n parts and the end are parts and the end
  to_ended : (n : ℕ) (lines : List L) (v : List X × U) → (within n b p q).is lines v → Ended p.is q.is lines v
  to_ended zero lines v h = subst (Ended p.is q.is lines) (sym h.seen) (record { front = []; back = lines; whole = refl; items = refl; last = h.is })
  to_ended (suc n) lines v h = elim h [
    | inl h ↦ subst (Ended p.is q.is lines) (sym h.seen) (record { front = []; back = lines; whole = refl; items = refl; last = h.is })
    | inr h ↦
        let k = h.second in
        let a = to_ended n h.back k.first k.is in
        let made : Ended p.is q.is lines (with_first h.middle k.first) = record {
          front = h.front ++ a.front;
          back = a.back;
          whole = h.whole ∙ ap (λ (x : List L). h.front ++ x) a.whole ∙ sym (append_assoc h.front a.front a.back);
          items = (h.front, a.front, refl, h.first, a.items);
          last = a.last;
        } in
        subst (Ended p.is q.is lines) (sym k.seen) made
  ]

  -- no part and the end
  just_end : (lines front back : List L) (u : U) → lines ≡ front ++ back → front ≡ [] → q.is back u → Seen {V = List X × U} with_none q.is lines ([], u)
  just_end lines front back u whole none h = record { first = u; is = subst (λ (x : List L). q.is x u) (sym (whole ∙ ap (λ (x : List L). x ++ back) none)) h; seen = refl }

  -- parts that are no more than n
  from_ended : (n : ℕ) (lines : List L) (xs : List X) (u : U) (front back : List L) → lines ≡ front ++ back → Series p.is front xs → q.is back u → length xs ≤ n → (within n b p q).is lines (xs, u)
  from_ended zero lines [] u front back whole items h few = just_end lines front back u whole items h
  from_ended zero lines (x ∷ xs) u front back whole items h few = absurd (let k : suc (length xs) ≤ 0 = few in omega arith)
  from_ended (suc n) lines [] u front back whole items h few = inl (just_end lines front back u whole items h)
  from_ended (suc n) lines (x ∷ xs) u front back whole items h few =
      let few' : suc (length xs) ≤ suc n = few in
      inr (record {
        front = items.0;
        back = items.1 ++ back;
        middle = x;
        whole = whole ∙ ap (λ (y : List L). y ++ back) items.2 ∙ append_assoc items.0 items.1 back;
        first = items.3;
        second = record { first = (xs, u); is = from_ended n (items.1 ++ back) xs u items.1 back refl items.4 h (omega (arith, few')); seen = refl };
      })

  -- what may go on
  abbrev Live : List L → Type 0
  Live = (until b p q).live

  -- where a name is due
  abbrev Due : List L → Type 0
  Due = (until b p q).due

  -- what is live with no more than n parts is live
  to_live : (n : ℕ) (lines : List L) → (within n b p q).live lines → Live lines
  to_live = all_at_once p.live p.is q.live (λ n. (within n b p q).live) (λ lines h. h) (λ n lines h. h)

  -- and the other way, with parts enough
  from_live : (n : ℕ) (lines : List L) (h : Live lines) → length h.values < n → (within n b p q).live lines
  from_live n lines h few = by_steps p.live p.is q.live (λ n. (within n b p q).live) (λ n lines h. h) n lines h.values h.front h.back h.whole h.items h.last few

  -- a name that is due with no more than n parts is due
  to_due : (n : ℕ) (lines : List L) → (within n b p q).due lines → Due lines
  to_due = all_at_once p.due p.is q.due (λ n. (within n b p q).due) (λ lines h. h) (λ n lines h. h)

  -- and the other way, with parts enough
  from_due : (n : ℕ) (lines : List L) (h : Due lines) → length h.values < n → (within n b p q).due lines
  from_due n lines h few = by_steps p.due p.is q.due (λ n. (within n b p q).due) (λ n lines h. h) n lines h.values h.front h.back h.whole h.items h.last few

  -- ---- how many parts may be read doesn't matter where the lines are no more

  -- the reader of no more than n parts
  abbrev at_most : ℕ → List L → Reading L (List X × U)
  at_most n = (within n b p q).read

  -- the end alone
  abbrev end_first : U → List L → Reading L (List X × U)
  end_first u = Took (with_none u)

  -- one part before the others
  abbrev others_of : ℕ → X → List L → Reading L (List X × U)
  others_of n x mid = and_then (at_most n mid) (λ v. Took (with_first x v))

  -- the end wants a line
  end_at : (r : Reading L U) → q.read [] ≡ r → r ≡ Stop false []
  end_at (Took u rest) h =
      let k = f.took [] rest u h in
      absurd (subst (FirstIs b true) (no_front k.front rest (sym k.whole)) (t.text k.front u k.is))
  end_at (Stop true rest) h =
      let k = f.named [] rest h in
      let whole : [] ≡ k.front ++ k.line ∷ k.behind = k.whole ∙ ap (λ (x : List L). k.front ++ x) k.rest_is in
      absurd (omega (arith, ap length whole, length-append k.front (k.line ∷ k.behind), let len : length (k.line ∷ k.behind) ≡ suc (length k.behind) = refl in len))
  end_at (Stop false rest) h =
      let k = f.fits [] rest false h in
      let whole : [] ≡ rest = k.whole ∙ ap (λ (x : List L). x ++ rest) (no_front k.front rest (sym k.whole)) in
      ap (Stop false) (sym whole)

  -- where no line is left, the end's reader stops
  no_end : q.read [] ≡ Stop false []
  no_end = end_at (q.read []) refl

  -- a text of the part has a line
  not_empty : (front : List L) → FirstIs b false front → 1 ≤ length front
  not_empty [] h = absurd h
  not_empty (x ∷ front) h = omega arith

  -- what is left behind one part is shorter
  left_shorter : (lines mid : List L) (x : X) → p.read lines ≡ Took x mid → length mid < length lines
  left_shorter lines mid x h =
      let k = e.took lines mid x h in
      let one = not_empty k.front (s.text k.front x k.is) in
      omega (arith, ap length k.whole, length-append k.front mid)

  -- two choices by one test are one where their second sides are
  same_cond : (u : Bool) (x y z : Reading L (List X × U)) → y ≡ z → cond u x y ≡ cond u x z
  same_cond u x y z h = rw h refl

  -- two bounds that are no less than the lines read alike
  same_fuel : (n m : ℕ) (lines : List L) → length lines ≤ n → length lines ≤ m → at_most n lines ≡ at_most m lines
  same_fuel zero zero lines h k = refl
  same_fuel zero (suc m) [] h k = rw no_end refl
  same_fuel zero (suc m) (l ∷ lines) h k = absurd (let i : suc (length lines) ≤ 0 = h in omega arith)
  same_fuel (suc n) zero [] h k = rw no_end refl
  same_fuel (suc n) zero (l ∷ lines) h k = absurd (let i : suc (length lines) ≤ 0 = k in omega arith)
  same_fuel (suc n) (suc m) [] h k = refl
  same_fuel (suc n) (suc m) (l ∷ lines) h k =
      let i : suc (length lines) ≤ suc n = h in
      let j : suc (length lines) ≤ suc m = k in
      same_cond (b l) (and_then (q.read (l ∷ lines)) end_first) (and_then (p.read (l ∷ lines)) (others_of n)) (and_then (p.read (l ∷ lines)) (others_of m))
      (same_behind (p.read (l ∷ lines)) (others_of n) (others_of m)
      (λ x mid is.
      let short : length mid < suc (length lines) = left_shorter (l ∷ lines) mid x is in
      ap (λ (y : Reading L (List X × U)). and_then {V = List X × U} y (λ v. Took (with_first x v))) (same_fuel n m mid (omega (arith, i, short)) (omega (arith, j, short)))))

  -- parts until an end are what the bounds come to
  pub until_limit : IsLimit (λ n. within n b p q) (until b p q)
  until_limit = record {
    is_to = to_ended;
    is_from = λ lines v h. (length v.0, λ n few. from_ended n lines v.0 v.1 h.front h.back h.whole h.items h.last few);
    live_to = to_live;
    live_from = λ lines h. (suc (length h.values), λ n few. from_live n lines h (omega arith));
    due_to = to_due;
    due_from = λ lines d. (suc (length d.values), λ n few. from_due n lines d (omega arith));
    reads = λ n lines few. same_fuel n (length lines) lines few (omega arith);
  }

  -- parts until an end are read exactly
  pub exact-until : Exact says Follows (until b p q)
  exact-until = exact-limit exact-within until_limit

  -- ---- one step of the reader

  -- where no line is left, the end is wanted
  pub until_none : (until b p q).read [] ≡ Stop false []
  until_none = rw no_end refl

  -- at the end's first line the end is read
  pub until_end : (l : L) (lines : List L) → b l ≡ true → (until b p q).read (l ∷ lines) ≡ and_then (q.read (l ∷ lines)) end_first
  until_end l lines h = rw h refl

  -- at another line one part is read, and then the others
  pub until_item : (l : L) (lines mid : List L) (x : X) → b l ≡ false → p.read (l ∷ lines) ≡ Took x mid
      → (until b p q).read (l ∷ lines) ≡ and_then ((until b p q).read mid) (λ v. Took (with_first x v))
  until_item l lines mid x h is =
      let short : length mid < suc (length lines) = left_shorter (l ∷ lines) mid x is in
      let same = same_fuel (length lines) (length mid) mid (omega arith) (omega arith) in
      let one : (until b p q).read (l ∷ lines) ≡ and_then {V = List X × U} (at_most (length lines) mid) (λ v. Took (with_first x v)) = rw (h, is) refl in
      one ∙ ap (λ (y : Reading L (List X × U)). and_then {V = List X × U} y (λ v. Took (with_first x v))) same

  -- or the part stops
  pub until_stop : (l : L) (lines mid : List L) (n : Bool) → b l ≡ false → p.read (l ∷ lines) ≡ Stop n mid → (until b p q).read (l ∷ lines) ≡ Stop n mid
  until_stop l lines mid n h is = rw (h, is) refl
