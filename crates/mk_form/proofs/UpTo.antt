-- Lines up to a separator are read exactly.
use Rattle.std.proofs.Common.{◌≡◌, suc, ◌<◌, Bool, true, false, cond, Option, Some, None, List, [], ◌∷◌, ◌++◌, length, refl, sym, ap, subst, ◌∙◌, inl, inr, arith}
use Rattle.std.specs.Prelude.{◌⊎◌}
use Rattle.std.proofs.lemmas.List.{append-nil}
use Rattle.mk_form.specs.Reading.{Reading, Took, Stop, and_then}
use Rattle.mk_form.specs.Exact.{Part, Exact, LiveBefore, NamedAt, NoLines}
use Rattle.mk_form.specs.ToEnd.{EachIs, EndsBehind, read_up_to, up_to}
use Rattle.mk_form.proofs.Cuts.{split_at, too_long}
use Rattle.mk_form.proofs.Readings.{took_both, stopped}
use Rattle.mk_form.proofs.ToEnd.{split_if, whole_is, each-shorter}

module _ {L V : Type 0} {says : L → Bool} (b : L → Bool) {p : Part L V} (e : Exact says NoLines p) where
  -- the lines before the separator, and the value behind it
  abbrev Value : Type 0
  Value = List L × Option V

  -- a text of lines up to a separator
  abbrev Is : List L → Value → Type 0
  Is = (up_to b p).is

  -- what may go on
  abbrev Live : List L → Type 0
  Live = (up_to b p).live

  -- where a name is due
  abbrev Due : List L → Type 0
  Due = (up_to b p).due

  -- the reader up to a separator
  abbrev read : List L → Reading L Value
  read = (up_to b p).read

  -- at the separator
  abbrev stop_with : V → List L → Reading L Value
  stop_with v = Took ([], Some v)

  -- at a line before it
  abbrev go_with : L → Value → List L → Reading L Value
  go_with l d = Took (l ∷ d.0, d.1)

  -- the first line is the separator, or it is not
  abbrev Branches : L → List L → Reading L Value → Type 0
  Branches l lines r = ((b l ≡ true) × (and_then (p.read lines) stop_with ≡ r)) ⊎ ((b l ≡ false) × (and_then (read lines) (go_with l) ≡ r))

  -- what was read was read in one of the two ways
  branches : (l : L) (lines : List L) (r : Reading L Value) → read (l ∷ lines) ≡ r → Branches l lines r
  branches l lines r h = split_if (b l) (and_then (p.read lines) stop_with) (and_then (read lines) (go_with l)) r h

  -- a stop is that of the reader that goes on
  part_stopped : (lines rest : List L) (n : Bool) → and_then (p.read lines) stop_with ≡ Stop n rest → p.read lines ≡ Stop n rest
  part_stopped lines rest n h = elim (stopped (p.read lines) stop_with n rest h) [ inl k ↦ k | inr k ↦ absurd (let i = k.second in cc) ]

  -- the same of a line before it
  rest_stopped : (l : L) (lines rest : List L) (n : Bool) → and_then (read lines) (go_with l) ≡ Stop n rest → read lines ≡ Stop n rest
  rest_stopped l lines rest n h = elim (stopped (read lines) (go_with l) n rest h) [ inl k ↦ k | inr k ↦ absurd (let i = k.second in cc) ]

  -- one more line before a text
  cons_is : (l : L) (lines : List L) (d : Value) → b l ≡ false → Is lines d → Is (l ∷ lines) (l ∷ d.0, d.1)
  cons_is l lines (ds, None) misses h = record { none = (misses, h.none); rest = ap (λ (x : List L). l ∷ x) h.rest }
  cons_is l lines (ds, Some v) misses h =
      let r = h.rest in
      record { none = (misses, h.none); rest = record { separator = r.separator; back = r.back; whole = ap (λ (x : List L). l ∷ x) r.whole; separates = r.separates; after = r.after } }

  -- a separator before a text of the part
  here_is : (l : L) (lines : List L) (v : V) → b l ≡ true → p.is lines v → Is (l ∷ lines) ([], Some v)
  here_is l lines v holds h = record { none = tt; rest = record { separator = l; back = lines; whole = refl; separates = holds; after = h } }

  -- what is read is a text
  up_to_took : (lines rest : List L) (d : Value) → read lines ≡ Took d rest → (rest ≡ []) × Is lines d
  up_to_took [] rest d h =
      let same : d ≡ ([], None) = cc in
      (cc, subst (Is []) (sym same) (record { none = tt; rest = refl }))
  up_to_took (l ∷ lines) rest d h = elim (branches l lines (Took d rest) h) [
    | inl h ↦
        let k = took_both (p.read lines) stop_with d rest h.1 in
        let one = e.took lines k.left k.middle k.first in
        let last = k.second in
        let same : d ≡ ([], Some k.middle) = cc in
        let end : rest ≡ [] = (let i : k.left ≡ rest = cc in sym i ∙ one.follows) in
        let is : p.is lines k.middle = subst (λ (x : List L). p.is x k.middle) (whole_is lines one.front k.left one.whole one.follows) one.is in
        (end, subst (Is (l ∷ lines)) (sym same) (here_is l lines k.middle h.0 is))
    | inr h ↦
        let k = took_both (read lines) (go_with l) d rest h.1 in
        let one = up_to_took lines k.left k.middle k.first in
        let last = k.second in
        let same : d ≡ (l ∷ k.middle.0, k.middle.1) = cc in
        let end : rest ≡ [] = (let i : k.left ≡ rest = cc in sym i ∙ one.0) in
        (end, subst (Is (l ∷ lines)) (sym same) (cons_is l lines k.middle h.0 one.1))
  ]

  -- each text is read
  up_to_again : (ds : List L) (lines : List L) (o : Option V) → Is lines (ds, o) → read lines ≡ Took (ds, o) []
  up_to_again [] lines None h = rw h.rest refl
  up_to_again [] lines (Some v) h =
      let r = h.rest in
      let back : p.read r.back ≡ Took v [] = ap p.read (sym (append-nil r.back)) ∙ e.again r.back [] v r.after refl in
      ap read r.whole ∙ rw (r.separates, back) refl
  up_to_again (x ∷ ds) lines None h = ap read h.rest ∙ rw (h.none.0, up_to_again ds ds None (record { none = h.none.1; rest = refl })) refl
  up_to_again (x ∷ ds) lines (Some v) h =
      let r = h.rest in
      let back = up_to_again ds (ds ++ r.separator ∷ r.back) (Some v)
      (record {
        none = h.none.1;
        rest = record {
          separator = r.separator;
          back = r.back;
          whole = refl;
          separates = r.separates;
          after = r.after;
        };
      }) in
      ap read r.whole ∙ rw (h.none.0, back) refl

  -- ---- what may go on

  -- one more line before what is live
  cons_live : (l : L) (lines : List L) → b l ≡ false → Live lines → Live (l ∷ lines)
  cons_live l lines misses h = elim h [
    | inl h ↦ inl (misses, h)
    | inr h ↦ inr (record {
      before = l ∷ h.before;
      separator = h.separator;
      back = h.back;
      whole = ap (λ (x : List L). l ∷ x) h.whole;
      none = (misses, h.none);
      separates = h.separates;
      here = h.here;
    })
  ]

  -- a separator before what is live in the part
  here_live : (l : L) (lines : List L) → b l ≡ true → p.live lines → Live (l ∷ lines)
  here_live l lines holds h = inr (record { before = []; separator = l; back = lines; whole = refl; none = tt; separates = holds; here = h })

  -- the first line is the separator or stands before it, by the lines before it
  uncons_at : {N : List L → Type 0} (l : L) (lines before : List L) (separator : L) (back : List L) → l ∷ lines ≡ before ++ separator ∷ back → EachIs b false before → b separator ≡ true → N back
      → ((b l ≡ true) × N lines) ⊎ ((b l ≡ false) × EndsBehind b N lines)
  uncons_at {N} l lines [] separator back whole none holds h =
      let first : l ≡ separator = cc in
      let same : back ≡ lines = cc in
      inl (ap b first ∙ holds, subst N same h)
  uncons_at l lines (x ∷ before) separator back whole none holds h =
      let first : l ≡ x = cc in
      inr (ap b first ∙ none.0, record { before = before; separator = separator; back = back; whole = cc; none = none.1; separates = holds; here = h })

  -- the first line of what is live is the separator or stands before it
  uncons_live : (l : L) (lines : List L) → Live (l ∷ lines) → ((b l ≡ true) × p.live lines) ⊎ ((b l ≡ false) × Live lines)
  uncons_live l lines h = elim h [
    | inl h ↦ inr (h.0, inl h.1)
    | inr h ↦ elim (uncons_at {N = p.live} l lines h.before h.separator h.back h.whole h.none h.separates h.here) [
      | inl k ↦ inl k
      | inr k ↦ inr (k.0, inr k.1)
    ]
  ]

  -- the lines before a stop are live
  up_to_fits : (lines rest : List L) (n : Bool) → read lines ≡ Stop n rest → LiveBefore Live lines rest
  up_to_fits [] rest n h = absurd cc
  up_to_fits (l ∷ lines) rest n h = elim (branches l lines (Stop n rest) h) [
    | inl h ↦
        let one = e.fits lines rest n (part_stopped lines rest n h.1) in
        record { front = l ∷ one.front; whole = ap (λ (x : List L). l ∷ x) one.whole; live = here_live l one.front h.0 one.live }
    | inr h ↦
        let one = up_to_fits lines rest n (rest_stopped l lines rest n h.1) in
        record { front = l ∷ one.front; whole = ap (λ (x : List L). l ∷ x) one.whole; live = cons_live l one.front h.0 one.live }
  ]

  -- and with the line at the stop they are not
  up_to_none : (front rest : List L) (l : L) (n : Bool) → read (front ++ l ∷ rest) ≡ Stop n (l ∷ rest) → Live (front ++ l ∷ []) → ⊥
  up_to_none [] rest l n h k = elim (branches l rest (Stop n (l ∷ rest)) h) [
    | inl i ↦ let one = e.fits rest (l ∷ rest) n (part_stopped rest (l ∷ rest) n i.1) in too_long one.front rest l one.whole
    | inr i ↦ let one = up_to_fits rest (l ∷ rest) n (rest_stopped l rest (l ∷ rest) n i.1) in too_long one.front rest l one.whole
  ]
  up_to_none (y ∷ ys) rest l n h k = elim (branches y (ys ++ l ∷ rest) (Stop n (l ∷ rest)) h) [
    | inl i ↦ elim (uncons_live y (ys ++ l ∷ []) k) [
      | inl u ↦ e.none ys rest l n (part_stopped (ys ++ l ∷ rest) (l ∷ rest) n i.1) u.1
      | inr u ↦ let a = i.0 in let c = u.0 in cc
    ]
    | inr i ↦ elim (uncons_live y (ys ++ l ∷ []) k) [
      | inl u ↦ let a = i.0 in let c = u.0 in cc
      | inr u ↦ up_to_none ys rest l n (rest_stopped y (ys ++ l ∷ rest) (l ∷ rest) n i.1) u.1
    ]
  ]

  -- a line that says its name where one is due is named
  up_to_due : (before front rest : List L) (separator l : L) (back : List L) → front ≡ before ++ separator ∷ back
      → EachIs b false before → b separator ≡ true → p.due back → says l ≡ true
      → read (front ++ l ∷ rest) ≡ Stop true (l ∷ rest)
  up_to_due [] front rest separator l back whole none holds d h = ap (λ (x : List L). read (x ++ l ∷ rest)) whole ∙ rw (holds, e.due back rest l d h) refl
  up_to_due (x ∷ before) front rest separator l back whole none holds d h =
      ap (λ (x : List L). read (x ++ l ∷ rest)) whole ∙ rw (none.0, up_to_due before (before ++ separator ∷ back) rest separator l back refl none.1 holds d h) refl

  -- no other line is named
  up_to_named : (lines rest : List L) → read lines ≡ Stop true rest → NamedAt says Due lines rest
  up_to_named [] rest h = absurd cc
  up_to_named (l ∷ lines) rest h = elim (branches l lines (Stop true rest) h) [
    | inl h ↦
        let one = e.named lines rest (part_stopped lines rest true h.1) in
        record {
          front = l ∷ one.front;
          line = one.line;
          behind = one.behind;
          whole = ap (λ (x : List L). l ∷ x) one.whole;
          rest_is = one.rest_is;
          due = record { before = []; separator = l; back = one.front; whole = refl; none = tt; separates = h.0; here = one.due };
          says_so = one.says_so;
        }
    | inr h ↦
        let one = up_to_named lines rest (rest_stopped l lines rest true h.1) in
        let d = one.due in
        record {
          front = l ∷ one.front;
          line = one.line;
          behind = one.behind;
          whole = ap (λ (x : List L). l ∷ x) one.whole;
          rest_is = one.rest_is;
          due = record { before = l ∷ d.before; separator = d.separator; back = d.back; whole = ap (λ (x : List L). l ∷ x) d.whole; none = (h.0, d.none); separates = d.separates; here = d.here };
          says_so = one.says_so;
        }
  ]

  -- a text is live
  up_to_live : (lines ds : List L) (o : Option V) → Is lines (ds, o) → Live lines
  up_to_live lines ds None h = inl (subst (EachIs b false) (sym h.rest) h.none)
  up_to_live lines ds (Some v) h = let r = h.rest in inr
      (record {
        before = ds;
        separator = r.separator;
        back = r.back;
        whole = r.whole;
        none = h.none;
        separates = r.separates;
        here = e.live r.back v r.after;
      })

  -- the first lines of what is live are live
  up_to_shorter : (front more : List L) → Live (front ++ more) → Live front
  up_to_shorter front more h = elim h [
    | inl h ↦ inl (each-shorter b false front more h)
    | inr h ↦ elim (split_at front more h.before h.separator h.back h.whole) [
      | inl s ↦ inl (each-shorter b false front s.between (subst (EachIs b false) s.front_is h.none))
      | inr s ↦ inr (record {
        before = h.before;
        separator = h.separator;
        back = s.between;
        whole = s.front_is;
        none = h.none;
        separates = h.separates;
        here = e.shorter s.between more (subst p.live s.more_is h.here);
      })
    ]
  ]

  -- lines up to a separator are read exactly
  pub exact-up_to : Exact says NoLines (up_to b p)
  exact-up_to = record {
    took = λ lines rest d h.
        let k = up_to_took lines rest d h in
        record { front = lines; whole = sym (ap (λ (x : List L). lines ++ x) k.0 ∙ append-nil lines); is = k.1; follows = k.0 };
    again = λ front rest d h end. ap read (ap (λ (x : List L). front ++ x) end ∙ append-nil front) ∙ up_to_again d.0 front d.1 h ∙ ap (Took d) (sym end);
    fits = up_to_fits;
    none = up_to_none;
    due = λ front rest l d h. up_to_due d.before front rest d.separator l d.back d.whole d.none d.separates d.here h;
    named = up_to_named;
    live = λ lines d h. up_to_live lines d.0 d.1 h;
    shorter = up_to_shorter;
    ends = λ front more l d h end k. cc;
  }

-- two readers of what stands behind the separator that agree on fewer lines are one
pub same_up_to : {L V : Type 0} (b : L → Bool) (r s : List L → Reading L V) (lines : List L)
    → ((rest : List L) → length rest < length lines → r rest ≡ s rest) → read_up_to b r lines ≡ read_up_to b s lines
same_up_to b r s [] same = refl
same_up_to {L} {V} b r s (l ∷ lines) same =
    let behind = same lines (let e : length lines < suc (length lines) = omega arith in e) in
    let others = same_up_to b r s lines (λ rest lt. same rest (let e : length rest < suc (length lines) = omega arith in e)) in
    same_cond (b l) _ _ _ _ (ap (λ (x : Reading L V). let w : Reading L (List L × Option V) = and_then x (λ v. Took ([], Some v)) in w) behind)
    (ap (λ (x : Reading L (List L × Option V)). let w : Reading L (List L × Option V) = and_then x (λ d. Took (l ∷ d.0, d.1)) in w) others)
  where
    -- two choices by one test are one where their sides are
    same_cond : {A : Type 0} (t : Bool) (x y z w : A) → x ≡ z → y ≡ w → cond t x y ≡ cond t z w
    same_cond t x y z w e f = rw (e, f) refl

-- ---- what is read of lines up to a separator, where it is known where that stands

-- two steps that only put a value into another are one
pub put_twice : {L V W X : Type 0} (reading : Reading L V) (f : V → W) (g : W → X) → and_then (and_then reading (λ v. Took (f v))) (λ w. Took (g w)) ≡ and_then reading (λ v. Took (g (f v)))
put_twice (Took v rest) f g = refl
put_twice (Stop n rest) f g = refl

-- the separator is the first line that passes
pub up_to_separator : {L V : Type 0} (b : L → Bool) (s : List L → Reading L V) (before rest : List L) (l : L)
    → EachIs b false before → b l ≡ true → read_up_to b s (before ++ l ∷ rest) ≡ and_then (s rest)
    (λ v. Took (before, Some v))
up_to_separator b s [] rest l none e = rw e refl
up_to_separator {L} {V} b s (x ∷ before) rest l none e =
    rw none.0 (ap (λ (r : Reading L (List L × Option V)). let w : Reading L (List L × Option V) = and_then r
    (λ d. Took (x ∷ d.0, d.1)) in w) (up_to_separator b s before rest l none.1 e)
    ∙ put_twice (s rest) (λ v. (before, Some v)) (λ d. (x ∷ d.0, d.1)))

-- and no line passes
pub up_to_end : {L V : Type 0} (b : L → Bool) (s : List L → Reading L V) (lines : List L) → EachIs b false lines → read_up_to b s lines ≡ Took (lines, None) []
up_to_end b s [] none = refl
up_to_end {L} {V} b s (x ∷ lines) none = rw none.0 (ap (λ (r : Reading L (List L × Option V)). let w : Reading L
    (List L × Option V) = and_then r (λ d. Took (x ∷ d.0, d.1)) in w) (up_to_end b s lines none.1))
