-- What is live is a front: each part that can be completed, and each part made of such parts.
use Rattle.std.proofs.Common.{◌≡◌, ℕ, zero, suc, ◌-◌, ◌≤◌, arith, length, Bool, true, Option, Some, None, List, [], ◌∷◌, ◌++◌, refl, sym, ap, subst, ◌∙◌, append_assoc, inl, inr}
use Rattle.std.specs.Prelude.{replicate}
use Rattle.std.proofs.lemmas.List.{append-nil, length-append, length-replicate}
use Rattle.mk_form.specs.Fronts.{IsFront}
use Rattle.mk_form.specs.Reading.{Reading, Took, Stop}
use Rattle.mk_form.specs.Exact.{Part, Exact, Completes}
use Rattle.mk_form.specs.InWords.{InWords, SameForm, form, plain}
use Rattle.mk_form.specs.Lines.{give, line, counts_line, passing, line_where}
use Rattle.mk_form.specs.Sequence.{sequence}
use Rattle.mk_form.specs.Seen.{seen_as, with_lines}
use Rattle.mk_form.specs.Rows.{Series, rows, any_lines}
use Rattle.mk_form.specs.Choice.{choice}
use Rattle.mk_form.specs.Until.{until}
use Rattle.mk_form.specs.ToEnd.{EachIs, lines_to_end, up_to}
use Rattle.mk_form.specs.Either.{either}
use Rattle.mk_form.specs.StopLaws.{LivesAreFronts}
use Rattle.mk_form.proofs.Lines.{does_pass}
use Rattle.mk_form.proofs.Cuts.{no_front, regroup}
use Rattle.mk_form.proofs.InWords.{exact-in_words}
use Rattle.mk_form.proofs.Rows.{rows_none, rows_more}

-- ---- the plain part

-- the same, for what is read of no line
goes_on_at : {L V : Type 0} {says : L → Bool} {Follows : List L → Type 0} {p : Part L V} → Exact says Follows p → (reading : Reading L V) → p.read [] ≡ reading → p.live []
goes_on_at {p} e (Took v rest) h = let k = e.took [] rest v h in subst p.live (no_front k.front rest (sym k.whole)) (e.live k.front v k.is)
goes_on_at {p} e (Stop n rest) h = let k = e.fits [] rest n h in subst p.live (no_front k.front rest (sym k.whole)) k.live

-- no line yet is live in each part
pub goes_on : {L V : Type 0} {says : L → Bool} {Follows : List L → Type 0} {p : Part L V} → Exact says Follows p → p.live []
goes_on {p} e = goes_on_at e (p.read []) refl

-- fronts are live
pub front_is_live : {L V : Type 0} {says : L → Bool} {Follows : List L → Type 0} {p : Part L V} → Exact says Follows p → (lines : List L) → IsFront p.is lines → p.live lines
front_is_live e lines h = e.shorter lines h.0 (e.live (lines ++ h.0) h.1 h.2)

-- what is live is what is a front, where it can be completed
pub lives_are_fronts : {L V : Type 0} {says : L → Bool} {Follows : List L → Type 0} {p : Part L V} → Exact says Follows p → Completes p → LivesAreFronts p
lives_are_fronts e c lines = (c.completed lines, front_is_live e lines)

-- where what is live are fronts, the part with fronts is read exactly
pub exact-plain : {L V : Type 0} {says : L → Bool} {Follows : List L → Type 0} {p : Part L V} → Exact says Follows p → Completes p → Exact says Follows (plain p)
exact-plain {p} e c =
    exact-in_words (record {
      is_to = λ lines v h. h;
      is_from = λ lines v h. h;
      live_to = c.completed;
      live_from = front_is_live e;
      due_to = λ lines h. h;
      due_from = λ lines h. h;
      reads = λ lines. refl;
    }) e

-- the part is this form, in other words, and what is live in it are its fronts
pub exact-form : {L V : Type 0} {says : L → Bool} {Follows : List L → Type 0} {p : Part L V} {Is : List L → V → Type 0}
    {Due : List L → Type 0} → Exact says Follows p → Completes p → SameForm p Is Due
    → Exact says Follows (form Is Due p.read)
exact-form {p} {Is} e c w =
    exact-in_words {p = p} (record {
      is_to = w.is_to;
      is_from = w.is_from;
      live_to = λ lines h. let k = c.completed lines h in (k.0, k.1, w.is_to (lines ++ k.0) k.1 k.2);
      live_from = λ lines h. front_is_live e lines (h.0, h.1, w.is_from (lines ++ h.0) h.1 h.2);
      due_to = w.due_to;
      due_from = w.due_from;
      reads = λ lines. refl;
    }) e

-- what is live in a form are its fronts
pub completes-form : {L V : Type 0} {says : L → Bool} {Follows : List L → Type 0} {Is : List L → V → Type 0}
    {Due : List L → Type 0} {read : List L → Reading L V} → Exact says Follows (form Is Due read)
    → Completes (form Is Due read)
completes-form e = record { starts = goes_on e; completed = λ lines h. h }

-- a front of the plain part is a front
pub completes-plain : {L V : Type 0} {p : Part L V} → Completes p → Completes (plain p)
completes-plain c = record { starts = c.completed [] c.starts; completed = λ lines h. h }

-- what is live in a part told in another way can be completed
pub completes-in_words : {L V : Type 0} {p q : Part L V} → InWords p q → Completes p → Completes q
completes-in_words w c = record { starts = w.live_to [] c.starts; completed = λ lines h. let k = c.completed lines (w.live_from lines h) in (k.0, k.1, w.is_to (lines ++ k.0) k.1 k.2) }

-- ---- the smallest parts

-- of no line
pub completes-give : {L V : Type 0} (v : V) → Completes (give {L = L} v)
completes-give v = record { starts = refl; completed = λ lines h. ([], v, (append-nil lines ∙ h, refl)) }

-- of one line, with a line that spells a value
line_front : {L V : Type 0} (f : L → Option V) (example : L) (value : V) → f example ≡ Some value → (lines : List L) → (line f).live lines → IsFront (line f).is lines
line_front f example value is lines h = elim h [
  | inl h ↦ (example ∷ [], value, record { line = example; whole = ap (λ (x : List _). x ++ example ∷ []) h; spells = is })
  | inr h ↦ ([], h.0, record { line = h.1.line; whole = append-nil lines ∙ h.1.whole; spells = h.1.spells })
]

-- one line, where some line spells a value
pub completes-line : {L V : Type 0} (f : L → Option V) (example : L) (value : V) → f example ≡ Some value → Completes (line f)
completes-line f example value is = record { starts = inl refl; completed = line_front f example value is }

-- one line that passes a test, where some line does
pub completes-line_where : {L : Type 0} (b : L → Bool) (example : L) → b example ≡ true → Completes (line_where b)
completes-line_where b example h = completes-line (passing b) example tt (does_pass b example h)

-- one line that may say its name, where some line spells a value
pub completes-counts_line : {L V : Type 0} (says : L → Bool) (f : L → Option V) (example : L) (value : V) → f example ≡ Some value → Completes (counts_line says f)
completes-counts_line says f example value is = record { starts = inl refl; completed = line_front f example value is }

-- ---- parts made of parts

module _ {L X V : Type 0} {p : Part L X} {q : X → Part L V} (c : Completes p) (d : (x : X) → Completes (q x)) where
  -- of two parts: where the first is cut, a text of the second follows
  both_completed : (lines : List L) → (sequence p q).live lines → IsFront (sequence p q).is lines
  both_completed lines h = elim h [
    | inl h ↦
        let one = c.completed lines h in
        let two = (d one.1).completed [] (d one.1).starts in
        (one.0 ++ two.0, two.1, record { front = lines ++ one.0; back = two.0; middle = one.1; whole = sym (append_assoc lines one.0 two.0); first = one.2; second = two.2 })
    | inr h ↦
        let two = (d h.middle).completed h.back h.second in
        (two.0, two.1, record { front = h.front; back = h.back ++ two.0; middle = h.middle; whole = regroup lines h.front h.back two.0 h.whole; first = h.first; second = two.2 })
  ]

  -- of one part and then another
  pub completes-sequence : Completes (sequence p q)
  completes-sequence = record { starts = inl c.starts; completed = both_completed }

-- of a value seen as another
pub completes-seen_as : {L X V : Type 0} {p : Part L X} (f : X → V) → Completes p → Completes (seen_as f p)
completes-seen_as f c = record { starts = c.starts; completed = λ lines h. let k = c.completed lines h in (k.0, f k.1, record { first = k.1; is = k.2; seen = refl }) }

-- of a value with its lines
pub completes-with_lines : {L V : Type 0} {p : Part L V} → Completes p → Completes (with_lines p)
completes-with_lines c = record { starts = c.starts; completed = λ lines h. let k = c.completed lines h in (k.0, (k.1, lines ++ k.0), record { is = k.2; lines_are = refl }) }

-- of a part a number of times
pub completes-rows : {L X : Type 0} {p : Part L X} (n : ℕ) → Completes p → Completes (rows n p)
completes-rows {p} zero c = completes-in_words (rows_none p) (completes-give [])
completes-rows {p} (suc n) c = completes-in_words (rows_more n p) (completes-sequence c (λ x. completes-seen_as (λ xs. x ∷ xs) (completes-rows n c)))

-- of one of two by the first line
pub completes-choice : {L V : Type 0} (b : L → Bool) {p q : Part L V} → Completes p → Completes q → Completes (choice b p q)
completes-choice b c d = record {
  starts = inl c.starts;
  completed = λ lines h. elim h [
    | inl h ↦ let k = c.completed lines h in (k.0, k.1, inl k.2)
    | inr h ↦ let k = d.completed lines h in (k.0, k.1, inr k.2)
  ];
}

-- of lines that aren't looked at: some more of them
any_completed : {L : Type 0} (example : L) (n : ℕ) (lines : List L) → length lines ≤ n → IsFront (any_lines n).is lines
any_completed example n lines le = (replicate (n - length lines) example, tt, omega (arith, length-append lines (replicate (n - length lines) example), length-replicate (n - length lines) example))

-- some lines, where there is a line at all
pub completes-any_lines : {L : Type 0} (example : L) (n : ℕ) → Completes (any_lines {L = L} n)
completes-any_lines example n = record { starts = omega arith; completed = any_completed example n }

-- one more part behind a series
pub series_push : {L X : Type 0} (P : List L → X → Type 0) (xs : List X) (front back : List L) (x : X) → Series P front xs → P back x → Series P (front ++ back) (xs ++ x ∷ [])
series_push P [] front back x h k = (back, [], ap (λ (y : List _). y ++ back) h ∙ sym (append-nil back), k, refl)
series_push P (y ∷ ys) front back x h k = (h.0, h.1 ++ back, regroup front h.0 h.1 back h.2, h.3, series_push P ys h.1 back x h.4 k)

module _ {L X U : Type 0} (b : L → Bool) {p : Part L X} {q : Part L U} (c : Completes p) (d : Completes q) where
  -- of parts until an end: where one is cut, it is completed and the end follows
  until_completed : (lines : List L) → (until b p q).live lines → IsFront (until b p q).is lines
  until_completed lines h = elim h.last [
    | inl m ↦
        let one = c.completed h.back m in
        let two = d.completed [] d.starts in
        let whole : lines ++ (one.0 ++ two.0) ≡ (h.front ++ (h.back ++ one.0)) ++ two.0 =
        sym (append_assoc lines one.0 two.0) ∙ ap (λ (x : List L). x ++ two.0)
        (regroup lines h.front h.back one.0 h.whole) in (
          one.0 ++ two.0,
          (h.values ++ one.1 ∷ [], two.1),
          record {
            front = h.front ++ (h.back ++ one.0);
            back = two.0;
            whole = whole;
            items = series_push p.is h.values h.front (h.back ++ one.0) one.1 h.items one.2;
            last = two.2;
          },
        )
    | inr m ↦
        let two = d.completed h.back m in
        (two.0, (h.values, two.1), record { front = h.front; back = h.back ++ two.0; whole = regroup lines h.front h.back two.0 h.whole; items = h.items; last = two.2 })
  ]

  -- of parts until an end
  pub completes-until : Completes (until b p q)
  completes-until = record { starts = record { values = []; front = []; back = []; whole = refl; items = refl; last = inl c.starts }; completed = until_completed }

-- of lines to the end
pub completes-lines_to_end : {L : Type 0} (b : L → Bool) → Completes (lines_to_end b)
completes-lines_to_end b = record { starts = tt; completed = λ lines h. ([], tt, subst (EachIs b true) (sym (append-nil lines)) h) }

-- of lines up to a separator
pub completes-up_to : {L V : Type 0} (b : L → Bool) {p : Part L V} → Completes p → Completes (up_to b p)
completes-up_to b {p} c = record {
  starts = inl tt;
  completed = λ lines h. elim h [
    | inl h ↦ ([], (lines, None), record { none = h; rest = append-nil lines })
    | inr h ↦
        let k = c.completed h.back h.here in (
          k.0,
          (h.before, Some k.1),
          record {
            none = h.none;
            rest = record {
              separator = h.separator;
              back = h.back ++ k.0;
              whole = regroup lines h.before (h.separator ∷ h.back) k.0 h.whole;
              separates = h.separates;
              after = k.2;
            };
          },
        )
  ];
}

-- of one of two that both run to the end
pub completes-either : {L V : Type 0} {p q : Part L V} → Completes p → Completes q → Completes (either p q)
completes-either c d = record {
  starts = inl c.starts;
  completed = λ lines h. elim h [
    | inl h ↦ let k = c.completed lines h in (k.0, k.1, inl k.2)
    | inr h ↦ let k = d.completed lines h in (k.0, k.1, inr k.2)
  ];
}
