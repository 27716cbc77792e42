-- What code knows that goes through lines by an index.
use Rattle.std.proofs.Common.{◌≡◌, ℕ, ◌+◌, ◌-◌, ◌≤◌, ◌<◌, Bool, true, false, ltb, Option, Some, None, List, [], length, get_or, drop, refl, ap, ◌∙◌, sym, arith}
use Rattle.std.proofs.lemmas.Bool.{lt-ltb, le-ltb}
use Rattle.std.proofs.lemmas.List.{drop_more, drop_all, drop-drop, length-drop}
use Rattle.mk_form.specs.Either.{farther}
use Rattle.mk_form.specs.Reading.{Reading, Took, Stop, and_then, TakesLines, StopsAtLine}
use Rattle.mk_form.specs.Lines.{read_line}
use Rattle.mk_form.specs.Rows.{read_any}
use Rattle.mk_form.specs.ToEnd.{read_all}
use Rattle.mk_form.proofs.Rows.{any_enough, any_few}

-- the index of a line and its number
behind_one : {L : Type 0} (lines : List L) (at : ℕ) → drop ((at + 1) - 1) lines ≡ drop at lines
behind_one lines at = ap (λ (k : ℕ). drop k lines) (let i : (at + 1) - 1 ≡ at = omega arith in i)

module _ {L V : Type 0} (names : L → Bool) (f : L → Option V) (lines : List L) (at : ℕ) where
  -- a line is wanted, and none is left
  pub line_past : at ≡ length lines → StopsAtLine lines false (at + 1) (read_line names f (drop at lines))
  line_past e =
      let none : drop at lines ≡ [] = drop_all at lines (omega arith) in
      record { counted = (omega arith, omega arith); stop = ap (read_line names f) none ∙ ap (Stop false) (sym (behind_one lines at ∙ none)) }

  -- the line spells a value
  pub line_yes : (d : L) (v : V) → at < length lines → f (get_or lines at d) ≡ Some v → TakesLines lines (at + 1) v (read_line names f (drop at lines))
  line_yes d v lt e = record { within = omega arith; took = ap (read_line names f) (drop_more lines at d lt) ∙ rw e refl }

  -- the line spells none
  pub line_no : (d : L) (named : Bool) → at < length lines → f (get_or lines at d) ≡ None → names (get_or lines at d) ≡ named → StopsAtLine lines named (at + 1) (read_line names f (drop at lines))
  line_no d named lt e n =
      let split = drop_more lines at d lt in
      record { counted = (omega arith, omega arith); stop = ap (read_line names f) split ∙ rw (e, n) (ap (Stop named) (sym (behind_one lines at ∙ split))) }

-- there are lines enough to pass over
pub any_yes : {L : Type 0} (n at : ℕ) (lines : List L) → at + n ≤ length lines → TakesLines lines (at + n) tt (read_any n (drop at lines))
any_yes n at lines le = record { within = le; took = any_enough n (drop at lines) (omega (arith, length-drop at lines)) ∙ ap (Took tt) (drop-drop n at lines) }

-- and there are not
pub any_no : {L : Type 0} (n at : ℕ) (lines : List L) → at ≤ length lines → length lines < at + n → StopsAtLine lines false (length lines + 1) (read_any n (drop at lines))
any_no n at lines le lt =
    let none : drop ((length lines + 1) - 1) lines ≡ [] = drop_all ((length lines + 1) - 1) lines (omega arith) in
    record { counted = (omega arith, omega arith); stop = any_few n (drop at lines) (omega (arith, length-drop at lines)) ∙ ap (Stop false) (sym none) }

-- a stop of the first of two parts is a stop of both
pub stops_first : {L X V : Type 0} (lines : List L) (named : Bool) (k : ℕ) (reading : Reading L X)
    (f : X → List L → Reading L V) → StopsAtLine lines named k reading → StopsAtLine lines named k (and_then reading f)
stops_first lines named k reading f h = record { counted = h.counted; stop = ap (λ r. and_then r f) h.stop }

-- and where the first takes lines, the second goes on behind them
pub takes_first : {L X V : Type 0} (lines : List L) (count : ℕ) (x : X) (reading : Reading L X)
    (f : X → List L → Reading L V) → TakesLines lines count x reading → and_then reading f ≡ f x (drop count lines)
takes_first lines count x reading f h = ap (λ r. and_then r f) h.took

-- ---- lines to the end that all pass a test: a loop over them knows that what is left to read is what was to be read

module _ {L : Type 0} (b : L → Bool) (lines : List L) (at : ℕ) where
  -- a line that passes
  pub pass_one : (d : L) → at < length lines → b (get_or lines at d) ≡ true → read_all b (drop at lines) ≡ read_all b (drop (at + 1) lines)
  pass_one d lt e = ap (read_all b) (drop_more lines at d lt) ∙ rw e refl

  -- the first that doesn't
  pub pass_stop : (d : L) → at < length lines → b (get_or lines at d) ≡ false → StopsAtLine lines false (at + 1) (read_all b (drop at lines))
  pass_stop d lt e =
      let split = drop_more lines at d lt in
      record { counted = (omega arith, omega arith); stop = ap (read_all b) split ∙ rw e (ap (Stop false) (sym (behind_one lines at ∙ split))) }

  -- and the end
  pub pass_end : at ≡ length lines → TakesLines lines at tt (read_all b (drop at lines))
  pass_end e =
      let none : drop at lines ≡ [] = drop_all at lines (omega arith) in
      record { within = omega arith; took = ap (read_all b) none ∙ ap (Took tt) (sym none) }

-- ---- of two stops the farther

module _ {L V : Type 0} (lines : List L) (j k : ℕ) (named also : Bool) (first : (1 ≤ j) × (j ≤ length lines + 1)) (second : (1 ≤ k) × (k ≤ length lines + 1)) where
  -- the second is no nearer
  pub farther_second : j ≤ k → farther {V = V} (Stop named (drop (j - 1) lines)) (Stop also (drop (k - 1) lines)) ≡ Stop also (drop (k - 1) lines)
  farther_second le =
      let left = length-drop (j - 1) lines in
      let right = length-drop (k - 1) lines in
      let test : ltb (length (drop (j - 1) lines)) (length (drop (k - 1) lines)) ≡ false =
      le-ltb (length (drop (j - 1) lines)) (length (drop (k - 1) lines))
      (omega (arith, first.0, first.1, second.0, second.1)) in
      rw test refl

  -- the second is nearer
  pub farther_first : k < j → farther {V = V} (Stop named (drop (j - 1) lines)) (Stop also (drop (k - 1) lines)) ≡ Stop named (drop (j - 1) lines)
  farther_first lt =
      let left = length-drop (j - 1) lines in
      let right = length-drop (k - 1) lines in
      let test : ltb (length (drop (j - 1) lines)) (length (drop (k - 1) lines)) ≡ true =
      lt-ltb (length (drop (j - 1) lines)) (length (drop (k - 1) lines))
      (omega (arith, first.0, first.1, second.0, second.1)) in
      rw test refl
