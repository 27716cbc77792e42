-- Where no line of a part may say its name, and where one may behind lines that aren't looked at.
use Rattle.std.proofs.Common.{◌≡◌, ℕ, zero, suc, Bool, Option, List, [], length, sym, ap, inl, inr, arith}
use Rattle.std.proofs.lemmas.List.{append-nil, length-append}
use Rattle.mk_form.specs.Exact.{Part, NeverDue, AtOnce}
use Rattle.mk_form.specs.Lines.{give, line}
use Rattle.mk_form.specs.Sequence.{sequence}
use Rattle.mk_form.specs.Seen.{seen_as, with_lines}
use Rattle.mk_form.specs.Rows.{rows, any_lines}
use Rattle.mk_form.specs.Choice.{choice}
use Rattle.mk_form.specs.Until.{until}
use Rattle.mk_form.specs.Either.{either}
use Rattle.mk_form.specs.InWords.{InWords}
use Rattle.mk_form.specs.ToEnd.{lines_to_end, up_to}

-- a name due in two parts in a row is due in the first, where none is in the second
pub due_in_first : {L X V : Type 0} (p : Part L X) (q : X → Part L V) → ((x : X) → NeverDue (q x)) → (lines : List L) → (sequence p q).due lines → p.due lines
due_in_first p q none lines d = elim d [ inl d ↦ d | inr d ↦ absurd ((none d.middle).never d.back d.second) ]

-- in no line
pub never-give : {L V : Type 0} (v : V) → NeverDue (give {L = L} v)
never-give v = record { never = λ lines d. d }

-- in one line
pub never-line : {L V : Type 0} (f : L → Option V) → NeverDue (line f)
never-line f = record { never = λ lines d. d }

-- in lines to the end
pub never-lines_to_end : {L : Type 0} (b : L → Bool) → NeverDue (lines_to_end b)
never-lines_to_end b = record { never = λ lines d. d }

-- in one part and then another
pub never-sequence : {L X V : Type 0} {p : Part L X} {q : X → Part L V} → NeverDue p → ((x : X) → NeverDue (q x)) → NeverDue (sequence p q)
never-sequence {p} {q} first second = record { never = λ lines d. first.never lines (due_in_first p q second lines d) }

-- in a value seen as another
pub never-seen_as : {L X V : Type 0} {p : Part L X} (f : X → V) → NeverDue p → NeverDue (seen_as f p)
never-seen_as f none = record { never = none.never }

-- in a value with its lines
pub never-with_lines : {L V : Type 0} {p : Part L V} → NeverDue p → NeverDue (with_lines p)
never-with_lines none = record { never = none.never }

-- in rows, one after the other
never_in_rows : {L X : Type 0} (n : ℕ) (p : Part L X) → NeverDue p → (lines : List L) → (rows n p).due lines → ⊥
never_in_rows zero p none lines d = d
never_in_rows (suc n) p none lines d = elim d [ inl d ↦ none.never lines d | inr d ↦ never_in_rows n p none d.back d.second ]

-- in a part a number of times
pub never-rows : {L X : Type 0} {p : Part L X} (n : ℕ) → NeverDue p → NeverDue (rows n p)
never-rows {p} n none = record { never = never_in_rows n p none }

-- in one of two by the first line
pub never-choice : {L V : Type 0} (b : L → Bool) {p q : Part L V} → NeverDue p → NeverDue q → NeverDue (choice b p q)
never-choice b first second = record { never = λ lines d. elim d [ inl d ↦ first.never lines d | inr d ↦ second.never lines d ] }

-- in parts until an end
pub never-until : {L X U : Type 0} (b : L → Bool) {p : Part L X} {q : Part L U} → NeverDue p → NeverDue q → NeverDue (until b p q)
never-until b first second = record { never = λ lines d. elim d.last [ inl h ↦ first.never d.back h | inr h ↦ second.never d.back h ] }

-- in lines up to a separator
pub never-up_to : {L V : Type 0} (b : L → Bool) {p : Part L V} → NeverDue p → NeverDue (up_to b p)
never-up_to b none = record { never = λ lines d. none.never d.back d.here }

-- in lines that aren't looked at
pub never-any_lines : {L : Type 0} (n : ℕ) → NeverDue (any_lines {L = L} n)
never-any_lines n = record { never = λ lines d. d }

-- in one of two that both run to the end, where the name is asked for in the second
pub never-either : {L V : Type 0} (p : Part L V) {q : Part L V} → NeverDue q → NeverDue (either p q)
never-either p second = record { never = second.never }

-- in the same part in other words
pub never-in_words : {L V : Type 0} {p q : Part L V} → InWords p q → NeverDue p → NeverDue q
never-in_words w none = record { never = λ lines d. none.never lines (w.due_from lines d) }

-- a name due behind n lines, in a part where it is due at once, is due behind exactly n lines
pub due_behind_any : {L V : Type 0} (n : ℕ) (p : Unit {0} → Part L V)
    → ((u : Unit {0}) (lines : List L) → (p u).due lines → AtOnce lines) → (lines : List L)
    → (sequence (any_lines n) p).due lines → length lines ≡ n
due_behind_any n p at_once lines d = elim d [
  | inl d ↦ absurd d
  | inr d ↦ omega (arith, ap length d.whole, length-append d.front d.back, ap length (at_once d.middle d.back d.second), d.first)
]

-- and there it is
pub due_behind_exactly : {L V : Type 0} (n : ℕ) (p : Unit {0} → Part L V) → (p tt).due [] → (lines : List L) → length lines ≡ n → (sequence (any_lines n) p).due lines
due_behind_exactly n p due lines many = inr (record { front = lines; back = []; middle = tt; whole = sym (append-nil lines); first = many; second = due })
