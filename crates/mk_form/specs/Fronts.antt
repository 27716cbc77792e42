-- What a front is, which line of a text is bad, and what line is named.
--
-- A form of text is a relation between a whole list of lines and a value: `Is lines value` says
-- that the lines are a text of the form, and that this is its value. Lines count from 1.
--     IsFront Is lines               some further lines, or none, make the lines a text of the form
--     IsBadLine Is lines k           k is the bad line of lines that are no text of the form
--     IsNamed Due says lines k       line k says its name where a line is due that may say it
-- In the crates above a line that may say its name is the counts line of a table, and the name that
-- it says is V3000. For a form that may stand in the middle of a longer text:
--     IsPart Is lines count value    the first count of the lines are a text of the form
--     IsBadLineOfPart Is lines k     k is the bad line of lines that don't begin with a text of the
--                                    form
--     IsPartFrom, IsBadLineFrom, IsNamedFrom     the same behind the first lines of a longer text
--
-- What may still go on is a front. A form may let more go on, as where a text that is cut inside a
-- line of several pieces isn't bad yet, whether or not the line can still be mended. Such a form
-- has a predicate `Live` in place of its fronts.
use Rattle.std.specs.Prelude.{◌≡◌, ℕ, ◌+◌, ◌-◌, ◌≤◌, ◌<◌, Bool, IsTrue, List, ◌∷◌, ◌++◌, length, take, drop}

-- some further lines, or none, make these lines a text of the form
abbrev pub IsFront : {L V : Type 0} → (List L → V → Type 0) → List L → Type 0
IsFront {L} {V} Is lines = (more : List L) × (value : V) × Is (lines ++ more) value

-- ---- the bad line

-- Line k is the least for which lines 1 to k aren't live, or the number of lines plus 1 where there
-- is none.
pub record IsStop {L : Type 0} (Live : List L → Type 0) (lines : List L) (k : ℕ) : Type 0 where
  -- k counts one of the lines, or is one more than their number
  pub counted : (1 ≤ k) × (k ≤ length lines + 1)
  -- fewer lines than k are live
  pub before : (j : ℕ) → j < k → Live (take j lines)
  -- and with line k, if there is one, they are not
  pub here : k ≤ length lines → ¬ (Live (take k lines))

-- The bad line of lines that are no text of the form, where `Live` says what may still go on.
pub record IsBadLineWhere {L V : Type 0} (Live : List L → Type 0) (Is : List L → V → Type 0) (lines : List L) (k : ℕ) : Type 0 where
  pub no_text : (value : V) → ¬ (Is lines value)
  pub stop : IsStop Live lines k

-- The bad line of lines that are no text of the form: the least k for which lines 1 to k are no
-- front, or the number of lines plus 1.
abbrev pub IsBadLine : {L V : Type 0} → (List L → V → Type 0) → List L → ℕ → Type 0
IsBadLine Is lines k = IsBadLineWhere (IsFront Is) Is lines k

-- ---- the name of a line

-- Line k says its name, and after exactly the lines before it a line is due that may say it.
pub record IsNamed {L : Type 0} (Due : List L → Type 0) (says : L → Bool) (lines : List L) (k : ℕ) : Type 0 where
  pub before : List L
  pub line : L
  pub behind : List L
  pub whole : lines ≡ before ++ line ∷ behind
  pub place : k ≡ length before + 1
  pub due : Due before
  pub says_so : IsTrue (says line)

-- ---- a part at the beginning of the lines

-- the first count of the lines are a text of the form, with this value
pub record IsPart {L V : Type 0} (Is : List L → V → Type 0) (lines : List L) (count : ℕ) (value : V) : Type 0 where
  pub within : count ≤ length lines
  pub is : Is (take count lines) value

-- The bad line of lines that don't begin with a text of the form, where `Live` says what may still
-- go on.
pub record IsBadLineOfPartWhere {L V : Type 0} (Live : List L → Type 0) (Is : List L → V → Type 0) (lines : List L) (k : ℕ) : Type 0 where
  pub no_text : (count : ℕ) (value : V) → ¬ (IsPart Is lines count value)
  pub stop : IsStop Live lines k

-- The bad line of lines that don't begin with a text of the form: the least k for which lines 1 to
-- k are no front, or the number of lines plus 1.
abbrev pub IsBadLineOfPart : {L V : Type 0} → (List L → V → Type 0) → List L → ℕ → Type 0
IsBadLineOfPart Is lines k = IsBadLineOfPartWhere (IsFront Is) Is lines k

-- ---- a part behind the first lines of a longer text, whose lines count from its beginning

-- behind the first `at` lines and up to the first `next` the lines are a text of the form, with
-- this value
pub record IsPartFrom {L V : Type 0} (Is : List L → V → Type 0) (at : ℕ) (lines : List L) (next : ℕ) (value : V) : Type 0 where
  pub from : at ≤ next
  pub part : IsPart Is (drop at lines) (next - at) value

-- Line k is the bad line of the lines behind the first `at`, where `Live` says what may still go
-- on.
pub record IsBadLineFromWhere {L V : Type 0} (Live : List L → Type 0) (Is : List L → V → Type 0) (at : ℕ) (lines : List L) (k : ℕ) : Type 0 where
  pub from : at < k
  pub bad : IsBadLineOfPartWhere Live Is (drop at lines) (k - at)

-- line k is the bad line of the lines behind the first `at`
abbrev pub IsBadLineFrom : {L V : Type 0} → (List L → V → Type 0) → ℕ → List L → ℕ → Type 0
IsBadLineFrom Is at lines k = IsBadLineFromWhere (IsFront Is) Is at lines k

-- Line k says its name, and after exactly the lines between the first `at` and it a line is due
-- that may say it.
pub record IsNamedFrom {L : Type 0} (Due : List L → Type 0) (says : L → Bool) (at : ℕ) (lines : List L) (k : ℕ) : Type 0 where
  pub from : at < k
  pub named : IsNamed Due says (drop at lines) (k - at)
