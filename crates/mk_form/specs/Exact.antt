-- What it is to read a form exactly. The laws that follow from it stand in StopLaws.antt.
--     Part L V                  a form with its reader: its texts, what may go on, where a line may
--                               be named, how it is read
--     Exact says Follows p      the reader of the part p reads it exactly, up to what may follow it
--     Completes p               what is live in the part p is a front
--     NeverDue p                no line of the part p may say its name
use Rattle.std.specs.Prelude.{◌≡◌, Bool, true, IsTrue, List, [], ◌∷◌, ◌++◌}
use Rattle.mk_form.specs.Fronts.{IsFront}
use Rattle.mk_form.specs.Reading.{Reading, Took, Stop}

-- A part of a form: lines of type L that spell a value of type V.
pub record Part (L V : Type 0) : Type 1 where
  -- the lines are a text of the part, with this value
  pub is : List L → V → Type 0
  -- the lines may still go on
  pub live : List L → Type 0
  -- after exactly these lines of the part a line is due that may say its name
  pub due : List L → Type 0
  -- the part read from the left
  pub read : List L → Reading L V

-- ---- what may follow a text of a part

-- any lines may stand behind a part that ends by itself
abbrev pub Anything : {L : Type 0} → List L → Type 0
Anything lines = Unit {0}

-- no line may stand behind a part that runs to the end
abbrev pub NoLines : {L : Type 0} → List L → Type 0
NoLines lines = lines ≡ []

-- ---- where in a part a line is due that may say its name

-- nowhere is a line due that may say its name
abbrev pub Never : {L : Type 0} → List L → Type 0
Never lines = ⊥

-- a line that may say its name is due before any line of the part
abbrev pub AtOnce : {L : Type 0} → List L → Type 0
AtOnce lines = lines ≡ []

-- ---- exactness

-- The lines are a text of the form with this value, and then the rest, which may follow it.
pub record TakesText {L V : Type 0} (Follows : List L → Type 0) (Is : List L → V → Type 0) (lines rest : List L) (value : V) : Type 0 where
  pub front : List L
  pub whole : lines ≡ front ++ rest
  pub is : Is front value
  pub follows : Follows rest

-- What stands before the rest is live.
pub record LiveBefore {L : Type 0} (Live : List L → Type 0) (lines rest : List L) : Type 0 where
  pub front : List L
  pub whole : lines ≡ front ++ rest
  pub live : Live front

-- The rest begins with a line that says its name, where one is due.
pub record NamedAt {L : Type 0} (says : L → Bool) (Due : List L → Type 0) (lines rest : List L) : Type 0 where
  pub front : List L
  pub line : L
  pub behind : List L
  pub whole : lines ≡ front ++ rest
  pub rest_is : rest ≡ line ∷ behind
  pub due : Due front
  pub says_so : IsTrue (says line)

-- The reader of the part reads it exactly. `Follows` says which lines may stand behind a text of
-- the part.
pub record Exact {L V : Type 0} (says : L → Bool) (Follows : List L → Type 0) (p : Part L V) : Type 0 where
  -- what is read is a text of the part, and what is left may follow it
  pub took : (lines rest : List L) (v : V) → p.read lines ≡ Took v rest → TakesText Follows p.is lines rest v
  -- each text of the part is read, with its value, in front of whatever may follow it
  pub again : (front rest : List L) (v : V) → p.is front v → Follows rest → p.read (front ++ rest) ≡ Took v rest
  -- where the reading stops, the lines before the stop are live
  pub fits : (lines rest : List L) (named : Bool) → p.read lines ≡ Stop named rest → LiveBefore p.live lines rest
  -- and with the line at the stop they are not
  pub none : (front rest : List L) (l : L) (named : Bool) → p.read (front ++ l ∷ rest) ≡ Stop named (l ∷ rest) → ¬ (p.live (front ++ l ∷ []))
  -- at a line that says its name where one is due, the reading stops and names it
  pub due : (front rest : List L) (l : L) → p.due front → IsTrue (says l) → p.read (front ++ l ∷ rest) ≡ Stop true (l ∷ rest)
  -- and it names no other line
  pub named : (lines rest : List L) → p.read lines ≡ Stop true rest → NamedAt says p.due lines rest
  -- a text of the part is live
  pub live : (lines : List L) (v : V) → p.is lines v → p.live lines
  -- the first lines of what is live are live
  pub shorter : (front more : List L) → p.live (front ++ more) → p.live front
  -- behind a text of the part that something may follow, the part doesn't go on
  pub ends : (front more : List L) (l : L) (v : V) → p.is front v → Follows (l ∷ more) → ¬ (p.live (front ++ l ∷ more))

-- No line of the part may say its name.
pub record NeverDue {L V : Type 0} (p : Part L V) : Type 0 where
  pub never : (lines : List L) → ¬ (p.due lines)

-- What is live in the part can be completed.
pub record Completes {L V : Type 0} (p : Part L V) : Type 0 where
  -- no line yet is live
  pub starts : p.live []
  -- and what is live is a front
  pub completed : (lines : List L) → p.live lines → IsFront p.is lines
