-- The codes that are left from a place on, as `Codes` gives them.
--     CodesLeft            what is seen of a `Codes`: its query, its place and what it owes
--     IsMadeFrom query place left      as it is made from a place
--     IsTurn old new turn  a code is taken out, or the place moves, or there is none
--     IsTaken old new b    the least code that is left is taken, and the place is behind it; or
--                          there is none
--     AreLeft left codes   these are the codes that are left, in rising order
use Rattle.std.specs.Prelude.{◌≡◌, ◌≤◌, ◌+◌, ◌==◌, if◌then◌else◌, ℕ, Bool, true, false, List, [], ◌∷◌, ◌++◌, Option, Some, None, length, take}
use Rattle.std.specs.Borrow.{Bor}
use Rattle.mk_text.specs.Rising.{IsBelow, IsFrom, IsLeast, IsLeastFrom, IsRisingListOfAll}
use Rattle.mk_model.specs.declared.turn.Turn.{Turn}
use Rattle.mk_model.specs.declared.turn.Turn.TheVariants.{Item, Moved, End}
use Rattle.mk_model.specs.Nodes.{BeginsCode, Pays, SameFrom}
use Rattle.mk_model.specs.Queries.{QueryView, slots_of}
use Rattle.mk_model.specs.Logic.{IsValid}
use Rattle.mk_choice.specs.declared.frames.Frames.{Frames}
use Rattle.mk_choice.specs.Frames.{AreFrames, from_of}

-- what is seen of a `Codes`: its query, the place from which codes are left, and what is owed there
pub record CodesLeft : Type 0 where
  pub query : QueryView
  pub place : List ℕ
  pub debt : ℕ

-- what a `Codes` keeps beside: bounds of its query; frames, from which the same codes are left as
-- from the place, and what they come to isn't below the place, and is above it but where something
-- is owed; room for a further place
pub record IsReady (query : QueryView) (most : List ℕ) (frames : Frames) (place : List ℕ) (len debt : ℕ) : Type 0 where
  pub frames_are : AreFrames query most frames
  pub within : len ≤ length place
  pub room : 514 ≤ length place
  pub same : SameFrom (IsValid query) (take len place) (from_of frames)
  pub up : IsBelow (from_of frames) (take len place) → ⊥
  pub owed : debt ≡ 0 → IsBelow (take len place) (from_of frames)

-- The codes are those from the place on, and no more is owed than the place has numbers; where the
-- root has no slots, it may be one more. Where no structural code begins with the place, nothing is.
pub record IsMadeFrom (query : QueryView) (place : List ℕ) (left : CodesLeft) : Type 0 where
  pub query_is : left.query ≡ query
  pub place_is : left.place ≡ place
  pub few : left.debt ≤ length place + (if length (slots_of query 0) == 0 then 1 else 0)
  pub unowed : (BeginsCode query place → ⊥) → left.debt ≡ 0

-- a code is the least that is left, and the place is behind it
pub record IsNext (old new : CodesLeft) (code : List ℕ) : Type 0 where
  pub least : IsLeast old.place (IsValid old.query) code
  pub query : new.query ≡ old.query
  pub place : new.place ≡ code ++ (0 ∷ [])

-- a code is taken, or there is none and all is as it was
abbrev pub IsTaken : CodesLeft → CodesLeft → Bool → Type 0
IsTaken old new true = (code : List ℕ) × IsNext old new code
IsTaken old new false = IsLeastFrom old.place (IsValid old.query) None × (new ≡ old)

-- the code is taken, or there is none and all is as it was
abbrev pub IsNextOf : CodesLeft → Option (Bor (List ℕ)) → CodesLeft → Type 0
IsNextOf old None new = IsLeastFrom old.place (IsValid old.query) None × (new ≡ old)
IsNextOf old (Some code) new = IsNext old new code.now

-- ---- turns

-- none is taken out: the same codes are left from the new place, which has at most 512 numbers
pub record IsMoved (old new : CodesLeft) : Type 0 where
  pub query : new.query ≡ old.query
  pub same : SameFrom (IsValid old.query) old.place new.place
  pub few : length new.place ≤ 512

-- what a turn passes, and owes before and behind it
abbrev pub IsPaid : CodesLeft → CodesLeft → Type 0
IsPaid old new = Pays (BeginsCode old.query) old.place old.debt new.place new.debt

-- the first code is taken out; or none, and the place is further on; or none is left
abbrev pub IsTurn : CodesLeft → CodesLeft → Turn → Type 0
IsTurn old new Item = ((code : List ℕ) × IsNext old new code) × IsPaid old new
IsTurn old new Moved = IsMoved old new × IsPaid old new
IsTurn old new End = IsLeastFrom old.place (IsValid old.query) None × (new ≡ old)

-- ---- laws

-- the codes are those that are left, in rising order
abbrev pub AreLeft : CodesLeft → List (List ℕ) → Type 0
AreLeft left codes = IsRisingListOfAll (IsFrom (IsValid left.query) left.place) codes

-- a code that is taken is the first of those left before, and what is left behind it are the others
abbrev pub NextIsFirst : Type 0
NextIsFirst =
    (old new : CodesLeft) (code : List ℕ) (codes : List (List ℕ)) → IsNext old new code
    → AreLeft new codes → AreLeft old (code ∷ codes)

-- where none is taken none was left
abbrev pub NoneIsLeft : Type 0
NoneIsLeft = (old : CodesLeft) → IsLeastFrom old.place (IsValid old.query) None → AreLeft old []

-- between a code that is taken and the one taken next stands no valid code
abbrev pub NoneBetween : Type 0
NoneBetween =
    (old middle new : CodesLeft) (code later : List ℕ) → IsNext old middle code → IsNext middle new later
    → IsBelow code later × ((other : List ℕ) → IsValid old.query other → IsBelow code other → IsBelow other later → ⊥)

-- no valid code begins another
abbrev pub NoValidBeginsAnother : Type 0
NoValidBeginsAnother =
    (query : QueryView) (code more : List ℕ) → IsValid query code → IsValid query (code ++ more) → more ≡ []
