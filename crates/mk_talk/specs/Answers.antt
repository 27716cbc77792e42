-- What a session answers to an order, and to several in turn.
--     Held                     what a session stands on: its tables, and how many calls of the files
--                              and of the keeper failed
--     Answer, frame_of         an answer, and its frame
--     IsAnswer files s s' order answer            the order is answered so, and leaves s'
--     AreAnswers files s s' orders answers        the orders are, each from what the one before left
use Rattle.std.specs.Prelude.{◌≡◌, ℕ, List, [], ◌∷◌, Option}
use Rattle.mk_outside.specs.Counts.{Rose}
use Rattle.mk_outside.specs.declared.tables.Tables.{Tables}
use Rattle.mk_found.specs.Effects.{Answers, Effect, Refuses, after_effect, text_answered}
use Rattle.mk_found.specs.Files.{Look}
use Rattle.mk_found.specs.Findings.{IsReached}
use Rattle.mk_session.specs.declared.status.Ended.{Ended}
use Rattle.mk_session.specs.declared.status.Ended.TheVariants as ended
use Rattle.mk_session.specs.Orders.{Order}
use Rattle.mk_session.specs.Step.{Comes, Reaches}
use Rattle.mk_talk.specs.Frames.{Done, How, NoMemory, Refused, Unread, frame, how_text}

-- what a session stands on: its tables, and how many calls of the files and of the keeper failed
pub record Held : Type 0 where
  pub tables : Tables
  pub files : ℕ
  pub keeper : ℕ

pub data Answer : Type 0 where
  Came : Effect → Answer  -- the order came to this effect
  CameUnread : Answer  -- its file couldn't be read
  CameNoMemory : Answer  -- memory was wanting before anything changed

-- how a command went that came to this effect
abbrev pub how_came : Effect → How
how_came (Refuses line) = Refused
how_came (Answers batch text) = Done

abbrev pub how_of : Answer → How
how_of (Came effect) = how_came effect
how_of CameUnread = Unread
how_of CameNoMemory = NoMemory

-- the bytes of the answer, which are those that a script writes
abbrev pub text_of : Answer → List ℕ
text_of (Came effect) = text_answered effect
text_of CameUnread = []
text_of CameNoMemory = []

abbrev pub frame_of : Answer → List ℕ
frame_of answer = frame (how_of answer) (text_of answer)

-- the order is done, and comes to this effect
pub record IsDoneTo (look : Option Look) (s s' : Held) (order : Order) (effect : Effect) : Type 0 where
  pub comes : Comes look s.tables order effect
  pub tables : s'.tables ≡ after_effect effect s.tables
  pub files : s'.files ≡ s.files
  pub keeper : s'.keeper ≡ s.keeper

-- a file isn't read whose turn it is, and nothing changes
pub record IsUnread (look : Option Look) (s s' : Held) (order : Order) : Type 0 where
  pub reached : IsReached (Reaches look s.tables order)
  pub tables : s'.tables ≡ s.tables
  pub files : Rose s.files s'.files
  pub keeper : s'.keeper ≡ s.keeper

-- the order is answered so, and leaves s'
abbrev pub IsAnswer : Option Look → Held → Held → Order → Answer → Type 0
IsAnswer look s s' order (Came effect) = IsDoneTo look s s' order effect
IsAnswer look s s' order CameUnread = IsUnread look s s' order
IsAnswer look s s' order CameNoMemory = s' ≡ s

-- the orders are answered so, each from what the one before left
abbrev pub AreAnswers : Option Look → Held → Held → List Order → List Answer → Type 0
AreAnswers look s s' [] [] = s' ≡ s
AreAnswers look s s' [] (answer ∷ answers) = ⊥
AreAnswers look s s' (order ∷ orders) [] = ⊥
AreAnswers look s s' (order ∷ orders) (answer ∷ answers) =
    (between : Held) × IsAnswer look s between order answer × AreAnswers look between s' orders answers

-- ---- as the code says how it ended

abbrev pub how_ended : Ended → How
how_ended ended.Done = Done
how_ended ended.Refused = Refused

abbrev pub how_ended_text : Ended → List ℕ
how_ended_text e = how_text (how_ended e)
