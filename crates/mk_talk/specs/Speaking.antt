-- A session as the code goes on. This file serves code alone.
--     PutOrEnds ..      a piece is put, or the run ends
--     Goes ..           some orders are answered, or the run ends
--     GoesOn ..         the lines go on to the end
--     is_session kind   whether the words ask for a session
use Rattle.std.specs.Prelude.{◌≡◌, ℕ, List, [], ◌∷◌, ◌++◌, map, Bool, true, false, Option, Some, IfSome, Result, Ok, Err}
use Rattle.mk_outside.specs.declared.tables.Tables.{Tables}
use Rattle.mk_words.specs.declared.command.WordsKind.{WordsKind}
use Rattle.mk_words.specs.declared.command.WordsKind.TheVariants as words_kind
use Rattle.mk_found.specs.Files.{Look}
use Rattle.mk_session.specs.declared.status.Status.{Status}
use Rattle.mk_session.specs.declared.status.Status.TheVariants as status
use Rattle.mk_session.specs.Orders.{Order}
use Rattle.mk_session.specs.Outcomes.{Agrees}
use Rattle.mk_talk.specs.Answers.{Answer, AreAnswers, Held, frame_of}
use Rattle.mk_talk.specs.declared.event.Event.{Event}
use Rattle.mk_talk.specs.declared.event.Event.TheVariants.{Put, PutPart}
use Rattle.mk_talk.specs.Events.{Grew}
use Rattle.mk_talk.specs.Frames.{ready_text}
use Rattle.mk_talk.specs.Speaks.{IsOneLine, IsStop, IsUnput, OpenedSo, Talked}

-- a part of the piece is put, and the run ends
pub record IsPutPart (old new : Option (List Event)) (piece : List ℕ) (ends : Status) : Type 0 where
  pub part : List ℕ
  pub unput : IsUnput piece part ends
  pub grew : Grew old new (PutPart part ∷ [])

abbrev pub PutOrEnds : {A : Type 0} → Option (List Event) → Option (List Event) → List ℕ → Result A Status → Type 0
PutOrEnds old new piece (Ok done) = Grew old new (Put piece ∷ [])
PutOrEnds old new piece (Err ends) = IsPutPart old new piece ends

-- one line is put, and the run ends
pub record SaysOne (old new : Option (List Event)) (line : List ℕ) (would ends : Status) : Type 0 where
  pub events : List Event
  pub one : IsOneLine line would events ends
  pub grew : Grew old new events

-- the put of an answer's frame
abbrev pub put_of : Answer → Event
put_of answer = Put (frame_of answer)

-- the orders are answered
pub record IsAllAnswered (look : Option Look) (s s' : Held) (orders : List Order) (old new : Option (List Event)) : Type 0 where
  pub answers : List Answer
  pub are : AreAnswers look s s' orders answers
  pub grew : Grew old new (map put_of answers)

-- the first of the orders are answered, and the next stops the session
pub record IsStopped (look : Option Look) (s s' : Held) (orders : List Order) (old new : Option (List Event)) (ends : Status) : Type 0 where
  pub done : List Order
  pub order : Order
  pub others : List Order
  pub whole : orders ≡ done ++ order ∷ others
  pub between : Held
  pub answers : List Answer
  pub are : AreAnswers look s between done answers
  pub last : List Event
  pub stop : IsStop look between s' order last ends
  pub grew : Grew old new (map put_of answers ++ last)

abbrev pub Goes : {A : Type 0} → Option Look → Held → Held → List Order → Option (List Event) → Option (List Event) → Result A Status → Type 0
Goes look s s' orders old new (Ok done) = IsAllAnswered look s s' orders old new
Goes look s s' orders old new (Err ends) = IsStopped look s s' orders old new ends

-- the lines go on to the end
pub record GoesOn (look : Option Look) (s s' : Held) (old new : Option (List Event)) (ends : Status) : Type 0 where
  pub events : List Event
  pub grew : Grew old new events
  pub talked : Talked look s s' events ends

-- the last orders are answered, and the session is done, or one of them stops it
pub data EndsTalk (look : Option Look) (s s' : Held) (orders : List Order) (old new : Option (List Event)) (ends : Status) : Type 0 where
  EndsDone : IsAllAnswered look s s' orders old new → ends ≡ status.Done → EndsTalk look s s' orders old new ends
  EndsStopped : IsStopped look s s' orders old new ends → EndsTalk look s s' orders old new ends

-- A session on tables that read.
pub data ReadySo (look : Option Look) (s s' : Held) (events : List Event) (ends : Status) : Type 0 where
  ReadyNoMemory : events ≡ [] → s' ≡ s → ends ≡ status.Memory → ReadySo look s s' events ends
  ReadyUnput : (part : List ℕ) → IsUnput (ready_text s.tables) part ends → events ≡ PutPart part ∷ [] → s' ≡ s → ReadySo look s s' events ends
  ReadyPut : (behind : List Event) → events ≡ Put (ready_text s.tables) ∷ behind → Talked look s s' behind ends → ReadySo look s s' events ends

-- the same with its history
pub record GoesReady (look : Option Look) (s s' : Held) (old new : Option (List Event)) (ends : Status) : Type 0 where
  pub events : List Event
  pub grew : Grew old new events
  pub goes : ReadySo look s s' events ends

-- a session from its opening to its end
pub record SpeaksOpen (sound : Type 0) (look : Option Look) (told told' : Option Tables) (history history' : Option (List Event)) (f f' k k' : ℕ) (ends : Status) : Type 0 where
  pub t : Tables
  pub left : Tables
  pub events : List Event
  pub tables_told : sound → Agrees told t
  pub kept : sound → IfSome told (λ _. told' ≡ Some left)
  pub grew : Grew history history' events
  pub opened_so : OpenedSo look (record { tables = t; files = f; keeper = k }) (record { tables = left; files = f'; keeper = k' }) events ends

-- whether the words ask for a session
abbrev pub is_session : WordsKind → Bool
is_session words_kind.Script = true
is_session other = false
