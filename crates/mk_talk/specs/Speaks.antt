-- What a session leaves: its history, its tables and its status. This is the statement that the
-- program stands on.
--     IsAnsweredTo ..      these orders are answered in this history, each by one put of its frame
--     IsInTime ..          before each read, all lines that were read are answered
--     Stops ..             an order stops the session
--     Talked ..            a session from its first line to its end
--     Speaks ..            the statement
use Rattle.std.specs.Prelude.{◌≡◌, ◌≢◌, ℕ, ◌≤◌, List, [], ◌∷◌, ◌++◌, length, map, Option, Some, IfSome, ⊤}
use Rattle.mk_outside.specs.Counts.{Rose}
use Rattle.mk_outside.specs.declared.tables.Tables.{Tables}
use Rattle.mk_words.specs.declared.command.WordsKind.TheVariants as words_kind
use Rattle.mk_words.specs.Commands.{kind_of_words}
use Rattle.mk_kept.specs.declared.stored_rows.RowKind.{RowKind}
use Rattle.mk_kept.specs.StoredRows.{AllRead, IsFirstBad}
use Rattle.mk_found.specs.Files.{Look}
use Rattle.mk_session.specs.declared.status.Status.{Status}
use Rattle.mk_session.specs.declared.status.Status.TheVariants as status
use Rattle.mk_session.specs.Orders.{Order}
use Rattle.mk_session.specs.Outcomes.{Agrees}
use Rattle.mk_session.specs.Run.{bad_store_text, not_understood_text}
use Rattle.mk_session.specs.Stepping.{IsPending}
use Rattle.mk_talk.specs.Answers.{Answer, AreAnswers, Held, IsAnswer, frame_of}
use Rattle.mk_talk.specs.declared.event.Event.{Event}
use Rattle.mk_talk.specs.declared.event.Event.TheVariants.{Got, NotGot, Put, PutPart}
use Rattle.mk_talk.specs.Events.{Grew, heard, said}
use Rattle.mk_talk.specs.Frames.{ready_text}
use Rattle.mk_talk.specs.Lines.{all_lines, orders_of_all, whole_lines}

-- these orders are answered in this history, in turn, each by one put of its frame
pub record IsAnsweredTo (look : Option Look) (s s' : Held) (orders : List Order) (events : List Event) : Type 0 where
  pub answers : List Answer
  pub are : AreAnswers look s s' orders answers
  pub puts : said events ≡ map frame_of answers

-- all lines that were read to their LF are answered
abbrev pub IsUpToDate : Option Look → Held → Held → List Event → Type 0
IsUpToDate look s s' events = IsAnsweredTo look s s' (orders_of_all (whole_lines (heard events))) events

-- where this event is a read, behind these, all lines that were read before it are answered
abbrev pub IsReadInTime : Option Look → Held → List Event → Event → Type 0
IsReadInTime look s before (Got piece) = (between : Held) × IsUpToDate look s between before
IsReadInTime look s before NotGot = (between : Held) × IsUpToDate look s between before
IsReadInTime look s before (Put piece) = ⊤
IsReadInTime look s before (PutPart part) = ⊤

-- the same of each of the events behind these, one after the other
abbrev pub AreReadsInTime : Option Look → Held → List Event → List Event → Type 0
AreReadsInTime look s before [] = ⊤
AreReadsInTime look s before (event ∷ events) = IsReadInTime look s before event × AreReadsInTime look s (before ++ event ∷ []) events

-- before each read, all lines that were read are answered
abbrev pub IsInTime : Option Look → Held → List Event → Type 0
IsInTime look s events = AreReadsInTime look s [] events

-- ---- ends

-- a piece was to be put, and this part of it was: a prefix where the put failed, and nothing for
-- want of memory
pub data IsUnput (piece part : List ℕ) (ends : Status) : Type 0 where
  PutFailed : (rest : List ℕ) → piece ≡ part ++ rest → ends ≡ status.Write → IsUnput piece part ends
  PutNoMemory : part ≡ [] → ends ≡ status.Memory → IsUnput piece part ends

-- The order stops the session, with these events.
pub data IsStop (look : Option Look) (s s' : Held) (order : Order) (events : List Event) (ends : Status) : Type 0 where
  -- the batch isn't committed
  Uncommitted : IsPending look s.tables order → Rose s.keeper s'.keeper → s'.files ≡ s.files → s'.tables ≡ s.tables
      → events ≡ [] → ends ≡ status.Store → IsStop look s s' order events ends
  -- it is answered, and its frame isn't put
  Unanswered : (answer : Answer) → IsAnswer look s s' order answer → (part : List ℕ) → IsUnput (frame_of answer) part ends
      → events ≡ PutPart part ∷ [] → IsStop look s s' order events ends

-- The first of the orders are answered, and the next stops the session.
pub record Stops (look : Option Look) (s s' : Held) (orders : List Order) (events : List Event) (ends : Status) : Type 0 where
  pub done : List Order
  pub order : Order
  pub others : List Order
  pub whole : orders ≡ done ++ order ∷ others
  pub between : Held
  pub answered : IsAnsweredTo look s between done events
  pub front : List Event
  pub last : List Event
  pub ending : events ≡ front ++ last
  pub stop : IsStop look between s' order last ends

-- the input was read to its end
pub record HasEnd (events : List Event) : Type 0 where
  pub before : List Event
  pub behind : List Event
  pub ending : events ≡ before ++ Got [] ∷ behind
  pub nothing : heard behind ≡ []

-- the lines that were read: those with their LF, and at the end of the input the last one too
pub data AreLinesRead (events : List Event) (lines : List (List ℕ)) : Type 0 where
  WholeLines : lines ≡ whole_lines (heard events) → AreLinesRead events lines
  AllLines : HasEnd events → lines ≡ all_lines (heard events) → AreLinesRead events lines

-- How the lines go on to the end.
pub data TalkEnds (look : Option Look) (s s' : Held) (events : List Event) (ends : Status) : Type 0 where
  -- the input is at its end, and all its lines are answered
  AllAnswered : HasEnd events → IsAnsweredTo look s s' (orders_of_all (all_lines (heard events))) events → ends ≡ status.Done
      → TalkEnds look s s' events ends
  -- the input couldn't be read
  InputFailed : (before : List Event) → events ≡ before ++ NotGot ∷ [] → IsUpToDate look s s' before → ends ≡ status.Read
      → TalkEnds look s s' events ends
  -- it was read 2 ^ 64 - 1 times
  InputEndless : 18446744073709551615 ≤ length events → IsUpToDate look s s' events → ends ≡ status.Read → TalkEnds look s s' events ends
  -- a line stops it
  LineStops : (lines : List (List ℕ)) → AreLinesRead events lines → Stops look s s' (orders_of_all lines) events ends
      → TalkEnds look s s' events ends

pub record Talked (look : Option Look) (s s' : Held) (events : List Event) (ends : Status) : Type 0 where
  pub in_time : IsInTime look s events
  pub talk_ends : TalkEnds look s s' events ends

-- ---- a whole run

-- one line was put, or a part of it
pub data IsOneLine (line : List ℕ) (would : Status) (events : List Event) (ends : Status) : Type 0 where
  LinePut : events ≡ Put line ∷ [] → ends ≡ would → IsOneLine line would events ends
  LineUnput : (part : List ℕ) → IsUnput line part ends → events ≡ PutPart part ∷ [] → IsOneLine line would events ends

-- A session from its opening to its end.
pub data OpenedSo (look : Option Look) (s s' : Held) (events : List Event) (ends : Status) : Type 0 where
  -- memory is wanting before the first line
  FirstNoMemory : events ≡ [] → s' ≡ s → ends ≡ status.Memory → OpenedSo look s s' events ends
  -- the keeper isn't loaded
  Unloaded : events ≡ [] → s'.tables ≡ s.tables → s'.files ≡ s.files → Rose s.keeper s'.keeper → ends ≡ status.Store
      → OpenedSo look s s' events ends
  -- a stored row doesn't read
  BadStore : (kind : RowKind) (number : ℕ) → IsFirstBad s.tables kind number → IsOneLine (bad_store_text kind number) status.BadStore events ends
      → s' ≡ s → OpenedSo look s s' events ends
  -- the first line isn't put
  Unready : AllRead s.tables → (part : List ℕ) → IsUnput (ready_text s.tables) part ends → events ≡ PutPart part ∷ [] → s' ≡ s
      → OpenedSo look s s' events ends
  -- it is, and the session goes on
  Ready : AllRead s.tables → (behind : List Event) → events ≡ Put (ready_text s.tables) ∷ behind → Talked look s s' behind ends
      → OpenedSo look s s' events ends

-- A run from its words to its end.
pub data SpokeSo (words : List (List ℕ)) (look : Option Look) (s s' : Held) (events : List Event) (ends : Status) : Type 0 where
  -- memory is wanting for the words
  WordsNoMemory : events ≡ [] → s' ≡ s → ends ≡ status.Memory → SpokeSo words look s s' events ends
  -- the words aren't understood
  NotUnderstood : kind_of_words words ≢ words_kind.Script → IsOneLine not_understood_text status.Words events ends → s' ≡ s
      → SpokeSo words look s s' events ends
  -- they ask for a session
  Opened : kind_of_words words ≡ words_kind.Script → OpenedSo look s s' events ends → SpokeSo words look s s' events ends

-- The keeper held the tables of s, the run left those of s', and these are its events. Each is the
-- told one where one is told, for the keeper where it is sound at the end.
pub record Speaks (sound : Type 0) (words : List (List ℕ)) (look : Option Look) (told told' : Option Tables)
    (history history' : Option (List Event)) (f f' k k' : ℕ) (ends : Status) : Type 0 where
  pub t : Tables
  pub left : Tables
  pub events : List Event
  pub tables_told : sound → Agrees told t
  pub kept : sound → IfSome told (λ _. told' ≡ Some left)
  pub grew : Grew history history' events
  pub spoke_so : SpokeSo words look (record { tables = t; files = f; keeper = k }) (record { tables = left; files = f'; keeper = k' }) events ends
