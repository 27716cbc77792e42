-- What was read and put, in its order.
--     Grew old new events          where a history is told at the end, it was told at first, and
--                                  these came behind it
--     Hears .., Says ..            what a read and a put make of the history
--     heard, said                  the bytes that were read, and the pieces that were put
use Rattle.std.specs.Prelude.{◌≡◌, ℕ, List, [], ◌∷◌, ◌++◌, take, Option, Some, IfSome, Result, Ok, Err}
use Rattle.mk_outside.specs.declared.answers.PutFail.{PutFail}
use Rattle.mk_talk.specs.declared.event.Event.{Event}
use Rattle.mk_talk.specs.declared.event.Event.TheVariants.{Got, NotGot, Put, PutPart}
use Rattle.mk_outside.specs.declared.answers.PutFail.TheVariants as put

-- these events came behind those that were told before
pub record IsLonger (old : Option (List Event)) (new events : List Event) : Type 0 where
  pub before : List Event
  pub told : old ≡ Some before
  pub longer : new ≡ before ++ events

-- Where a history is told at the end, it was told at first, and these events came behind it.
abbrev pub Grew : Option (List Event) → Option (List Event) → List Event → Type 0
Grew old new events = IfSome new (λ history. IsLonger old history events)

-- what a read is in the history
abbrev pub event_of_read : {E : Type 0} → Result ℕ E → List ℕ → Event
event_of_read (Ok n) buffer = Got (take n buffer)
event_of_read (Err fail) buffer = NotGot

abbrev pub Hears : {E : Type 0} → Option (List Event) → Option (List Event) → Result ℕ E → List ℕ → Type 0
Hears old new result buffer = Grew old new (event_of_read result buffer ∷ [])

-- a part of the piece was put, from its front
pub record SaysPart (old new : Option (List Event)) (piece : List ℕ) : Type 0 where
  pub part : List ℕ
  pub rest : List ℕ
  pub whole : piece ≡ part ++ rest
  pub grew : Grew old new (PutPart part ∷ [])

-- the whole piece was put, after a failure a part of it, and for want of memory nothing
abbrev pub Says : {A : Type 0} → Option (List Event) → Option (List Event) → List ℕ → Result A PutFail → Type 0
Says old new piece (Ok done) = Grew old new (Put piece ∷ [])
Says old new piece (Err put.Failed) = SaysPart old new piece
Says old new piece (Err put.Memory) = Grew old new (PutPart [] ∷ [])

-- ---- what a history says

-- the bytes that were read
abbrev pub heard : List Event → List ℕ
heard [] = []
heard (Got piece ∷ events) = piece ++ heard events
heard (NotGot ∷ events) = heard events
heard (Put piece ∷ events) = heard events
heard (PutPart part ∷ events) = heard events

-- the pieces that were put whole
abbrev pub said : List Event → List (List ℕ)
said [] = []
said (Got piece ∷ events) = said events
said (NotGot ∷ events) = said events
said (Put piece ∷ events) = piece ∷ said events
said (PutPart part ∷ events) = said events
