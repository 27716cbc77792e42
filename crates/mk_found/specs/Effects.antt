-- What a command comes to: it is refused with a line, or it answers and changes the tables by a
-- batch.
--     text_answered effect       the bytes of its answer
--     after_effect effect t      the tables after it
--     is_refusal effect          it is a refusal
use Rattle.std.specs.Prelude.{ℕ, Bool, true, false, List}
use Rattle.mk_outside.specs.declared.tables.Change.{Change}
use Rattle.mk_outside.specs.declared.tables.Tables.{Tables}
use Rattle.mk_outside.specs.Tables.{after_batch}

-- a command is refused with a line, or it answers with a text and changes the tables by a batch
pub data Effect : Type 0 where
  Refuses : List ℕ → Effect
  Answers : List Change → List ℕ → Effect

-- the bytes of the answer
abbrev pub text_answered : Effect → List ℕ
text_answered (Refuses line) = line
text_answered (Answers batch text) = text

-- the tables after it. A refused command changes nothing.
abbrev pub after_effect : Effect → Tables → Tables
after_effect (Refuses line) t = t
after_effect (Answers batch text) t = after_batch batch t

-- the command was refused
abbrev pub is_refusal : Effect → Bool
is_refusal (Refuses line) = true
is_refusal (Answers batch text) = false
