-- What is taken from a reader of std. This file serves code alone.
--     TakesAtMost most old new      at most so many of the known bytes were taken
use Rattle.std.specs.Prelude.{ℕ, ◌≤◌, List, length, Option}
use Rattle.std.specs.Io.KnownBytes.{Consumes}

-- how many bytes are asked for at once
abbrev pub chunk_bytes : ℕ
chunk_bytes = 16384

-- at most so many of the known bytes were taken
pub record TakesAtMost (most : ℕ) (old new : Option (List ℕ)) : Type 0 where
  pub taken : List ℕ
  pub few : length taken ≤ most
  pub consumed : Consumes old new taken
