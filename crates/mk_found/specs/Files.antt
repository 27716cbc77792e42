-- What is known of a file that a command reads.
--     Look                          for each name its bytes, or that it isn't there
--     IsShort files most name b     the file has these bytes, which are not too many
--     IsLong files most name        the file has more bytes
--     IsThere files name            the file is told to be there
--     IsFoundAs files most name f   a file that was read, or found too long
--     IsWithin, IsTurnOf            what parts of the code ask of a file; they serve the code alone
-- Where the files aren't told, a file may hold anything: then `IsShort` says of the bytes that they
-- are not too many, and `IsLong` says nothing.
use Rattle.std.specs.Prelude.{◌≡◌, ℕ, ◌<◌, ◌≤◌, List, length, Option, Some, None, IsSome, ⊤}

-- for each name its bytes, or that it isn't there
abbrev pub Look : Type 0
Look = List ℕ → Option (List ℕ)

-- the file holds these bytes, as far as it is told
abbrev pub FileSays : Option Look → List ℕ → List ℕ → Type 0
FileSays None name bytes = ⊤
FileSays (Some look) name bytes = look name ≡ Some bytes

-- the file has these bytes, which are not too many
pub record IsShort (files : Option Look) (most : ℕ) (name bytes : List ℕ) : Type 0 where
  pub told : FileSays files name bytes
  pub short : length bytes ≤ most

-- a file of the name is there and over its limit
pub record IsLongAs (look : Look) (most : ℕ) (name : List ℕ) : Type 0 where
  pub bytes : List ℕ
  pub told : look name ≡ Some bytes
  pub long : most < length bytes

-- the file has more bytes, as far as it is told
abbrev pub IsLong : Option Look → ℕ → List ℕ → Type 0
IsLong None most name = ⊤
IsLong (Some look) most name = IsLongAs look most name

-- the file is told to be there
abbrev pub IsThere : Option Look → List ℕ → Type 0
IsThere None name = ⊥
IsThere (Some look) name = IsSome (look name)

-- a file that was read, or found too long
abbrev pub IsFoundAs : Option Look → ℕ → List ℕ → Option (List ℕ) → Type 0
IsFoundAs files most name None = IsLong files most name
IsFoundAs files most name (Some bytes) = IsShort files most name bytes

-- ---- for the code

-- what was read is within the limit
abbrev pub IsWithin : ℕ → Option (List ℕ) → Type 0
IsWithin most None = ⊤
IsWithin most (Some bytes) = length bytes ≤ most

-- it is the turn of this file
abbrev pub IsTurnOf : List ℕ → List ℕ → Type 0
IsTurnOf file name = name ≡ file
