-- What is told of bytes, and what calls do to it.
--     Puts old new piece result           what `put` makes of the bytes so far
--     Reads found most out result         what `read` answers on a name under which this is found
--     Fills most out result               what is in the buffer after `read`, whether the files are
--                                         told or not
--     committed batch t result            the tables after `commit`
-- What `read` of a source does stands in std's words (`ReadConsumes`), which the readers of std
-- have too.
use Rattle.std.specs.Prelude.{◌≡◌, ℕ, ◌<◌, ◌≤◌, List, [], ◌++◌, length, Option, Some, None, Result, Ok, Err, ⊤, Bool, true, false}
use Rattle.mk_outside.specs.declared.answers.PutFail.{PutFail}
use Rattle.mk_outside.specs.declared.answers.PutFail.TheVariants as put
use Rattle.mk_outside.specs.declared.answers.FileFail.{FileFail}
use Rattle.mk_outside.specs.declared.answers.FileFail.TheVariants as file
use Rattle.mk_outside.specs.declared.answers.KeepFail.{KeepFail}
use Rattle.mk_outside.specs.declared.answers.KeepFail.TheVariants as keep
use Rattle.mk_outside.specs.declared.answers.ReadEnd.{ReadEnd}
use Rattle.mk_outside.specs.declared.answers.ReadEnd.TheVariants.{Whole, TooLong}
use Rattle.mk_outside.specs.declared.tables.Tables.{Tables}
use Rattle.mk_outside.specs.declared.tables.Change.{Change}
use Rattle.mk_outside.specs.Tables.{after_batch}

-- ---- sinks

-- a prefix of the piece was appended
pub record AppendsPrefix (old : List ℕ) (new : Option (List ℕ)) (piece : List ℕ) : Type 0 where
  pub prefix : List ℕ
  pub rest : List ℕ
  pub whole : piece ≡ prefix ++ rest
  pub appended : new ≡ Some (old ++ prefix)

-- the whole piece is appended, after a failure a prefix of it, and for want of memory nothing
abbrev pub Puts : {A : Type 0} → Option (List ℕ) → Option (List ℕ) → List ℕ → Result A PutFail → Type 0
Puts None new piece result = ⊤
Puts (Some old) new piece (Ok done) = new ≡ Some (old ++ piece)
Puts (Some old) new piece (Err put.Failed) = AppendsPrefix old new piece
Puts (Some old) new piece (Err put.Memory) = new ≡ Some old

-- the put failed, which want of memory is not
abbrev pub is_failed_put : {A : Type 0} → Result A PutFail → Bool
is_failed_put (Ok done) = false
is_failed_put (Err put.Failed) = true
is_failed_put (Err put.Memory) = false

-- ---- files

-- a file that is there is read whole, or found too long exactly where it has more bytes than asked
-- for; one that isn't there is never read
abbrev pub Reads : Option (List ℕ) → ℕ → List ℕ → Result ReadEnd FileFail → Type 0
Reads (Some bytes) most out (Ok Whole) = (out ≡ bytes) × (length bytes ≤ most)
Reads (Some bytes) most out (Ok TooLong) = most < length bytes
Reads None most out (Ok end) = ⊥
Reads found most out (Err fail) = ⊤

-- at most so many bytes after `Whole`, and none after any other answer
abbrev pub Fills : ℕ → List ℕ → Result ReadEnd FileFail → Type 0
Fills most out (Ok Whole) = length out ≤ most
Fills most out (Ok TooLong) = out ≡ []
Fills most out (Err fail) = out ≡ []

-- the read of a file failed, which want of memory is not
abbrev pub is_failed_read : {A : Type 0} → Result A FileFail → Bool
is_failed_read (Ok done) = false
is_failed_read (Err file.Failed) = true
is_failed_read (Err file.Memory) = false

-- the read failed on a name that isn't there
abbrev pub is_absence : {A : Type 0} → Option (List ℕ) → Result A FileFail → Bool
is_absence None (Err file.Failed) = true
is_absence found result = false

-- ---- keepers

-- the call on the keeper failed, which want of memory is not
abbrev pub is_failed_keep : {A : Type 0} → Result A KeepFail → Bool
is_failed_keep (Ok done) = false
is_failed_keep (Err keep.Failed) = true
is_failed_keep (Err keep.Memory) = false

-- the tables after a commit: with the whole batch, or after any failure with nothing of it
abbrev pub committed : {A E : Type 0} → List Change → Tables → Result A E → Tables
committed batch t (Ok done) = after_batch batch t
committed batch t (Err fail) = t
