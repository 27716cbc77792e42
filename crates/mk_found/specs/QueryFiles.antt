-- What is made of a query's file.
--     IsTextRefused text line          the line with which a text is refused that has no query
--     IsQueryRefused files name line   the query's file is refused with this line
--     IsQueryHeld files name query     it holds this query
--     IsHeldQuery, IsQueryHeldBy       what parts of the code answer; they serve the code alone
-- What a text is as a query file stands in mk_kept.
use Rattle.std.specs.Prelude.{◌≡◌, ℕ, List, Option, Some, None}
use Rattle.mk_model.specs.Queries.{QueryView}
use Rattle.mk_query.specs.declared.compile_fault.FaultAt.{FaultAt}
use Rattle.mk_found.specs.declared.files.HeldQuery.{HeldQuery}
use Rattle.mk_found.specs.declared.files.HeldQuery.TheVariants.{Query, Refused}
use Rattle.mk_found.specs.Answers.{bad_query_text, long_query_text, query_check_text, v3000_query_text}
use Rattle.mk_found.specs.Files.{IsLong, IsShort, Look}
use Rattle.mk_kept.specs.QueryText.{IsQueryOfText, IsBadLineOfText, IsV3000LineOfText, IsFaultOfText}

-- ---- a text

-- A text that has no query is refused with a line: its first bad line is named, or the first check
-- that fails.
pub data IsTextRefused (text line : List ℕ) : Type 0 where
  BadQueryLine : (k : ℕ) → IsBadLineOfText text k → line ≡ bad_query_text k → IsTextRefused text line
  V3000QueryLine : (k : ℕ) → IsV3000LineOfText text k → line ≡ v3000_query_text k → IsTextRefused text line
  QueryFailsCheck : (fault : FaultAt) → IsFaultOfText text fault → line ≡ query_check_text fault.check fault.table fault.item → IsTextRefused text line

-- ---- a file

-- a query's file has at most so many bytes
abbrev pub query_bytes : ℕ
query_bytes = 4194304

-- the query's file is refused with this line
pub data IsQueryRefused (files : Option Look) (name line : List ℕ) : Type 0 where
  QueryTooLong : IsLong files query_bytes name → line ≡ long_query_text → IsQueryRefused files name line
  QueryTextRefused : (bytes : List ℕ) → IsShort files query_bytes name bytes → IsTextRefused bytes line → IsQueryRefused files name line

-- the query's file holds this query
pub record IsQueryHeld (files : Option Look) (name : List ℕ) (query : QueryView) : Type 0 where
  pub bytes : List ℕ
  pub read : IsShort files query_bytes name bytes
  pub is : IsQueryOfText bytes query

-- ---- for the code

-- what is made of a query's file that was read, or found too long
abbrev pub IsHeldQuery : Option (List ℕ) → HeldQuery → Type 0
IsHeldQuery None (Query query) = ⊥
IsHeldQuery None (Refused line) = line ≡ long_query_text
IsHeldQuery (Some text) (Query query) = IsQueryOfText text query
IsHeldQuery (Some text) (Refused line) = IsTextRefused text line

-- and of the file of this name
abbrev pub IsQueryHeldBy : Option Look → List ℕ → HeldQuery → Type 0
IsQueryHeldBy files name (Query query) = IsQueryHeld files name query
IsQueryHeldBy files name (Refused line) = IsQueryRefused files name line
