-- What a text is as a query file.
--     IsQueryOfText text query         the text is a query file that passes every check, and this
--                                      is its query
--     IsBadLineOfText text k           it is no query file, and this is its first bad line
--     IsV3000LineOfText text k         the same, where that line says V3000
--     IsFaultOfText text fault         it is a query file, and this is the first check that it
--                                      fails
--     IsTextSaid text said             what is said of the text
--     IsRawSaid raw said               the same of the tables of a query file, for the code alone
--     OneSaid                          the law that one thing is said of a text
use Rattle.std.specs.Prelude.{◌≡◌, ℕ, List}
use Rattle.mk_text.specs.Lines.{lines_of}
use Rattle.mk_model.specs.Queries.{QueryView}
use Rattle.mk_rgfile.specs.declared.raw_query.RawQuery.{RawQuery}
use Rattle.mk_rgfile.specs.QueryFile.{IsBadQueryLine, IsQueryFile, IsV3000Line}
use Rattle.mk_query.specs.declared.compile_fault.FaultAt.{FaultAt}
use Rattle.mk_query.specs.Compiled.{IsQueryOf}
use Rattle.mk_query.specs.CompileFaults.{IsFirstCompileFault, PassChecks}
use Rattle.mk_kept.specs.declared.query_text.QueryText.{QueryText}
use Rattle.mk_kept.specs.declared.query_text.QueryText.TheVariants.{Compiled, Bad, V3000, Fails}

-- the text is a query file, its tables pass every check, and this is the query that they mean
pub record IsQueryOfText (text : List ℕ) (query : QueryView) : Type 0 where
  pub raw : RawQuery
  pub file : IsQueryFile (lines_of text) raw
  pub passes : PassChecks raw query
  pub means : IsQueryOf raw query

-- the text is no query file, and this is its first bad line, which isn't named V3000
pub record IsBadLineOfText (text : List ℕ) (k : ℕ) : Type 0 where
  pub bad : IsBadQueryLine (lines_of text) k
  pub unnamed : IsV3000Line (lines_of text) k → ⊥

-- the text is no query file, and its first bad line is named V3000
pub record IsV3000LineOfText (text : List ℕ) (k : ℕ) : Type 0 where
  pub bad : IsBadQueryLine (lines_of text) k
  pub named : IsV3000Line (lines_of text) k

-- the text is a query file, and its tables fail this check first, at this table and item
pub record IsFaultOfText (text : List ℕ) (fault : FaultAt) : Type 0 where
  pub raw : RawQuery
  pub file : IsQueryFile (lines_of text) raw
  pub first : IsFirstCompileFault raw fault

-- what is said of a text
abbrev pub IsTextSaid : List ℕ → QueryText → Type 0
IsTextSaid text (Compiled query) = IsQueryOfText text query
IsTextSaid text (Bad k) = IsBadLineOfText text k
IsTextSaid text (V3000 k) = IsV3000LineOfText text k
IsTextSaid text (Fails check table item) = IsFaultOfText text (record { check = check; table = table; item = item })

-- what is said of the tables of a query file
abbrev pub IsRawSaid : RawQuery → QueryText → Type 0
IsRawSaid raw (Compiled query) = PassChecks raw query × IsQueryOf raw query
IsRawSaid raw (Bad k) = ⊥
IsRawSaid raw (V3000 k) = ⊥
IsRawSaid raw (Fails check table item) = IsFirstCompileFault raw (record { check = check; table = table; item = item })

-- one thing is said of a text as a query file: its query, its first bad line, or the first check
-- that it fails
abbrev pub OneSaid : Type 0
OneSaid = (text : List ℕ) (a b : QueryText) → IsTextSaid text a → IsTextSaid text b → a ≡ b
