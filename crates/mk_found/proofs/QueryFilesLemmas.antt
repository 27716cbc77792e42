-- A query's file, from what is made of its text.
--     query_held_by    what is made of a file that was read, or found too long, is made of the file
--     refused_by       a file that is refused once it is read
use Rattle.std.proofs.Common.{ℕ, List, Option, Some, None}
use Rattle.mk_found.specs.declared.files.HeldQuery.{HeldQuery}
use Rattle.mk_found.specs.declared.files.HeldQuery.TheVariants.{Query, Refused}
use Rattle.mk_found.specs.Files.{IsFoundAs, Look}
use Rattle.mk_found.specs.QueryFiles.{IsHeldQuery, IsQueryHeldBy, QueryTextRefused, QueryTooLong, query_bytes, IsQueryRefused}

-- what is made of a file that was read, or found too long
pub query_held_by : (files : Option Look) (name : List ℕ) (found : Option (List ℕ)) (held : HeldQuery) → IsFoundAs files query_bytes name found → IsHeldQuery found held → IsQueryHeldBy files name held
query_held_by files name None (Query query) long is = absurd is
query_held_by files name None (Refused line) long is = QueryTooLong long is
query_held_by files name (Some text) (Query query) read is = record { bytes = text; read = read; is = is }
query_held_by files name (Some text) (Refused line) read is = QueryTextRefused text read is

-- ---- files

-- a file that is refused once it is read
pub refused_by : (files : Option Look) (file : List ℕ) (bytes : Option (List ℕ)) (line : List ℕ)
    → IsFoundAs files query_bytes file bytes → IsHeldQuery bytes (Refused line) → IsQueryRefused files file line
refused_by files file None line read held = QueryTooLong read held
refused_by files file (Some text) line read held = QueryTextRefused text read held
