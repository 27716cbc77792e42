-- What texts and files of queries come to.
--     cases_file           a file that is there is too long, or is read
--     some_said            something is said of each text as a query file
--     some_query_held      and of each file
use Rattle.std.proofs.Common.{◌≡◌, ℕ, Bool, true, false, List, Option, Some, None, IsTrue, refl, sym, inl, inr, length, ⊎_elim}
use Rattle.std.specs.Prelude.{◌⊎◌, ◌↔◌, IsSome}
use Rattle.std.proofs.lemmas.Bool.{cases_lt, true≢false}
use Rattle.mk_text.specs.Lines.{lines_of}
use Rattle.mk_form.proofs.Stops.{bad_line_is_stop, stop_is_named, text_or_bad}
use Rattle.mk_tables.specs.TableLines.{Line}
use Rattle.mk_rgfile.specs.declared.raw_query.RawQuery.{RawQuery}
use Rattle.mk_rgfile.specs.QueryFile.{IsBadQueryLine, IsQueryFile, IsV3000Line}
use Rattle.mk_rgfile.proofs.ForCallers.{query_keeps}
use Rattle.mk_rgfile.proofs.QueryFileLemmas.{exact-query_file}
use Rattle.mk_query.proofs.FaultOrQueryLemmas.{fault_or_query}
use Rattle.mk_query.proofs.ForCallers.{in_range}
use Rattle.mk_found.specs.declared.files.HeldQuery.{HeldQuery}
use Rattle.mk_found.specs.declared.files.HeldQuery.TheVariants.{Query, Refused}
use Rattle.mk_kept.specs.declared.query_text.QueryText.{QueryText}
use Rattle.mk_kept.specs.declared.query_text.QueryText.TheVariants.{Bad, Compiled, Fails, V3000}
use Rattle.mk_found.specs.Answers.{bad_query_text, long_query_text, query_check_text, v3000_query_text}
use Rattle.mk_found.specs.Files.{IsLong, IsShort, Look}
use Rattle.mk_found.specs.QueryFiles.{BadQueryLine, QueryFailsCheck, QueryTextRefused, QueryTooLong, V3000QueryLine}
use Rattle.mk_found.specs.QueryFiles.{IsQueryHeldBy, query_bytes}
use Rattle.mk_kept.specs.QueryText.{IsTextSaid}

-- a file that is there is over its limit, or it is read
pub cases_file : (look : Look) (most : ℕ) (name : List ℕ) → IsSome (look name) → IsLong (Some look) most name ⊎ ((bytes : List ℕ) × IsShort (Some look) most name bytes)
cases_file look most name there = by_found (look name) refl there
  where
    by_found : (found : Option (List ℕ)) → look name ≡ found → IsSome found → IsLong (Some look) most name ⊎ ((bytes : List ℕ) × IsShort (Some look) most name bytes)
    by_found None is there = absurd cc
    by_found (Some bytes) is there =
        elim (cases_lt most (length bytes)) [
          | inl long ↦ inl (record { bytes = bytes; told = is; long = long })
          | inr short ↦ inr (bytes, record { told = is; short = short })
        ]

-- ---- query files

-- the first bad line of lines, and whether it says V3000
abbrev IsStopOfQuery : List Line → Type 0
IsStopOfQuery lines = (k : ℕ) × ((named : Bool) × (IsBadQueryLine lines k × (IsTrue named ↔ IsV3000Line lines k)))

query_or_bad : (lines : List Line) → ((raw : RawQuery) × IsQueryFile lines raw) ⊎ IsStopOfQuery lines
query_or_bad lines =
    ⊎_elim (λ text. inl text)
    (λ bad. let stop = (bad_line_is_stop exact-query_file lines bad.0).0 bad.1 in inr (bad.0, (stop.0, (bad.1, stop_is_named exact-query_file lines bad.0 stop.0 stop.1))))
    (text_or_bad exact-query_file lines)

-- something is said of each text
pub some_said : (text : List ℕ) → (said : QueryText) × IsTextSaid text said
some_said text = by_file (query_or_bad (lines_of text))
  where
    by_file : ((raw : RawQuery) × IsQueryFile (lines_of text) raw) ⊎ IsStopOfQuery (lines_of text) → (said : QueryText) × IsTextSaid text said
    by_file (inl (raw, is)) =
        elim (fault_or_query raw (in_range raw (query_keeps (lines_of text) raw is))) [
          | inl (fault, first) ↦ (Fails fault.check fault.table fault.item, record { raw = raw; file = is; first = first })
          | inr (query, of, passes) ↦ (Compiled query, record { raw = raw; file = is; passes = passes; means = of })
        ]
    by_file (inr (k, (true, (bad, says)))) = (V3000 k, record { bad = bad; named = says.0 refl })
    by_file (inr (k, (false, (bad, says)))) = (Bad k, record { bad = bad; unnamed = λ named. true≢false (sym (says.1 named)) })

-- and of each file that is there
pub some_query_held : (look : Look) (name : List ℕ) → IsSome (look name) → (held : HeldQuery) × IsQueryHeldBy (Some look) name held
some_query_held look name there = by_file (cases_file look query_bytes name there)
  where
    by_said : (bytes : List ℕ) → IsShort (Some look) query_bytes name bytes → (said : QueryText) → IsTextSaid bytes said → (held : HeldQuery) × IsQueryHeldBy (Some look) name held
    by_said bytes read (Compiled query) is = (Query query, record { bytes = bytes; read = read; is = is })
    by_said bytes read (Bad k) is = (Refused (bad_query_text k), QueryTextRefused bytes read (BadQueryLine k is refl))
    by_said bytes read (V3000 k) is = (Refused (v3000_query_text k), QueryTextRefused bytes read (V3000QueryLine k is refl))
    by_said bytes read (Fails check table item) is =
        (Refused (query_check_text check table item), QueryTextRefused bytes read (QueryFailsCheck (record { check = check; table = table; item = item }) is refl))

    by_file : IsLong (Some look) query_bytes name ⊎ ((bytes : List ℕ) × IsShort (Some look) query_bytes name bytes) → (held : HeldQuery) × IsQueryHeldBy (Some look) name held
    by_file (inl long) = (Refused long_query_text, QueryTooLong long refl)
    by_file (inr (bytes, read)) = (let said = some_said bytes in by_said bytes read said.0 said.1)
