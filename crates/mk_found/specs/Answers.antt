-- The lines of refusals. The lines of hits stand in Hits.
--     bad_line_text k             the refusal of a molecules' file at its first bad line
--     v3000_text k                the same where that line says V3000
--     records_text k              the refusal of a molecules' file of k records, where k isn't 1
--     check_text record check item    the refusal of a record at the first check that fails
--     bad_query_text k, v3000_query_text k, query_check_text check table item     the same of a
--                                                                                 query's file
--     long_query_text .. long_molecules_text      the answers that are one line
use Rattle.std.specs.Prelude.{ℕ, List, ◌++◌, codes, decimal}

-- ---- lines

abbrev pub long_query_text : List ℕ
long_query_text = codes "refused 4 query\n"

abbrev pub long_molecules_text : List ℕ
long_molecules_text = codes "refused 4 molecules\n"

abbrev pub full_text : List ℕ
full_text = codes "refused 5 library full\n"

-- ---- refusals

abbrev pub bad_line_text : ℕ → List ℕ
bad_line_text k = codes "refused 2 molecules line " ++ (decimal k ++ codes "\n")

abbrev pub v3000_text : ℕ → List ℕ
v3000_text k = codes "refused 2 molecules v3000 line " ++ (decimal k ++ codes "\n")

abbrev pub records_text : ℕ → List ℕ
records_text k = codes "refused 11 records " ++ (decimal k ++ codes "\n")

abbrev pub check_text : ℕ → ℕ → ℕ → List ℕ
check_text record_number check item =
    codes "refused 3 molecules record " ++ (decimal record_number ++ (codes " check V" ++ (decimal check ++ (codes " item " ++ (decimal item ++ codes "\n")))))

abbrev pub bad_query_text : ℕ → List ℕ
bad_query_text k = codes "refused 2 query line " ++ (decimal k ++ codes "\n")

abbrev pub v3000_query_text : ℕ → List ℕ
v3000_query_text k = codes "refused 2 query v3000 line " ++ (decimal k ++ codes "\n")

abbrev pub query_check_text : ℕ → ℕ → ℕ → List ℕ
query_check_text check table item =
    codes "refused 3 query check Q" ++ (decimal check ++ (codes " table " ++ (decimal table ++ (codes " item " ++ (decimal item ++ codes "\n")))))
