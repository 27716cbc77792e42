-- The file of the drill's query says the tables that are written out.
use Rattle.std.proofs.Common.{[], ◌∷◌, ◌++◌, ◌≡◌, ℕ, zero, suc, ◌≤◌, ◌&&◌, Bool, true, not, eqb, List, length, arith, refl, sym, ap, ◌∙◌, subst, lit≤}
use Rattle.std.specs.Prelude.{Contains}
use Rattle.std.specs.List.{AllByRecursion, list_all}
use Rattle.std.proofs.lemmas.Bool.{and_parts, true≢false}
use Rattle.std.proofs.lemmas.List.{append-nil}
use Rattle.std.proofs.lemmas.List.Elements.{All-from_recursion, Contains-push}
use Rattle.mk_form.specs.Reading.{Took}
use Rattle.mk_text.specs.Columns.{columns}
use Rattle.mk_text.specs.Fields.{digits_number, field_of}
use Rattle.mk_text.specs.Lines.{IsWholeLine, lines_of}
use Rattle.mk_text.proofs.ForCallers.{text_of_lines_is_read}
use Rattle.mk_props.specs.Reading.{cell_of, count_of, letter_line_of, logic_of, m_line_of, number_of, pair_of, pairs_of, property_of}
use Rattle.mk_tables.specs.TableLines.{atom_numbers_of, counts_of, natural_of, raw_atom_of, raw_bond_of}
use Rattle.mk_tables.specs.TableReading.{table_at}
use Rattle.mk_rgfile.specs.declared.raw_query.RawQuery.{RawQuery}
use Rattle.mk_rgfile.specs.QueryFile.{IsQueryFile}
use Rattle.mk_rgfile.specs.QueryLines.{group_number_of}
use Rattle.mk_rgfile.specs.QueryReading.{block_at, group_at, query_at}
use Rattle.mk_rgfile.proofs.QueryFileLemmas.{exact-query_file}
use Rattle.mk_rgfile.proofs.QueryLawLemmas.{one_query}
use Rattle.mk_drill.specs.DrillQuery.{group_lines, query_text, root_lines}
use Rattle.mk_drill.proofs.QueryTables.{query_raw}

-- ---- the lines of the text

abbrev is_inner : ℕ → Bool
is_inner c = not (eqb c 10) && not (eqb c 13)

-- bytes that are neither LF nor CR are a whole line
inner_is : (line : List ℕ) (c : ℕ) → list_all is_inner line ≡ true → Contains line c → is_inner c ≡ true
inner_is [] c all is = absurd (omega (arith, is.1))
inner_is (first ∷ line) c all (zero, within, same) = ap is_inner (sym same) ∙ (and_parts (is_inner first) (list_all is_inner line) all).0
inner_is (first ∷ line) c all (suc k, within, same) = inner_is line c (and_parts (is_inner first) (list_all is_inner line) all).1 (k, omega arith, same)

last_held : (front : List ℕ) (c : ℕ) → Contains (front ++ c ∷ []) c
last_held front c = Contains-push front c

inner_whole : (line : List ℕ) → list_all is_inner line ≡ true → IsWholeLine line
inner_whole line all = record {
  no_lf = λ held. true≢false (sym (inner_is line 10 all held));
  no_cr = λ end. true≢false (sym (inner_is line 13 all (subst (λ (bytes : List ℕ). Contains bytes 13) (sym end.1) (last_held end.0 13))));
}

all_whole : (lines : List (List ℕ)) → list_all (list_all is_inner) lines ≡ true → AllByRecursion IsWholeLine lines
all_whole [] all = tt
all_whole (line ∷ lines) all =
    let both = and_parts (list_all is_inner line) (list_all (list_all is_inner) lines) all in
    (inner_whole line both.0, all_whole lines both.1)

lines_are : lines_of query_text ≡ root_lines ++ group_lines
unfolding query_text
lines_are = text_of_lines_is_read (root_lines ++ group_lines) (All-from_recursion IsWholeLine (root_lines ++ group_lines) (all_whole (root_lines ++ group_lines) refl))

-- ---- what they say

lines_read : query_at (root_lines ++ group_lines) ≡ Took query_raw []
unfolding query_at block_at group_at group_number_of table_at counts_of natural_of raw_atom_of atom_numbers_of
    raw_bond_of field_of digits_number columns property_of letter_line_of m_line_of cell_of number_of count_of pair_of
    pairs_of logic_of
lines_read = refl

of_front : (lines : List (List ℕ)) → query_at lines ≡ Took query_raw [] → IsQueryFile lines query_raw
of_front lines read =
    let took = exact-query_file.took lines [] query_raw read in
    subst (λ (ls : List (List ℕ)). IsQueryFile ls query_raw) (sym (took.whole ∙ append-nil took.front)) took.is

-- the text is a query file with these tables
pub text_is_query : IsQueryFile (lines_of query_text) query_raw
text_is_query = subst (λ (lines : List (List ℕ)). IsQueryFile lines query_raw) (sym lines_are) (of_front (root_lines ++ group_lines) lines_read)

-- and with no others
pub one_raw : (raw : RawQuery) → IsQueryFile (lines_of query_text) raw → raw ≡ query_raw
one_raw raw is = one_query (lines_of query_text) raw query_raw is text_is_query

-- it has few lines
pub few_lines : length (lines_of query_text) ≤ 4294967296
few_lines = rw lines_are (lit≤ tt)
