-- Each drill has a line.
--     drill_has_line      DrillsHaveLines
use Rattle.std.proofs.Common.{◌≡◌, ◌≤◌, ◌<◌, ◌+◌, ◌/◌, ℕ, zero, suc, Bool, true, false, cond, List, [], ◌∷◌, ◌++◌, refl, sym, ap, subst, ◌∙◌, arith, inl, inr, length, map, take, ⊎_elim}
use Rattle.std.specs.Prelude.{◌⊎◌, ◌↔◌}
use Rattle.std.specs.List.{AllByRecursion, filter, range_with_len}
use Rattle.std.proofs.lemmas.Bool.{cases_lt}
use Rattle.std.proofs.lemmas.List.Elements.{All-head}
use Rattle.mk_text.specs.Lines.{lines_of}
use Rattle.mk_text.specs.Rising.{AreFirst, IsFrom, IsRisingListOfAll, place_behind}
use Rattle.mk_model.specs.Keys.{IsKey, Remains}
use Rattle.mk_model.specs.Molecules.{Molecule}
use Rattle.mk_model.specs.Queries.{QueryView}
use Rattle.mk_model.specs.QueryFits.{QueryFits}
use Rattle.mk_marks.proofs.ForCallers.{one_list_of_mol_bonds}
use Rattle.mk_tables.specs.declared.raw.RawTable.{RawTable}
use Rattle.mk_tables.specs.KeptTables.{KeepsItsText}
use Rattle.mk_sdfile.specs.declared.raw_record.RawRecord.{RawRecord}
use Rattle.mk_sdfile.specs.Sdfile.{IsSdfile}
use Rattle.mk_sdfile.proofs.SdfileTextLemmas.{text_is_its_record}
use Rattle.mk_mol.specs.FirstFault.{known_atoms, known_properties}
use Rattle.mk_mol.proofs.ForCallers.{keeps_text, one_filled}
use Rattle.mk_rgfile.proofs.ForCallers.{query_keeps}
use Rattle.mk_query.specs.Compiled.{IsQueryOf}
use Rattle.mk_query.specs.CompileFaults.{PassChecks}
use Rattle.mk_query.proofs.FaultOrQueryLemmas.{fault_or_query}
use Rattle.mk_query.proofs.ForCallers.{in_range}
use Rattle.mk_query.proofs.QueryLemmas.{fits_query}
use Rattle.mk_outside.specs.declared.tables.RecordRow.{RecordRow}
use Rattle.mk_rows.specs.declared.by_number.Numbered.{Numbered}
use Rattle.mk_library.specs.Records.{AreHeld, IsMoleculeOf}
use Rattle.mk_search.specs.Pages.{IsHeldIn}
use Rattle.mk_search.proofs.AllKeysLemmas.{keys_listed}
use Rattle.mk_drill.specs.Draws.{drilled_table, state_for}
use Rattle.mk_drill.specs.Drill.{AreHits, IsDrill, HoldsDrilled, IsLeft, drill_line}
use Rattle.mk_drill.specs.DrillQuery.{IsDrillQuery}
use Rattle.mk_drill.specs.DrilledRecords.{IsLoadable, drilled_record, drilled_text, is_left, left_below, record_text}
use Rattle.mk_drill.proofs.DrilledTableLemmas.{drilled_is_fit}
use Rattle.mk_drill.proofs.DrilledTextLemmas.{drilled_is_loadable, is_sdfile, record_of}
use Rattle.mk_drill.proofs.HeldLemmas.{all_held, left_held}
use Rattle.mk_drill.proofs.QueryAcrossLemmas.{none_first}
use Rattle.mk_drill.proofs.QueryFileLemmas.{text_is_query}
use Rattle.mk_drill.proofs.QueryTables.{query_raw}
use Rattle.mk_drill.proofs.RecordsLemmas.{records_from, text_for}
use Rattle.mk_values.specs.Laws.{DrillsHaveLines}
use Rattle.mk_values.proofs.ListingLemmas.{list_by, taken_first}
use Rattle.mk_values.proofs.TableMoleculeLemmas.{filled_molecule}

-- ---- the drilled molecules

-- the text of a record is a file of that record
text_again : (table : RawTable) → IsLoadable table → IsSdfile (lines_of (record_text table)) (record_of table ∷ [])
text_again table fits =
    All-head (λ (r : RawRecord). KeepsItsText r.table → IsSdfile (lines_of r.text) (r ∷ [])) (record_of table) []
    (text_is_its_record (drilled_text table) (record_of table ∷ []) (is_sdfile table fits.can))
    (keeps_text table (fits.passes known_atoms) (fits.passes known_properties)).0

-- the text of a drilled table is that of a molecule
drilled_molecule : (state : ℕ) → (mol : Molecule) × IsMoleculeOf (record_text (drilled_table state)) mol
drilled_molecule state =
    let fits = drilled_is_loadable state in
    let fit = drilled_is_fit state in
    let made = filled_molecule (drilled_table state) (omega (arith, fit.few)) (omega (arith, fit.few, fit.fit.as_many)) fits.passes in (
      made.0,
      record {
        is = record {
          raw = record_of (drilled_table state);
          read = text_again (drilled_table state) fits;
          own = refl;
          passes = fits.passes;
        };
        filled = made.1.filled;
        kept = made.1.kept;
      },
    )

-- the text of the row is that of a molecule
abbrev HasMolecule : RecordRow → Type 0
HasMolecule row = (mol : Molecule) × IsMoleculeOf row.text mol

-- beside records that are molecules stand these
rows_beside : (records : List RecordRow) → AllByRecursion HasMolecule records → (rows : List (Numbered Molecule)) × AreHeld records rows
rows_beside [] all = ([], tt)
rows_beside (row ∷ records) all =
    let later = rows_beside records all.1 in
    (record { number = row.number; item = all.0.0 } ∷ later.0, (refl, all.0.1, later.1))

all_molecules : (start m k : ℕ) → AllByRecursion HasMolecule (records_from start m k)
unfolding drilled_record
all_molecules start m zero = tt
all_molecules start m (suc k) = (drilled_molecule (state_for start m), all_molecules start (m + 1) k)

left_molecules : (keep : ℕ → Bool) (records : List RecordRow) → AllByRecursion HasMolecule records → AllByRecursion HasMolecule (filter (λ (row : RecordRow). keep row.number) records)
left_molecules keep [] all = tt
left_molecules keep (row ∷ records) all = by_test (keep row.number) (left_molecules keep records all.1)
  where
    by_test : (b : Bool) → AllByRecursion HasMolecule (filter (λ (r : RecordRow). keep r.number) records)
        → AllByRecursion HasMolecule (cond b (row ∷ filter (λ (r : RecordRow). keep r.number) records)
        (filter (λ (r : RecordRow). keep r.number) records))
    by_test true later = (all.0, later)
    by_test false later = later

-- ---- the line

-- the drill's query, which fits
drill_query : (query : QueryView) × (IsDrillQuery query × QueryFits query)
drill_query =
    let range = in_range query_raw (query_keeps _ query_raw text_is_query) in
    elim (fault_or_query query_raw range) [
      | inl (fault, first) ↦ absurd (none_first fault first)
      | inr (query, of, passes) ↦ (
        query,
        (
          record { raw = query_raw; read = text_is_query; meant = of },
          fits_query query_raw range passes.in_tables query.templates of.templates query.groups of.groups passes.across,
        ),
      )
    ]

module _ (start count : ℕ) (query : QueryView) (fits : QueryFits query) where
  -- the keys that remain, over the molecules that are held at first and over those that are left
  at_first : (place : List ℕ) → (keys : List (List ℕ)) × IsRisingListOfAll (Remains (HoldsDrilled start count) query place) keys
  at_first place =
      let rows = rows_beside (records_from start 1 count) (all_molecules start 1 count) in
      let keys = keys_listed rows.0 query place fits in
      (keys.0, list_by (IsHeldIn rows.0) (HoldsDrilled start count) query place keys.0 (all_held start count rows.0 (one_filled one_list_of_mol_bonds) rows.1) keys.1)

  behind : (place : List ℕ) → (keys : List (List ℕ)) × IsRisingListOfAll (Remains (IsLeft start count) query place) keys
  behind place =
      let records = left_below (count / 5) (records_from start 1 count) in
      let rows = rows_beside records (left_molecules (is_left (count / 5)) (records_from start 1 count) (all_molecules start 1 count)) in
      let keys = keys_listed rows.0 query place fits in
      (keys.0, list_by (IsHeldIn rows.0) (IsLeft start count) query place keys.0 (left_held start count rows.0 (one_filled one_list_of_mol_bonds) rows.1) keys.1)

  hits_there : (hits : List (List ℕ)) × AreHits start count query hits
  hits_there =
      let all = at_first [] in
      let page = take 100 all.0 in
      let first : AreFirst 100 (Remains (HoldsDrilled start count) query []) page = taken_first 100 (Remains (HoldsDrilled start count) query []) all.0 all.1 in
      elim (cases_lt (length page) 100) [
        | inl few ↦ (page ++ [], record { page = page; others = []; whole = refl; first = first; ended = λ _. refl; behind = λ full. absurd (omega (arith, full, few)) })
        | inr full ↦ (let left = behind (place_behind [] page) in
            (page ++ left.0, record { page = page; others = left.0; whole = refl; first = first; ended = λ few. absurd (omega (arith, full, few)); behind = λ _. left.1 }))
      ]

pub drill_has_line : DrillsHaveLines
drill_has_line start count =
    let query = drill_query in
    let hits = hits_there start count query.0 query.1.1 in
    (drill_line count hits.0, record { query = query.0; is_query = query.1.0; hits = hits.0; are_hits = hits.1; whole = refl })
