-- An edit of a library is refused at its first demand that isn't met, or has its changes.
--     file_is_judged                                  a file of one record is refused, or holds a molecule
--     judged_load, judged_replace, judged_remove      of each kind of edit
--     edit_is_judged                                  EditsAreJudged
use Rattle.std.proofs.Common.{◌≡◌, ◌≤◌, ◌+◌, ℕ, true, false, List, [], ◌∷◌, ◌++◌, refl, sym, ap, subst, ◌∙◌, arith, inl, inr, length, All}
use Rattle.std.specs.Prelude.{◌⊎◌}
use Rattle.std.specs.List.{AllByRecursion}
use Rattle.std.proofs.lemmas.Bool.{cases_Bool, true≢false}
use Rattle.std.proofs.lemmas.List.Elements.{All-cons, All-head, All-nil, All-tail}
use Rattle.mk_text.specs.Lines.{lines_of}
use Rattle.mk_model.specs.Molecules.{Molecule}
use Rattle.mk_outside.specs.declared.tables.Change.{Change}
use Rattle.mk_outside.specs.declared.tables.Change.TheVariants.{DropRecord, PutRecord}
use Rattle.mk_outside.specs.declared.tables.RecordRow.{RecordRow}
use Rattle.mk_outside.specs.Tables.{after_batch}
use Rattle.mk_tables.specs.TableFacts.{IsRawTable}
use Rattle.mk_sdfile.specs.declared.raw_record.RawRecord.{RawRecord}
use Rattle.mk_sdfile.specs.Sdfile.{IsSdfile}
use Rattle.mk_sdfile.proofs.SdfileLemmas.{one}
use Rattle.mk_mol.specs.FirstFault.{IsFirstMoleculeFault}
use Rattle.mk_mol.proofs.ForCallers.{no_fault}
use Rattle.mk_library.specs.declared.refusal.LoadRefusal.{LoadRefusal}
use Rattle.mk_library.specs.declared.refusal.LoadRefusal.TheVariants as refusal
use Rattle.mk_library.specs.Edits.{AreChanges, Edit, Load, Remove, Replace, puts_from, texts_of}
use Rattle.mk_library.specs.FirstRefusal.{Demand, EditDemands, FileDemands, HoldsMolecule, IsFirstFailing, IsMoleculeRecord, IsSaidOf, KeepsTheLimits, demand_number, text_of_edit}
use Rattle.mk_library.specs.FirstRefusal.{held_number, kept_limits, molecules, one_record, sdfile, short_file}
use Rattle.mk_library.specs.Library.{record_tables}
use Rattle.mk_library.specs.Limits.{HasKnownNumber, IsWithinLimits, file_bytes, most_bytes, most_number, most_records}
use Rattle.mk_library.specs.Records.{is_held, text_bytes}
use Rattle.mk_library.proofs.ForCallers.{MetBelow, first_of_file, most_order, none_met, one_met}
use Rattle.mk_query.proofs.KnownLemmas.{Known, known_as, known_both, known_most}
use Rattle.mk_values.specs.Laws.{EditsAreJudged, IsFileJudged, IsJudged}
use Rattle.mk_values.proofs.FileLemmas.{IsStopOfSdfile, read_keeps, sdfile_or_bad}
use Rattle.mk_values.proofs.TableMoleculeLemmas.{filled_molecule, first_fault}

-- ---- records and limits

-- all records are molecules, or there is a first that isn't
first_failing : (raws : List RawRecord) → All (λ (r : RawRecord). IsRawTable r.table) raws
    → All IsMoleculeRecord raws ⊎ ((number : ℕ) × ((check : ℕ) × ((item : ℕ) × IsFirstFailing raws number check item)))
first_failing [] kept = inl (All-nil IsMoleculeRecord)
first_failing (raw ∷ raws) kept =
    elim (first_fault raw.table) [
      | inr (check, (item, fault)) ↦ inr (1, (check, (item, record { earlier = []; raw = raw; later = raws; whole = refl; counted = refl; before = All-nil IsMoleculeRecord; fails = fault })))
      | inl passes ↦ elim (first_failing raws (All-tail (λ (r : RawRecord). IsRawTable r.table) raw raws kept)) [
        | inl all ↦ inl (All-cons IsMoleculeRecord raw raws passes all)
        | inr (number, (check, (item, first))) ↦ inr (
          number + 1,
          (
            check,
            (
              item,
              record {
                earlier = raw ∷ first.earlier;
                raw = first.raw;
                later = first.later;
                whole = ap (λ (rs : List RawRecord). raw ∷ rs) first.whole;
                counted = omega (arith, first.counted);
                before = All-cons IsMoleculeRecord raw first.earlier passes first.before;
                fails = first.fails;
              },
            ),
          ),
        )
      ]
    ]

-- where one isn't, not all are
fails_all : (earlier later : List RawRecord) (raw : RawRecord) (check item : ℕ) → IsFirstMoleculeFault raw.table check item → All IsMoleculeRecord (earlier ++ raw ∷ later) → ⊥
fails_all [] later raw check item fault all = no_fault raw.table check item (All-head IsMoleculeRecord raw later all) fault
fails_all (x ∷ earlier) later raw check item fault all = fails_all earlier later raw check item fault (All-tail IsMoleculeRecord x (earlier ++ raw ∷ later) all)

known_numbers : (rows : List RecordRow) → Known (AllByRecursion HasKnownNumber rows)
known_numbers [] = inl tt
known_numbers (row ∷ rows) = known_both (known_most row.number most_number) (known_numbers rows)

known_limits : (rows : List RecordRow) → Known (IsWithinLimits rows)
known_limits rows =
    known_as (known_both (known_most (length rows) most_records) (known_both (known_most (text_bytes rows) most_bytes) (known_numbers rows)))
    (λ all. record { few = all.0; short = all.1.0; numbers = all.1.1 }) (λ is. (is.few, (is.short, is.numbers)))

-- ---- one edit

module _ (records : List RecordRow) (next : ℕ) (edit : Edit) where
  -- refused at a demand
  refused : (demand : Demand) (said : LoadRefusal) → MetBelow (EditDemands records next edit) (demand_number demand) → (EditDemands records next edit demand → ⊥)
      → IsSaidOf (text_of_edit edit) demand said → IsJudged records next edit
  refused demand said before fails says = inl (said, record { demand = demand; before = before; fails = fails; says = says })

  -- every demand is met
  allowed : (changes : List Change) → MetBelow (EditDemands records next edit) 7 → AreChanges next edit changes → IsJudged records next edit
  allowed changes met are = inr (changes, record { met = λ demand. met demand (omega (arith, most_order demand)); are = are })

  -- the limits, where the changes are known
  by_limits : (changes : List Change) → AreChanges next edit changes → ((other : List Change) → AreChanges next edit other → other ≡ changes)
      → MetBelow (EditDemands records next edit) 6 → (KeepsTheLimits records next edit → EditDemands records next edit kept_limits)
      → (EditDemands records next edit kept_limits → KeepsTheLimits records next edit) → IsJudged records next edit
  by_limits changes are one_list before to from =
      elim (known_limits (after_batch changes (record_tables records next)).records) [
        | inl within ↦ allowed changes (one_met (EditDemands records next edit) kept_limits
            (to (λ other its. subst (λ (cs : List Change). IsWithinLimits (after_batch cs (record_tables records next)).records) (sym (one_list other its)) within)) before) are
        | inr full ↦ refused kept_limits refusal.Full before (λ keeps. full (from keeps changes are)) refl
      ]

-- ---- a file of one record

module _ (text : List ℕ) where
  -- it is refused at a demand
  file_refused : (demand : Demand) (said : LoadRefusal) → MetBelow (FileDemands text) (demand_number demand) → (FileDemands text demand → ⊥) → IsSaidOf text demand said → IsFileJudged text
  file_refused demand said before fails says = inl (said, record { demand = demand; before = before; fails = fails; says = says })

  -- of one record
  of_record : (raw : RawRecord) → IsSdfile (lines_of text) (raw ∷ []) → MetBelow (FileDemands text) 5
      → All IsMoleculeRecord (raw ∷ []) ⊎ ((place : ℕ) × ((check : ℕ) × ((item : ℕ) × IsFirstFailing (raw ∷ []) place check item))) → IsFileJudged text
  of_record raw is before (inl all) =
      (let kept = All-head (λ (r : RawRecord). IsRawTable r.table) raw [] (read_keeps (lines_of text) (raw ∷ []) is) in
      let made = filled_molecule raw.table kept.few_atoms kept.few_bonds (All-head IsMoleculeRecord raw [] all) in
      let passed = one_met (FileDemands text) molecules (λ others its. subst (All IsMoleculeRecord) (one (lines_of text) (raw ∷ []) others is its) all) before in
      let met = one_met (FileDemands text) kept_limits tt passed in
      inr (made.0, record { met = λ demand. met demand (omega (arith, most_order demand)); only = raw; read = is; filled = made.1.filled; kept = made.1.kept }))
  of_record raw is before (inr (place, (check, (item, first)))) =
      file_refused molecules (refusal.Meaning place check item) before
      (λ all. fails_all first.earlier first.later first.raw check item first.fails (subst (All IsMoleculeRecord) first.whole (all (raw ∷ []) is)))
      (raw ∷ [], place, check, item, is, refl, first)

  -- where there isn't one record alone
  not_one : (raws : List RawRecord) → IsSdfile (lines_of text) raws → MetBelow (FileDemands text) 4 → ((raw : RawRecord) → raw ∷ [] ≡ raws → ⊥) → IsFileJudged text
  not_one raws is before none = file_refused one_record (refusal.NotOne (length raws)) before (λ only. none only.0 (one (lines_of text) (only.0 ∷ []) raws only.1 is)) (raws, is, refl)

  by_records : (raws : List RawRecord) → IsSdfile (lines_of text) raws → MetBelow (FileDemands text) 4 → IsFileJudged text
  by_records [] is before = not_one [] is before (λ raw same. absurd cc)
  by_records (raw ∷ []) is before = of_record raw is (one_met (FileDemands text) one_record (raw, is) before) (first_failing (raw ∷ []) (read_keeps (lines_of text) (raw ∷ []) is))
  by_records (raw ∷ second ∷ others) is before = not_one (raw ∷ second ∷ others) is before (λ other same. absurd cc)

  by_lines : MetBelow (FileDemands text) 3 → ((raws : List RawRecord) × IsSdfile (lines_of text) raws) ⊎ IsStopOfSdfile (lines_of text) → IsFileJudged text
  by_lines before (inl (raws, is)) = by_records raws is (one_met (FileDemands text) sdfile (raws, is) before)
  by_lines before (inr (k, (named, (bad, says)))) =
      file_refused sdfile (refusal.Layout k named) before (λ file. bad.no_text file.0 file.1) (k, named, refl, bad, says)

  by_size : MetBelow (FileDemands text) 2 → Known (length text ≤ file_bytes) → IsFileJudged text
  by_size before (inl short) = by_lines (one_met (FileDemands text) short_file short before) (sdfile_or_bad (lines_of text))
  by_size before (inr long) = file_refused short_file refusal.FileLarge before long refl

  -- a file of one record is refused at its first demand that isn't met, or it holds a molecule
  pub file_is_judged : IsFileJudged text
  file_is_judged = by_size (one_met (FileDemands text) held_number tt (none_met (FileDemands text))) (known_most (length text) file_bytes)

-- ---- the kinds of edits

module _ (records : List RecordRow) (next : ℕ) where
  judged_load : (text : List ℕ) → IsJudged records next (Load text)
  judged_load text = load_by_size (known_most (length text) file_bytes)
    where
      load_of_records : (raws : List RawRecord) → IsSdfile (lines_of text) raws → MetBelow (EditDemands records next (Load text)) 5
          → All IsMoleculeRecord raws ⊎ ((number : ℕ) × ((check : ℕ) × ((item : ℕ) × IsFirstFailing raws number check item))) → IsJudged records next (Load text)
      load_of_records raws is before (inl all) =
          by_limits records next (Load text) (puts_from next (texts_of raws)) (raws, is, refl)
          (λ other its. its.2 ∙ ap (λ (rs : List RawRecord). puts_from next (texts_of rs)) (one (lines_of text) its.0 raws its.1 is))
          (one_met (EditDemands records next (Load text)) molecules (λ others its. subst (All IsMoleculeRecord) (one (lines_of text) raws others is its) all) before) (λ keeps. keeps) (λ keeps. keeps)
      load_of_records raws is before (inr (number, (check, (item, first)))) =
          refused records next (Load text) molecules (refusal.Meaning number check item) before
          (λ all. fails_all first.earlier first.later first.raw check item first.fails (subst (All IsMoleculeRecord) first.whole (all raws is)))
          (raws, number, check, item, is, refl, first)

      load_by_lines : MetBelow (EditDemands records next (Load text)) 3 → ((raws : List RawRecord) × IsSdfile (lines_of text) raws) ⊎ IsStopOfSdfile (lines_of text) → IsJudged records next (Load text)
      load_by_lines before (inl (raws, is)) =
          load_of_records raws is
          (one_met (EditDemands records next (Load text)) one_record tt (one_met (EditDemands records next (Load text)) sdfile (raws, is) before))
          (first_failing raws (read_keeps (lines_of text) raws is))
      load_by_lines before (inr (k, (named, (bad, says)))) =
          refused records next (Load text) sdfile (refusal.Layout k named) before (λ file. bad.no_text file.0 file.1) (k, named, refl, bad, says)

      no_number : MetBelow (EditDemands records next (Load text)) 2
      no_number = one_met (EditDemands records next (Load text)) held_number tt (none_met (EditDemands records next (Load text)))

      load_by_size : Known (length text ≤ file_bytes) → IsJudged records next (Load text)
      load_by_size (inl short) = load_by_lines (one_met (EditDemands records next (Load text)) short_file short no_number) (sdfile_or_bad (lines_of text))
      load_by_size (inr long) = refused records next (Load text) short_file refusal.FileLarge no_number long refl

  judged_replace : (number : ℕ) (text : List ℕ) → IsJudged records next (Replace number text)
  judged_replace number text = by_number (cases_Bool (is_held number records))
    where
      one_alone : (raw other : RawRecord) → raw ∷ [] ≡ other ∷ [] → raw ≡ other
      one_alone raw other same = cc

      holding : (mol : Molecule) → is_held number records ≡ true → HoldsMolecule text mol → MetBelow (EditDemands records next (Replace number text)) 6
      holding mol held holds held_number below = held
      holding mol held holds short_file below = holds.met short_file
      holding mol held holds sdfile below = holds.met sdfile
      holding mol held holds one_record below = holds.met one_record
      holding mol held holds molecules below = holds.met molecules
      holding mol held holds kept_limits below = absurd (omega (arith, below))

      by_file : is_held number records ≡ true → IsFileJudged text → IsJudged records next (Replace number text)
      by_file held (inl (said, first)) = inl (said, first_of_file records next number text held said first)
      by_file held (inr (mol, holds)) =
          by_limits records next (Replace number text) (PutRecord number holds.only.text ∷ []) (holds.only, holds.read, refl)
          (λ other its. its.2 ∙ ap (λ (r : RawRecord). PutRecord number r.text ∷ []) (one_alone its.0 holds.only (one (lines_of text) (its.0 ∷ []) (holds.only ∷ []) its.1 holds.read)))
          (holding mol held holds) (λ keeps. keeps) (λ keeps. keeps)

      by_number : (is_held number records ≡ true) ⊎ (is_held number records ≡ false) → IsJudged records next (Replace number text)
      by_number (inl held) = by_file held (file_is_judged text)
      by_number (inr none) =
          refused records next (Replace number text) held_number refusal.NoRecord (none_met (EditDemands records next (Replace number text))) (λ held. true≢false (sym held ∙ none)) refl

  judged_remove : (number : ℕ) → IsJudged records next (Remove number)
  judged_remove number =
      elim (cases_Bool (is_held number records)) [
        | inl held ↦ inr (DropRecord number ∷ [], record { met = all_met held; are = refl })
        | inr none ↦ refused records next (Remove number) held_number refusal.NoRecord (none_met (EditDemands records next (Remove number))) (λ held. true≢false (sym held ∙ none)) refl
      ]
    where
      all_met : is_held number records ≡ true → (demand : Demand) → EditDemands records next (Remove number) demand
      all_met held held_number = held
      all_met held short_file = tt
      all_met held sdfile = tt
      all_met held one_record = tt
      all_met held molecules = tt
      all_met held kept_limits = tt

pub edit_is_judged : EditsAreJudged
edit_is_judged records next (Load text) = judged_load records next text
edit_is_judged records next (Replace number text) = judged_replace records next number text
edit_is_judged records next (Remove number) = judged_remove records next number
