-- A file of one record: each refusal is the first, and what isn't refused holds a molecule.
--     unread_first, only_first       what is said of the file is said of its first demand that isn't met
--     only_holds, only_text          else it holds the molecule, and the text
--     replacement_refused            a replacement by a file that is refused is refused so
use Rattle.std.proofs.Common.{[], ◌∷◌, ◌≡◌, ◌≢◌, ℕ, ◌≤◌, true, List, length, refl, ap, subst, arith}
use Rattle.std.specs.Prelude.{Result, Ok, Err, IfOk}
use Rattle.std.proofs.lemmas.List.Elements.{All-cons, All-nil}
use Rattle.mk_text.specs.Lines.{lines_of}
use Rattle.mk_outside.specs.declared.tables.RecordRow.{RecordRow}
use Rattle.mk_sdfile.specs.declared.raw_record.RawRecord.{RawRecord}
use Rattle.mk_sdfile.specs.Sdfile.{IsSdfile}
use Rattle.mk_sdfile.proofs.ForCallers.{one}
use Rattle.mk_library.specs.declared.molecules.OneRecord.{OneRecord}
use Rattle.mk_library.specs.declared.refusal.LoadRefusal.{LoadRefusal}
use Rattle.mk_library.specs.declared.refusal.LoadRefusal.TheVariants as refusal
use Rattle.mk_library.specs.Edits.{Replace}
use Rattle.mk_library.specs.FirstRefusal.{Demand, EditDemands, FileDemands, HoldsMolecule, HoldsText, IfRefused, IsFirstFileRefusal, IsFirstRefusal}
use Rattle.mk_library.specs.FirstRefusal.{IsMoleculeRecord, IsSaidOf, demand_number, held_number, kept_limits, molecules, one_record, sdfile, short_file}
use Rattle.mk_library.specs.Limits.{file_bytes}
use Rattle.mk_library.specs.Records.{is_held}
use Rattle.mk_library.specs.Steps.{IsFileRefused, IsOnly, IsOnlyAnswer}
use Rattle.mk_library.proofs.DemandLemmas.{MetBelow, none_met, one_met}
use Rattle.mk_library.proofs.EditLemmas.{all_of_file, no_file, not_all, single}

-- ---- demands on a file

module _ (text : List ℕ) where
  -- the demands before that of the limit
  no_number_met : MetBelow (FileDemands text) 2
  no_number_met = one_met (FileDemands text) held_number tt (none_met (FileDemands text))

  -- those before that of the form
  short_met : length text ≤ file_bytes → MetBelow (FileDemands text) 3
  short_met short = one_met (FileDemands text) short_file short no_number_met

  -- those before that of one record
  read_met : (raws : List RawRecord) → length text ≤ file_bytes → IsSdfile (lines_of text) raws → MetBelow (FileDemands text) 4
  read_met raws short is = one_met (FileDemands text) sdfile (raws, is) (short_met short)

  -- what is said of a file whose records aren't read is said of its first demand that isn't met
  pub unread_first : (T : Type 0) (said : LoadRefusal) → IsFileRefused text said → IfRefused {T = T} (Err said) (IsFirstFileRefusal text)
  unread_first T refusal.FileLarge large = record { demand = short_file; before = no_number_met; fails = λ short. omega (arith, large, short); says = refl }
  unread_first T (refusal.Layout line v3000) (short, bad, named) =
      record { demand = sdfile; before = short_met short; fails = no_file text line bad; says = (line, v3000, refl, bad, named) }
  unread_first T refusal.Memory is = tt
  unread_first T refusal.NoRecord is = absurd is
  unread_first T (refusal.NotOne count) is = absurd is
  unread_first T (refusal.Meaning number check item) is = absurd is
  unread_first T refusal.Full is = absurd is

  module _ (raws : List RawRecord) (short : length text ≤ file_bytes) (is : IsSdfile (lines_of text) raws) where
    -- one record is asked for
    not_one : (count : ℕ) → count ≡ length raws → length raws ≢ 1 → IsFirstFileRefusal text (refusal.NotOne count)
    not_one count counted several = record {
      demand = one_record;
      before = read_met raws short is;
      fails = λ (raw, only). several (ap length (one (lines_of text) raws (raw ∷ []) is only));
      says = (raws, is, ap (λ n. refusal.NotOne n) counted);
    }

    -- where there is one, that is met
    alone_met : (raw : RawRecord) → raws ≡ raw ∷ [] → MetBelow (FileDemands text) 5
    alone_met raw alone = one_met (FileDemands text) one_record (raw, subst (IsSdfile (lines_of text)) alone is) (read_met raws short is)

    -- what is said of the only record is said of the first demand of its file that isn't met
    pub only_first : (r : Result OneRecord LoadRefusal) → IsOnlyAnswer raws r → IfRefused r (IsFirstFileRefusal text)
    only_first (Ok only) answer = tt
    only_first (Err (refusal.NotOne count)) (counted, several) = not_one count counted several
    only_first (Err (refusal.Meaning number check item)) (once, first) =
        let only = single raws once in
        record {
          demand = molecules;
          before = alone_met only.0 only.1;
          fails = not_all text raws number check item is first;
          says = (raws, number, check, item, is, refl, first);
        }
    only_first (Err refusal.Memory) answer = tt
    only_first (Err refusal.NoRecord) answer = absurd answer
    only_first (Err refusal.FileLarge) answer = absurd answer
    only_first (Err (refusal.Layout line v3000)) answer = absurd answer
    only_first (Err refusal.Full) answer = absurd answer

    -- the only record, as that of the file
    only_read : (found : OneRecord) (only : IsOnly raws found) → IsSdfile (lines_of text) (only.raw ∷ [])
    only_read found only = subst (IsSdfile (lines_of text)) only.alone is

    -- every demand on the file of a molecule is met
    only_met : (found : OneRecord) → IsOnly raws found → (demand : Demand) → FileDemands text demand
    only_met found only held_number = tt
    only_met found only short_file = short
    only_met found only sdfile = (raws, is)
    only_met found only one_record = (only.raw, only_read found only)
    only_met found only molecules = all_of_file text (only.raw ∷ []) (only_read found only) (All-cons IsMoleculeRecord only.raw [] only.passes (All-nil IsMoleculeRecord))
    only_met found only kept_limits = tt

    -- the file holds the molecule of its only record
    pub only_holds : (r : Result OneRecord LoadRefusal) → IsOnlyAnswer raws r → IfOk r (λ found. HoldsMolecule text found.mol)
    only_holds (Ok found) only = record { met = only_met found only; only = only.raw; read = only_read found only; filled = only.filled; kept = only.kept }
    only_holds (Err said) answer = tt

    -- and its text
    pub only_text : (r : Result OneRecord LoadRefusal) → IsOnlyAnswer raws r → IfOk r (λ found. HoldsText text found.text)
    only_text (Ok found) only = (only.raw, only_read found only, only.text)
    only_text (Err said) answer = tt

-- ---- a replacement

module _ (records : List RecordRow) (next number : ℕ) (text : List ℕ) (held : is_held number records ≡ true) where
  -- the demands on a replacement before a place are those on its file
  replacement_met : (place : ℕ) → place ≤ 6 → MetBelow (FileDemands text) place → MetBelow (EditDemands records next (Replace number text)) place
  replacement_met place most before held_number below = held
  replacement_met place most before short_file below = before short_file below
  replacement_met place most before sdfile below = before sdfile below
  replacement_met place most before one_record below = before one_record below
  replacement_met place most before molecules below = before molecules below
  replacement_met place most before kept_limits below = absurd (omega (arith, most, below))

  by_demand : (demand : Demand) (said : LoadRefusal) → MetBelow (FileDemands text) (demand_number demand) → (FileDemands text demand → ⊥) → IsSaidOf text demand said
      → IsFirstRefusal records next (Replace number text) said
  by_demand held_number said before fails says = absurd (fails tt)
  by_demand short_file said before fails says = record { demand = short_file; before = replacement_met 2 (omega arith) before; fails = fails; says = says }
  by_demand sdfile said before fails says = record { demand = sdfile; before = replacement_met 3 (omega arith) before; fails = fails; says = says }
  by_demand one_record said before fails says = record { demand = one_record; before = replacement_met 4 (omega arith) before; fails = fails; says = says }
  by_demand molecules said before fails says = record { demand = molecules; before = replacement_met 5 (omega arith) before; fails = fails; says = says }
  by_demand kept_limits said before fails says = absurd (fails tt)

  -- where the number is held, the first refusal of the file is that of the replacement
  pub first_of_file : (said : LoadRefusal) → IsFirstFileRefusal text said → IsFirstRefusal records next (Replace number text) said
  first_of_file said first = by_demand first.demand said first.before first.fails first.says

  -- so a replacement by a file that is refused is refused
  pub replacement_refused : (S T : Type 0) (said : LoadRefusal) → IfRefused {T = S} (Err said) (IsFirstFileRefusal text)
      → IfRefused {T = T} (Err said) (IsFirstRefusal records next (Replace number text))
  replacement_refused S T refusal.NoRecord first = first_of_file refusal.NoRecord first
  replacement_refused S T refusal.FileLarge first = first_of_file refusal.FileLarge first
  replacement_refused S T (refusal.Layout line v3000) first = first_of_file (refusal.Layout line v3000) first
  replacement_refused S T (refusal.NotOne count) first = first_of_file (refusal.NotOne count) first
  replacement_refused S T (refusal.Meaning place check item) first = first_of_file (refusal.Meaning place check item) first
  replacement_refused S T refusal.Full first = first_of_file refusal.Full first
  replacement_refused S T refusal.Memory first = tt
