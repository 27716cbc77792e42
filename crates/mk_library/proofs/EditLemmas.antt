-- The answers of edits: each refusal is the first, and what isn't refused is allowed.
use Rattle.std.proofs.Common.{[], ◌∷◌, ◌++◌, ◌≡◌, ℕ, ◌<◌, ◌≤◌, true, false, not, List, length, nat_eq, All, Err, arith, refl, sym, ap, ◌∙◌, subst}
use Rattle.std.specs.List.{AllByRecursion}
use Rattle.std.proofs.lemmas.Bool.{cond_both, eqb-true, true≢false}
use Rattle.std.proofs.lemmas.List.Elements.{All-head, All-tail}
use Rattle.std.proofs.lemmas.Grind.{common_steps}
use Rattle.mk_text.specs.Lines.{lines_of}
use Rattle.mk_model.specs.Molecules.{Molecule}
use Rattle.mk_outside.specs.declared.tables.RecordRow.{RecordRow}
use Rattle.mk_outside.specs.declared.tables.Change.{Change}
use Rattle.mk_outside.specs.declared.tables.Change.TheVariants.{PutRecord, DropRecord}
use Rattle.mk_outside.specs.Tables.{after_batch, record_number}
use Rattle.mk_outside.specs.Rows as outside
use Rattle.mk_sdfile.specs.declared.raw_record.RawRecord.{RawRecord}
use Rattle.mk_sdfile.specs.Sdfile.{IsBadSdfileLine, IsSdfile}
use Rattle.mk_sdfile.proofs.ForCallers.{bad_where_none, one}
use Rattle.mk_mol.proofs.ForCallers.{no_fault}
use Rattle.mk_library.specs.declared.refusal.LoadRefusal.{LoadRefusal}
use Rattle.mk_library.specs.declared.refusal.LoadRefusal.TheVariants as refusal
use Rattle.mk_library.specs.Records.{is_held, text_bytes}
use Rattle.mk_library.specs.Limits.{HasKnownNumber, IsWithinLimits, file_bytes, most_number}
use Rattle.mk_library.specs.Library.{record_tables}
use Rattle.mk_library.specs.Edits.{AreChanges, Load, Remove, Replace, puts_from, texts_of}
use Rattle.mk_library.specs.FirstRefusal.{Demand, EditDemands, HoldsMolecule, HoldsText, IfRefused, IsAllowedEdit, IsFirstFailing, IsFirstRefusal, IsMoleculeRecord}
use Rattle.mk_library.specs.FirstRefusal.{held_number, kept_limits, molecules, one_record, sdfile, short_file}
use Rattle.mk_library.specs.Pending.{ArePrepared, KeepsLimits}
use Rattle.mk_library.specs.Steps.{ArePreparedOf, IsFileRefused, LoadKeeps}
use Rattle.mk_library.proofs.DemandLemmas.{MetBelow, none_met, one_met}
use Rattle.mk_library.proofs.LoadLemmas.{file_prepared, load_within, within_keeps}

-- ---- files

-- a file with a bad line is no SDfile
pub no_file : (text : List ℕ) (k : ℕ) → IsBadSdfileLine (lines_of text) k → (raws : List RawRecord) × IsSdfile (lines_of text) raws → ⊥
no_file text k bad (raws, is) = (bad_where_none (lines_of text)).0 (k, bad) raws is

-- all records of a file are molecules where those are that were read
pub all_of_file : (text : List ℕ) (raws : List RawRecord) → IsSdfile (lines_of text) raws → All IsMoleculeRecord raws
    → (others : List RawRecord) → IsSdfile (lines_of text) others → All IsMoleculeRecord others
all_of_file text raws is pass others are = subst (All IsMoleculeRecord) (one (lines_of text) raws others is are) pass

at_split : (P : RawRecord → Type 0) (earlier later : List RawRecord) (raw : RawRecord) → All P (earlier ++ raw ∷ later) → P raw
at_split P [] later raw h = All-head P raw later h
at_split P (r ∷ earlier) later raw h = at_split P earlier later raw (All-tail P r (earlier ++ raw ∷ later) h)

-- not all are where one fails first
pub not_all : (text : List ℕ) (raws : List RawRecord) (number check item : ℕ) → IsSdfile (lines_of text) raws → IsFirstFailing raws number check item
    → ((others : List RawRecord) → IsSdfile (lines_of text) others → All IsMoleculeRecord others) → ⊥
not_all text raws number check item is first pass =
    let each : All IsMoleculeRecord (first.earlier ++ first.raw ∷ first.later) = subst (All IsMoleculeRecord) first.whole (pass raws is) in
    no_fault first.raw.table check item (at_split IsMoleculeRecord first.earlier first.later first.raw each) first.fails

-- ---- a load

module _ (records : List RecordRow) (next : ℕ) (text : List ℕ) where
  -- the demands before that of the form
  short_met : length text ≤ file_bytes → MetBelow (EditDemands records next (Load text)) 3
  short_met short =
      one_met (EditDemands records next (Load text)) short_file short
      (one_met (EditDemands records next (Load text)) held_number tt (none_met (EditDemands records next (Load text))))

  -- and those before that of molecules: a load asks for any number of records
  read_met : (raws : List RawRecord) → length text ≤ file_bytes → IsSdfile (lines_of text) raws → MetBelow (EditDemands records next (Load text)) 5
  read_met raws short is =
      one_met (EditDemands records next (Load text)) one_record tt
      (one_met (EditDemands records next (Load text)) sdfile (raws, is) (short_met short))

  -- what is said of a file whose records aren't read is said of the first demand that isn't met
  pub load_file : (T : Type 0) (said : LoadRefusal) → IsFileRefused text said → IfRefused {T = T} (Err said) (IsFirstRefusal records next (Load text))
  load_file T refusal.FileLarge large = record {
    demand = short_file;
    before = one_met (EditDemands records next (Load text)) held_number tt (none_met (EditDemands records next (Load text)));
    fails = λ short. omega (arith, large, short);
    says = refl;
  }
  load_file T (refusal.Layout line v3000) (short, bad, named) =
      record { demand = sdfile; before = short_met short; fails = no_file text line bad; says = (line, v3000, refl, bad, named) }
  load_file T refusal.Memory is = tt
  load_file T refusal.NoRecord is = absurd is
  load_file T (refusal.NotOne count) is = absurd is
  load_file T (refusal.Meaning number check item) is = absurd is
  load_file T refusal.Full is = absurd is

  module _ (raws : List RawRecord) (short : length text ≤ file_bytes) (is : IsSdfile (lines_of text) raws) where
    -- and so is what is said of its records
    pub load_meaning : (T : Type 0) (said : LoadRefusal) → ArePreparedOf raws (Err said) → IfRefused {T = T} (Err said) (IsFirstRefusal records next (Load text))
    load_meaning T (refusal.Meaning number check item) first = record {
      demand = molecules;
      before = read_met raws short is;
      fails = not_all text raws number check item is first;
      says = (raws, number, check, item, is, refl, first);
    }
    load_meaning T refusal.Memory first = tt
    load_meaning T refusal.NoRecord first = absurd first
    load_meaning T refusal.FileLarge first = absurd first
    load_meaning T (refusal.Layout line v3000) first = absurd first
    load_meaning T (refusal.NotOne count) first = absurd first
    load_meaning T refusal.Full first = absurd first

    -- a library that is full
    pub load_full : All IsMoleculeRecord raws → AllByRecursion (λ (row : RecordRow). row.number < next) records → (LoadKeeps records next (texts_of raws) → ⊥)
        → IsFirstRefusal records next (Load text) refusal.Full
    load_full pass under full = record {
      demand = kept_limits;
      before = one_met (EditDemands records next (Load text)) molecules (all_of_file text raws is pass) (read_met raws short is);
      fails = λ keep. full (within_keeps (texts_of raws) next records under (keep (puts_from next (texts_of raws)) (raws, is, refl)));
      says = refl;
    }

-- a load that is allowed
pub load_allowed : (records : List RecordRow) (next : ℕ) (text : List ℕ) (raws : List RawRecord) → length text ≤ file_bytes → IsSdfile (lines_of text) raws → All IsMoleculeRecord raws
    → AllByRecursion (λ (row : RecordRow). row.number < next) records → IsWithinLimits records → LoadKeeps records next (texts_of raws)
    → IsAllowedEdit records next (Load text) (puts_from next (texts_of raws))
load_allowed records next text raws short is pass under limits keeps = record {
  met = met;
  are = (raws, is, refl);
}
  where
    limits_kept : (changes : List Change) → AreChanges next (Load text) changes → IsWithinLimits (after_batch changes (record_tables records next)).records
    limits_kept changes (others, are, same) =
        let raws_same : raws ≡ others = one (lines_of text) raws others is are in
        let changes_same : puts_from next (texts_of raws) ≡ changes = ap (λ xs. puts_from next (texts_of xs)) raws_same ∙ sym same in
        subst (λ xs. IsWithinLimits (after_batch xs (record_tables records next)).records) changes_same (load_within (texts_of raws) next records under limits keeps)

    met : (demand : Demand) → EditDemands records next (Load text) demand
    met held_number = tt
    met short_file = short
    met sdfile = (raws, is)
    met one_record = tt
    met molecules = all_of_file text raws is pass
    met kept_limits = limits_kept

-- ---- a replacement

-- no record has the number
pub no_record_to_replace : (records : List RecordRow) (next number : ℕ) (text : List ℕ) → is_held number records ≡ false → IsFirstRefusal records next (Replace number text) refusal.NoRecord
no_record_to_replace records next number text none = record {
  demand = held_number;
  before = none_met (EditDemands records next (Replace number text));
  fails = λ held. true≢false (sym held ∙ none);
  says = refl;
}

-- records that are one
pub single : (raws : List RawRecord) → length raws ≡ 1 → (raw : RawRecord) × (raws ≡ raw ∷ [])
single [] is = absurd (omega arith)
single (raw ∷ []) is = (raw, refl)
single (raw ∷ other ∷ raws) is = absurd (omega arith)

same_only : (a b : RawRecord) → a ∷ [] ≡ b ∷ [] → a ≡ b
same_only a b h = cc

module _ (records : List RecordRow) (next number : ℕ) (file : List ℕ) (held : is_held number records ≡ true)
    (mol : Molecule) (holds : HoldsMolecule file mol) (text : List ℕ) (its : HoldsText file text) where
  -- a library that is full
  pub replace_full : (KeepsLimits (PutRecord number text) (record_tables records next) → ⊥) → IsFirstRefusal records next (Replace number file) refusal.Full
  replace_full full = record {
    demand = kept_limits;
    before = before;
    fails = λ keep. full (keep (PutRecord number text ∷ []) (its.0, its.1, ap (λ (t : List ℕ). PutRecord number t ∷ []) its.2));
    says = refl;
  }
    where
      before : MetBelow (EditDemands records next (Replace number file)) 6
      before held_number below = held
      before short_file below = holds.met short_file
      before sdfile below = holds.met sdfile
      before one_record below = holds.met one_record
      before molecules below = holds.met molecules
      before kept_limits below = absurd (omega (arith, below))

  -- a replacement that is allowed
  pub replace_allowed : KeepsLimits (PutRecord number text) (record_tables records next) → IsAllowedEdit records next (Replace number file) (PutRecord number text ∷ [])
  replace_allowed keeps = record {
    met = met;
    are = (its.0, its.1, ap (λ (t : List ℕ). PutRecord number t ∷ []) its.2);
  }
    where
      limits_kept : (changes : List Change) → AreChanges next (Replace number file) changes → IsWithinLimits (after_batch changes (record_tables records next)).records
      limits_kept changes (other, are, same) =
          let raw_same : its.0 ≡ other = same_only its.0 other (one (lines_of file) (its.0 ∷ []) (other ∷ []) its.1 are) in
          let texts : text ≡ other.text = its.2 ∙ ap (λ (x : RawRecord). x.text) raw_same in
          let changes_same : PutRecord number text ∷ [] ≡ changes = ap (λ (t : List ℕ). PutRecord number t ∷ []) texts ∙ sym same in
          subst (λ xs. IsWithinLimits (after_batch xs (record_tables records next)).records) changes_same keeps

      met : (demand : Demand) → EditDemands records next (Replace number file) demand
      met held_number = held
      met short_file = holds.met short_file
      met sdfile = holds.met sdfile
      met one_record = holds.met one_record
      met molecules = holds.met molecules
      met kept_limits = limits_kept

  -- its change and its molecule are prepared
  pub replace_prepared : number ≤ most_number → ArePrepared (PutRecord number text ∷ []) (mol ∷ [])
  replace_prepared known =
      let only = holds.only in
      let passes : IsMoleculeRecord only = All-head IsMoleculeRecord only [] (holds.met molecules (only ∷ []) holds.read) in
      let raw_same : only ≡ its.0 = same_only only its.0 (one (lines_of file) (only ∷ []) (its.0 ∷ []) holds.read its.1) in
      let texts : only.text ≡ text = ap (λ (x : RawRecord). x.text) raw_same ∙ sym its.2 in
      subst (λ (t : List ℕ). ArePrepared (PutRecord number t ∷ []) (mol ∷ [])) texts
      (file_prepared file (only ∷ []) (mol ∷ []) number holds.read (passes, holds.filled, holds.kept, tt) (λ i less. omega (arith, known, less)))

-- a number that is held can be kept
pub held_known : (n : ℕ) (records : List RecordRow) → AllByRecursion HasKnownNumber records → is_held n records ≡ true → n ≤ most_number
held_known n [] known held = cc
held_known n (x ∷ records) known held =
    cond_both (nat_eq x.number n) true (is_held n records) (λ b. b ≡ true → n ≤ most_number)
    (λ e. λ _. let same : x.number ≡ n = eqb-true _ _ e in omega (arith, same, known.0))
    (λ e. λ later. held_known n records known.1 later)
    (grind (arith, common_steps, held))

-- ---- a removal

pub no_record_to_remove : (records : List RecordRow) (next number : ℕ) → is_held number records ≡ false → IsFirstRefusal records next (Remove number) refusal.NoRecord
no_record_to_remove records next number none = record {
  demand = held_number;
  before = none_met (EditDemands records next (Remove number));
  fails = λ held. true≢false (sym held ∙ none);
  says = refl;
}

pub remove_allowed : (records : List RecordRow) (next number : ℕ) → is_held number records ≡ true → IsAllowedEdit records next (Remove number) (DropRecord number ∷ [])
remove_allowed records next number held = record { met = met; are = refl }
  where
    met : (demand : Demand) → EditDemands records next (Remove number) demand
    met held_number = held
    met short_file = tt
    met sdfile = tt
    met one_record = tt
    met molecules = tt
    met kept_limits = tt

fewer_left : (n : ℕ) (records : List RecordRow) → length (outside.without record_number n records) ≤ length records
unfolding outside.without
fewer_left n [] = omega arith
fewer_left n (x ∷ records) = grind (arith, common_steps, fewer_left n records)

less_left : (n : ℕ) (records : List RecordRow) → text_bytes (outside.without record_number n records) ≤ text_bytes records
unfolding outside.without
less_left n [] = omega arith
less_left n (x ∷ records) = grind (arith, common_steps, less_left n records)

known_left : (n : ℕ) (records : List RecordRow) → AllByRecursion HasKnownNumber records → AllByRecursion HasKnownNumber (outside.without record_number n records)
unfolding outside.without
known_left n [] known = tt
known_left n (x ∷ records) known =
    cond_both (not (nat_eq x.number n)) (x ∷ outside.without record_number n records) (outside.without record_number n records) (AllByRecursion HasKnownNumber)
    (λ e. (known.0, known_left n records known.1)) (λ e. known_left n records known.1)

pub remove_keeps : (n : ℕ) (records : List RecordRow) → IsWithinLimits records → IsWithinLimits (outside.without record_number n records)
remove_keeps n records limits = record {
  few = let fewer = fewer_left n records in omega (arith, fewer, limits.few);
  short = let less = less_left n records in omega (arith, less, limits.short);
  numbers = known_left n records limits.numbers;
}
