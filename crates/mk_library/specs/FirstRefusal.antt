-- What is demanded of an edit, in order, and the first demand that it doesn't meet.
--     Demand                                    the six demands; `demand_number` gives their places
--     FileDemands text demand                   what a demand asks of a file of one record
--     EditDemands records next edit demand      what a demand asks of the edit of a library with
--                                               these records and next number
--     IsAllowedEdit records next edit changes   every demand is met, and these are the changes
--     HoldsMolecule text mol                    every demand on the file is met, and this is the
--                                               molecule of its record
--     IsFirstUnmet Demands text refusal         the first demand that isn't met, and what is said
--                                               of it
--     IsFirstRefusal records next edit refusal, IsFirstFileRefusal text refusal     the same of an
--                                               edit, and of a file of one record
use Rattle.std.specs.Prelude.{◌≡◌, ◌↔◌, ℕ, ◌+◌, ◌<◌, ◌≤◌, Bool, true, List, [], ◌∷◌, ◌++◌, length, All, IsTrue, Result, Ok, Err, ⊤}
use Rattle.mk_text.specs.Lines.{lines_of}
use Rattle.mk_outside.specs.declared.tables.Change.{Change}
use Rattle.mk_outside.specs.declared.tables.RecordRow.{RecordRow}
use Rattle.mk_outside.specs.Tables.{after_batch}
use Rattle.mk_sdfile.specs.declared.raw_record.RawRecord.{RawRecord}
use Rattle.mk_sdfile.specs.Sdfile.{IsBadSdfileLine, IsSdfile, IsNamedV3000}
use Rattle.mk_model.specs.Molecules.{IsMolecule, Molecule}
use Rattle.mk_mol.specs.Filled.{IsFilled}
use Rattle.mk_mol.specs.FirstFault.{IsFirstMoleculeFault, MeetsAllChecks}
use Rattle.mk_library.specs.declared.refusal.LoadRefusal.{LoadRefusal}
use Rattle.mk_library.specs.declared.refusal.LoadRefusal.TheVariants as refusal
use Rattle.mk_library.specs.Records.{is_held}
use Rattle.mk_library.specs.Limits.{IsWithinLimits, file_bytes}
use Rattle.mk_library.specs.Library.{record_tables}
use Rattle.mk_library.specs.Edits.{AreChanges, Edit, Load, Replace, Remove}

-- The number is held; the file is short; it is an SDfile; it holds one record; its records are
-- molecules; the limits of the library are kept.
pub data Demand : Type 0 where
  held_number : Demand
  short_file : Demand
  sdfile : Demand
  one_record : Demand
  molecules : Demand
  kept_limits : Demand

-- the demands count from 1, in their order
abbrev pub demand_number : Demand → ℕ
demand_number held_number = 1
demand_number short_file = 2
demand_number sdfile = 3
demand_number one_record = 4
demand_number molecules = 5
demand_number kept_limits = 6

-- the table of the record passes the checks of molecules
abbrev pub IsMoleculeRecord : RawRecord → Type 0
IsMoleculeRecord raw = MeetsAllChecks raw.table

-- the limits are kept by the changes that the edit makes
abbrev pub KeepsTheLimits : List RecordRow → ℕ → Edit → Type 0
KeepsTheLimits records next edit =
    (changes : List Change) → AreChanges next edit changes → IsWithinLimits (after_batch changes (record_tables records next)).records

-- What a demand asks of a file that is to hold one record. It asks for no number, and for no limits
-- of a library.
abbrev pub FileDemands : List ℕ → Demand → Type 0
FileDemands text held_number = ⊤
FileDemands text short_file = length text ≤ file_bytes
FileDemands text sdfile = (raws : List RawRecord) × IsSdfile (lines_of text) raws
FileDemands text one_record = (raw : RawRecord) × IsSdfile (lines_of text) (raw ∷ [])
FileDemands text molecules = (raws : List RawRecord) → IsSdfile (lines_of text) raws → All IsMoleculeRecord raws
FileDemands text kept_limits = ⊤

-- What a demand asks of an edit. A load asks for no number and for any number of records, a removal
-- for no file.
abbrev pub EditDemands : List RecordRow → ℕ → Edit → Demand → Type 0
EditDemands records next (Load text) held_number = ⊤
EditDemands records next (Load text) one_record = ⊤
EditDemands records next (Load text) kept_limits = KeepsTheLimits records next (Load text)
EditDemands records next (Load text) demand = FileDemands text demand
EditDemands records next (Replace number text) held_number = is_held number records ≡ true
EditDemands records next (Replace number text) kept_limits = KeepsTheLimits records next (Replace number text)
EditDemands records next (Replace number text) demand = FileDemands text demand
EditDemands records next (Remove number) held_number = is_held number records ≡ true
EditDemands records next (Remove number) demand = ⊤

-- every demand on the edit is met, and these are its changes
pub record IsAllowedEdit (records : List RecordRow) (next : ℕ) (edit : Edit) (changes : List Change) : Type 0 where
  pub met : (demand : Demand) → EditDemands records next edit demand
  pub are : AreChanges next edit changes

-- every demand on a file of one record is met, and this is the filled molecule of the record
pub record HoldsMolecule (text : List ℕ) (mol : Molecule) : Type 0 where
  pub met : (demand : Demand) → FileDemands text demand
  pub only : RawRecord
  pub read : IsSdfile (lines_of text) (only ∷ [])
  pub filled : IsFilled only.table mol
  pub kept : IsMolecule mol

-- the file has one record, and this is its text
abbrev pub HoldsText : List ℕ → List ℕ → Type 0
HoldsText file text = (only : RawRecord) × IsSdfile (lines_of file) (only ∷ []) × (text ≡ only.text)

-- the record of this number, from 1, is no molecule and fails so, and those before it are molecules
pub record IsFirstFailing (raws : List RawRecord) (number check item : ℕ) : Type 0 where
  pub earlier : List RawRecord
  pub raw : RawRecord
  pub later : List RawRecord
  pub whole : raws ≡ earlier ++ raw ∷ later
  pub counted : number ≡ length earlier + 1
  pub before : All IsMoleculeRecord earlier
  pub fails : IsFirstMoleculeFault raw.table check item

-- what is said of a demand that isn't met by a file of this text; a removal has none
abbrev pub IsSaidOf : List ℕ → Demand → LoadRefusal → Type 0
IsSaidOf text held_number said = said ≡ refusal.NoRecord
IsSaidOf text short_file said = said ≡ refusal.FileLarge
IsSaidOf text sdfile said =
    (line : ℕ) × (v3000 : Bool) × (said ≡ refusal.Layout line v3000) × IsBadSdfileLine (lines_of text) line × (IsTrue v3000 ↔ IsNamedV3000 (lines_of text) line)
IsSaidOf text one_record said = (raws : List RawRecord) × IsSdfile (lines_of text) raws × (said ≡ refusal.NotOne (length raws))
IsSaidOf text molecules said =
    (raws : List RawRecord) × (number : ℕ) × (check : ℕ) × (item : ℕ) × IsSdfile (lines_of text) raws
    × (said ≡ refusal.Meaning number check item) × IsFirstFailing raws number check item
IsSaidOf text kept_limits said = said ≡ refusal.Full

-- the text of the file of an edit
abbrev pub text_of_edit : Edit → List ℕ
text_of_edit (Load text) = text
text_of_edit (Replace number text) = text
text_of_edit (Remove number) = []

-- Of these demands on what has a file of this text, those before one are met, that one isn't, and so
-- much is said of it.
pub record IsFirstUnmet (Demands : Demand → Type 0) (text : List ℕ) (said : LoadRefusal) : Type 0 where
  pub demand : Demand
  pub before : (earlier : Demand) → demand_number earlier < demand_number demand → Demands earlier
  pub fails : ¬ (Demands demand)
  pub says : IsSaidOf text demand said

-- the first demand that the edit doesn't meet, and what is said of it
abbrev pub IsFirstRefusal : List RecordRow → ℕ → Edit → LoadRefusal → Type 0
IsFirstRefusal records next edit said = IsFirstUnmet (EditDemands records next edit) (text_of_edit edit) said

-- the first demand that a file of one record doesn't meet, and what is said of it
abbrev pub IsFirstFileRefusal : List ℕ → LoadRefusal → Type 0
IsFirstFileRefusal text said = IsFirstUnmet (FileDemands text) text said

-- ---- answers

-- where an edit is refused, P holds of what is said; want of memory is free
abbrev pub IfRefused : {T : Type 0} → Result T LoadRefusal → (LoadRefusal → Type 0) → Type 0
IfRefused (Ok value) P = ⊤
IfRefused (Err refusal.Memory) P = ⊤
IfRefused (Err said) P = P said
