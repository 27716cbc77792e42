-- Laws of enumerations.
--     StructuresAreAnSdfile      their text is an SDfile, of a record for each structure
use Rattle.std.specs.Prelude.{ℕ, List, [], ◌∷◌}
use Rattle.mk_text.specs.Lines.{lines_of}
use Rattle.mk_model.specs.Queries.{QueryView}
use Rattle.mk_sdfile.specs.declared.raw_record.RawRecord.{RawRecord}
use Rattle.mk_sdfile.specs.Sdfile.{IsSdfile}
use Rattle.mk_enum.specs.declared.listed.Structures.{Structures}
use Rattle.mk_enum.specs.Enumerations.{IsEnumeration, IsStructure}
use Rattle.mk_enum.specs.StructureTables.{IsTableOf}

-- the table of a record is that of the structure of a code
pub record IsRecordOf (query : QueryView) (code : List ℕ) (of : RawRecord) : Type 0 where
  pub structure : IsStructure query code
  pub drawn : IsTableOf structure.graph of.table

-- the records are those of the codes, one for each and in order
abbrev pub AreRecordsOf : QueryView → List (List ℕ) → List RawRecord → Type 0
AreRecordsOf query [] [] = Unit {0}
AreRecordsOf query [] (one ∷ records) = ⊥
AreRecordsOf query (code ∷ codes) [] = ⊥
AreRecordsOf query (code ∷ codes) (one ∷ records) = IsRecordOf query code one × AreRecordsOf query codes records

-- the text is an SDfile, with a record for each of the codes
abbrev pub IsSdfileOf : QueryView → List (List ℕ) → List ℕ → Type 0
IsSdfileOf query codes text =
    (records : List RawRecord) × IsSdfile (lines_of text) records × AreRecordsOf query codes records

-- the text of an enumeration is an SDfile, with a record for each of its codes
abbrev pub StructuresAreAnSdfile : Type 0
StructuresAreAnSdfile =
    (query : QueryView) (place : List ℕ) (limit : ℕ) (found : Structures) → IsEnumeration query place limit found
    → IsSdfileOf query found.codes found.text
