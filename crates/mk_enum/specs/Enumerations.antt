-- The enumeration of a query: the structures that it stands for, in the order of its valid codes.
--     IsStructure query code                     the code is valid, and its expansion is writable
--     IsTextOf query code text                   the text of the structure of this code
--     AreTextsOf query codes text                the texts of their structures, joined
--     IsEnumeration query place limit found      the first so many structures from a place on
use Rattle.std.specs.Prelude.{◌≡◌, ◌++◌, ℕ, nat_lt, List, [], ◌∷◌, length}
use Rattle.mk_text.specs.Rising.{AreFirst, IsFrom, place_behind}
use Rattle.mk_model.specs.Expansions.{IsExpansion}
use Rattle.mk_model.specs.Graphs.{GraphView}
use Rattle.mk_model.specs.Logic.{IsValid}
use Rattle.mk_model.specs.Queries.{QueryView}
use Rattle.mk_tables.specs.declared.raw.RawTable.{RawTable}
use Rattle.mk_enum.specs.declared.listed.Structures.{Structures}
use Rattle.mk_enum.specs.StructureTables.{IsTableOf}
use Rattle.mk_enum.specs.Texts.{structure_text}
use Rattle.mk_enum.specs.Writable.{IsWritable}

-- the code is valid, and the expansion by it is writable
pub record IsStructure (query : QueryView) (code : List ℕ) : Type 0 where
  pub graph : GraphView
  pub valid : IsValid query code
  pub expanded : IsExpansion query code graph
  pub writable : IsWritable graph

-- the text of the structure of a code: that of the code and of the table of its expansion
pub record IsTextOf (query : QueryView) (code text : List ℕ) : Type 0 where
  pub structure : IsStructure query code
  pub table : RawTable
  pub drawn : IsTableOf structure.graph table
  pub is : text ≡ structure_text code table

-- the texts of the structures of these codes, one behind the other
abbrev pub AreTextsOf : QueryView → List (List ℕ) → List ℕ → Type 0
AreTextsOf query [] text = text ≡ []
AreTextsOf query (code ∷ codes) text =
    (front : List ℕ) × (back : List ℕ) × (text ≡ front ++ back) × IsTextOf query code front
    × AreTextsOf query codes back

-- The codes are the first so many that have a structure and aren't below the place, in rising
-- order. The text is their structures' texts, joined. The place is that behind the last of the
-- codes, or the given one where there is none. It has ended where the codes are fewer than were
-- asked for.
pub record IsEnumeration (query : QueryView) (place : List ℕ) (limit : ℕ) (found : Structures) : Type 0 where
  pub first : AreFirst limit (IsFrom (IsStructure query) place) found.codes
  pub texts : AreTextsOf query found.codes found.text
  pub behind : found.place ≡ place_behind place found.codes
  pub ended : found.ended ≡ nat_lt (length found.codes) limit
