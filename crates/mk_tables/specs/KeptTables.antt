-- Tables whose text can be kept: the lines without the CR bytes at their ends are the same table.
--     KeepsItsText table            no atom symbol, no symbol of an `M  ALS` and no range text ends
--                                   with CR
--     HoldNoTexts props             no `M  ALS` and no `M  LOG` among these properties
--     KeptLinesAreTheTable          the law, for a whole list of lines and for a table that begins
--                                   at a line
use Rattle.std.specs.Prelude.{ℕ, List, map, All}
use Rattle.mk_text.specs.KeptLines.{without_crs}
use Rattle.mk_text.specs.Lines.{EndsWith}
use Rattle.mk_props.specs.declared.property.Property.{Property}
use Rattle.mk_props.specs.declared.property.Property.TheVariants as kinds
use Rattle.mk_tables.specs.declared.raw.RawTable.{RawTable}
use Rattle.mk_tables.specs.Table.{IsTable}
use Rattle.mk_tables.specs.TableLaws.{IsTableFrom}
use Rattle.mk_tables.specs.TableLines.{Line}

-- no symbol of an `M  ALS` and no range text of an `M  LOG` ends with CR, byte 13
abbrev pub EndsWithoutCr : Property → Type 0
EndsWithoutCr (kinds.List list) = All (λ symbol. ¬ (EndsWith 13 symbol)) list.symbols
EndsWithoutCr (kinds.Logic logic) = ¬ (EndsWith 13 logic.range)
EndsWithoutCr p = Unit {0}

-- No atom symbol, no symbol of an `M  ALS` and no range text ends with CR. Who keeps the text of a
-- table with no CR at a line's end asks for it.
pub record KeepsItsText (table : RawTable) : Type 0 where
  pub symbols : All (λ atom. ¬ (EndsWith 13 atom.symbol)) table.atoms
  pub properties : All EndsWithoutCr table.props

-- the property holds no text: it is no `M  ALS` and no `M  LOG`
abbrev pub HoldsNoText : Property → Type 0
HoldsNoText (kinds.List list) = ⊥
HoldsNoText (kinds.Logic logic) = ⊥
HoldsNoText p = Unit {0}

-- none of these properties holds text
abbrev pub HoldNoTexts : List Property → Type 0
HoldNoTexts props = All HoldsNoText props

-- ---- the law

-- the lines of a table that keeps its text are, without the CR bytes at their ends, the same table
abbrev pub KeptLinesAreTheTable : Type 0
KeptLinesAreTheTable = (lines : List Line) (table : RawTable) → IsTable lines table → KeepsItsText table → IsTable (map without_crs lines) table

-- where the table that begins at a line keeps its text, the same table begins there once CR bytes
-- are taken from the ends of all lines
abbrev pub KeptLinesAreTheTableFrom : Type 0
KeptLinesAreTheTableFrom =
    (at : ℕ) (lines : List Line) (next : ℕ) (table : RawTable) → IsTableFrom at lines next table → KeepsItsText table
    → IsTableFrom at (map without_crs lines) next table
