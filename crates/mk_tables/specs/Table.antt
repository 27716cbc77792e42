-- Connection tables: a relation between a whole list of lines and a table.
--     IsTable lines table      the lines are, in order, those of the table
-- Which numbers the columns hold is said in TableLines.antt, and what a property line is in
-- mk_props.
use Rattle.std.specs.Prelude.{◌≡◌, ℕ, ◌*◌, List, [], ◌∷◌, ◌++◌, length, Option, Some, None}
use Rattle.mk_form.specs.Lines.{OneLine}
use Rattle.mk_form.specs.Rows.{Series}
use Rattle.mk_props.specs.declared.property.Property.{Property}
use Rattle.mk_props.specs.declared.property.Property.TheVariants as kinds
use Rattle.mk_props.specs.Property.{IsProperty}
use Rattle.mk_tables.specs.declared.raw.RawTable.{RawTable}
use Rattle.mk_tables.specs.TableLines.{Line, counts_of, raw_atom_of, raw_bond_of, list_of}

-- each line spells its value, in order
abbrev pub Spell : {V : Type 0} → (Line → Option V) → List Line → List V → Type 0
Spell says lines values = Series (OneLine says) lines values

-- ---- property lines

-- a property that a table keeps: any but a line passed over and the end
abbrev pub IsKept : Property → Type 0
IsKept (kinds.Passed n) = ⊥
IsKept kinds.End = ⊥
IsKept p = Unit {0}

-- one line, which is a property that a table keeps
pub record IsKeptLine (lines : List Line) (property : Property) : Type 0 where
  pub line : Line
  pub whole : lines ≡ line ∷ []
  pub is : IsProperty line property
  pub kept : IsKept property

-- a line that is passed over, and so many lines after it as it says, whatever they are
pub record IsPassedOver (lines : List Line) : Type 0 where
  pub line : Line
  pub after : List Line
  pub whole : lines ≡ line ∷ after
  pub is : IsProperty line (kinds.Passed (length after))

-- the lines are one property that is kept, or a line that is passed over with those after it
abbrev pub IsBlock : List Line → Option Property → Type 0
IsBlock lines (Some property) = IsKeptLine lines property
IsBlock lines None = IsPassedOver lines

-- the values of a list in which some are missing, in order
abbrev pub values_of : {V : Type 0} → List (Option V) → List V
values_of [] = []
values_of (Some v ∷ others) = v ∷ values_of others
values_of (None ∷ others) = values_of others

-- lines that are kept and lines that are passed over, with the properties of those that are kept
pub record AreProperties (lines : List Line) (properties : List Property) : Type 0 where
  pub blocks : List (Option Property)
  pub each : Series IsBlock lines blocks
  pub kept : properties ≡ values_of blocks

-- ---- the table

-- the counts line, a line for each atom, for each bond and for each atom list, two lines for each
-- stext entry, property lines, and `M  END`
pub record IsTable (lines : List Line) (table : RawTable) : Type 0 where
  pub counts_line : Line
  pub atom_lines : List Line
  pub bond_lines : List Line
  pub list_lines : List Line
  pub stext_lines : List Line
  pub property_lines : List Line
  pub last_line : Line
  pub whole : lines ≡ counts_line ∷ (atom_lines ++ (bond_lines ++ (list_lines ++ (stext_lines ++ (property_lines ++ last_line ∷ [])))))
  pub stext : ℕ
  pub counted : counts_of counts_line ≡ Some (record { atoms = length table.atoms; bonds = length table.bonds; lists = length table.lists; stext = stext })
  pub atoms : Spell raw_atom_of atom_lines table.atoms
  pub bonds : Spell raw_bond_of bond_lines table.bonds
  pub lists : Spell list_of list_lines table.lists
  pub two_each : length stext_lines ≡ 2 * stext
  pub properties : AreProperties property_lines table.props
  pub ended : IsProperty last_line kinds.End
