-- A table by its parts, read from the left.
--     table_part                      the composed part: what stands behind one line depends on
--                                     what it says
--     table_at lines                  what reading a table from the first of the lines on gives
--     Answers lines answer reading    a reader that goes by an index answered what the reading
--                                     gives
--     AnswersText lines answer reading     a reader to the last line answered what the reading
--                                          gives
use Rattle.std.specs.Prelude.{◌≡◌, ℕ, ◌+◌, ◌*◌, Bool, true, false, List, [], Option, Some, None, Result, Ok, Err}
use Rattle.mk_form.specs.Exact.{Part}
use Rattle.mk_form.specs.Lines.{give, line, counts_line, line_where}
use Rattle.mk_form.specs.Reading.{Reading, Took, TakesLines, StopsAtLine}
use Rattle.mk_form.specs.Rows.{rows, any_lines}
use Rattle.mk_form.specs.Seen.{seen_as}
use Rattle.mk_form.specs.Sequence.{sequence}
use Rattle.mk_form.specs.Until.{until}
use Rattle.mk_props.specs.declared.property.Property.{Property}
use Rattle.mk_props.specs.declared.property.Property.TheVariants as kinds
use Rattle.mk_text.specs.Options.{◌>>=◌}
use Rattle.mk_props.specs.Reading.{property_of}
use Rattle.mk_tables.specs.declared.fault.TableFault.{TableFault}
use Rattle.mk_tables.specs.declared.fault.TableFault.TheVariants.{Bad, V3000, Memory}
use Rattle.mk_tables.specs.declared.raw.RawAtom.{RawAtom}
use Rattle.mk_tables.specs.declared.raw.RawBond.{RawBond}
use Rattle.mk_tables.specs.declared.raw.RawList.{RawList}
use Rattle.mk_tables.specs.declared.raw.RawTable.{RawTable}
use Rattle.mk_tables.specs.declared.table_lines.CountsLine.{CountsLine}
use Rattle.mk_tables.specs.TableLines.{Line, is_v3000, counts_of, raw_atom_of, raw_bond_of, list_of}
use Rattle.mk_tables.specs.Table.{values_of}

-- ---- property lines

-- the property is `M  END`
abbrev pub is_end : Property → Bool
is_end kinds.End = true
is_end p = false

-- the property is there, and is `M  END`
abbrev pub is_some_end : Option Property → Bool
is_some_end (Some p) = is_end p
is_some_end None = false

-- the line is `M  END`
abbrev pub is_end_line : Line → Bool
is_end_line l = is_some_end (property_of l)

-- a property that isn't the end
abbrev pub before_end : Property → Option Property
before_end kinds.End = None
before_end p = Some p

-- the property of a line that isn't the end
abbrev pub property_before_end : Line → Option Property
property_before_end l = property_of l >>= before_end

-- what stands behind a property line, up to the next
abbrev pub after_property : Property → Part Line (Option Property)
after_property (kinds.Passed n) = seen_as (λ _. None) (any_lines n)
after_property kinds.End = give None
after_property p = give (Some p)

-- a property line with the lines that it passes over
abbrev pub block : Part Line (Option Property)
block = sequence (line property_before_end) after_property

-- property lines with what they pass over, up to `M  END`
abbrev pub blocks_part : Part Line (List (Option Property) × Unit {0})
blocks_part = until is_end_line block (line_where is_end_line)

-- the properties that are kept, without the lines passed over
abbrev pub kept_in : List (Option Property) × Unit {0} → List Property
kept_in v = values_of v.0

-- the properties that are kept, up to `M  END`
abbrev pub properties_part : Part Line (List Property)
properties_part = seen_as kept_in blocks_part

-- ---- the table

-- the table of these atoms, bonds, atom lists and properties
abbrev pub table_with : List RawAtom → List RawBond → List RawList → List Property → RawTable
table_with atoms bonds lists props = record { atoms = atoms; bonds = bonds; lists = lists; props = props }

-- the property lines, where atoms, bonds and atom lists are known
abbrev pub after_stext : List RawAtom → List RawBond → List RawList → Part Line RawTable
after_stext atoms bonds lists = seen_as (table_with atoms bonds lists) properties_part

-- the stext entries, of two lines each, and the property lines
abbrev pub after_lists : CountsLine → List RawAtom → List RawBond → List RawList → Part Line RawTable
after_lists n atoms bonds lists = sequence (any_lines (2 * n.stext)) (λ _. after_stext atoms bonds lists)

-- the atom-list lines and all behind them
abbrev pub after_bonds : CountsLine → List RawAtom → List RawBond → Part Line RawTable
after_bonds n atoms bonds = sequence (rows n.lists (line list_of)) (after_lists n atoms bonds)

-- the bond lines and all behind them
abbrev pub after_atoms : CountsLine → List RawAtom → Part Line RawTable
after_atoms n atoms = sequence (rows n.bonds (line raw_bond_of)) (after_bonds n atoms)

-- the atom lines and all behind them
abbrev pub after_counts : CountsLine → Part Line RawTable
after_counts n = sequence (rows n.atoms (line raw_atom_of)) (after_atoms n)

-- a table from its counts line to `M  END`
abbrev pub table_part : Part Line RawTable
table_part = sequence (counts_line is_v3000 counts_of) after_counts

-- what reading a table from the first of the lines on gives
unfoldable pub table_at : List Line → Reading Line RawTable
table_at = table_part.read

-- ---- the answers of readers

-- the reading stopped at the line that the fault names; want of memory says nothing
abbrev pub Fails : {V : Type 0} → List Line → TableFault → Reading Line V → Type 0
Fails lines (Bad k) reading = StopsAtLine lines false k reading
Fails lines (V3000 k) reading = StopsAtLine lines true k reading
Fails lines Memory reading = Unit {0}

-- the reading gave this value and took the lines up to this index
abbrev pub Answers : {V : Type 0} → List Line → Result (V × ℕ) TableFault → Reading Line V → Type 0
Answers lines (Ok answer) reading = TakesLines lines answer.1 answer.0 reading
Answers lines (Err fault) reading = Fails lines fault reading

-- the reading gave this value and took all lines
abbrev pub AnswersText : {V : Type 0} → List Line → Result V TableFault → Reading Line V → Type 0
AnswersText lines (Ok value) reading = reading ≡ Took value []
AnswersText lines (Err fault) reading = Fails lines fault reading

-- the reading gave this value and took the one line of index `at`
abbrev pub AnswersLine : {V : Type 0} → List Line → ℕ → Result V TableFault → Reading Line V → Type 0
AnswersLine lines at (Ok value) reading = TakesLines lines (at + 1) value reading
AnswersLine lines at (Err fault) reading = Fails lines fault reading

-- the reading took the lines up to this index, which aren't looked at
abbrev pub AnswersIndex : List Line → Result ℕ TableFault → Reading Line (Unit {0}) → Type 0
AnswersIndex lines (Ok next) reading = TakesLines lines next tt reading
AnswersIndex lines (Err fault) reading = Fails lines fault reading

-- the line of index `at` is this property, or none
abbrev pub AnswersProperty : ℕ → Result Property TableFault → Option Property → Type 0
AnswersProperty at (Ok property) read = read ≡ Some property
AnswersProperty at (Err (Bad k)) read = (k ≡ at + 1) × (read ≡ None)
AnswersProperty at (Err (V3000 k)) read = ⊥
AnswersProperty at (Err Memory) read = Unit {0}
