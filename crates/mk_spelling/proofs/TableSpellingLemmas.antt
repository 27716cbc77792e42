-- What is written of a table is that table.
use Rattle.std.proofs.Common.{◌≡◌, ℕ, true, not, eqb, All, List, [], ◌∷◌, ◌++◌, get_or, map, refl, sym, ap, ◌∙◌, Option, Some, subst}
use Rattle.std.specs.List.{AllByRecursion}
use Rattle.std.proofs.lemmas.List.Elements.{recursion_from_All, All-from_recursion}
use Rattle.std.proofs.lemmas.Bool.{eq-eqb}
use Rattle.std.proofs.lemmas.List.{get_or_default, same_from_push}
use Rattle.mk_text.specs.Columns.{columns}
use Rattle.mk_text.specs.Lines.{IsWholeLine, lines_of}
use Rattle.mk_text.proofs.ForCallers.{list_all_at, text_of_lines_is_read}
use Rattle.mk_form.specs.Rows.{Series}
use Rattle.mk_props.specs.declared.property.Property.{Property}
use Rattle.mk_props.specs.declared.property.Property.TheVariants as kinds
use Rattle.mk_props.specs.Property.{IsProperty}
use Rattle.mk_tables.specs.declared.raw.RawAtom.{RawAtom}
use Rattle.mk_tables.specs.declared.raw.RawTable.{RawTable}
use Rattle.mk_tables.specs.Table.{Spell, IsKept, IsBlock, values_of, IsTable}
use Rattle.mk_tables.specs.TableLines.{Line, raw_atom_of, raw_bond_of, list_of}
use Rattle.mk_text.specs.Lines.{EndsWith}
use Rattle.mk_spelling.specs.TableSpelling.{counts_line, atom_line, bond_line, numbers_line, property_line, end_line, table_lines, table_spelling, AtomFits, BondFits, ListFits, PropertyFits, IsSymbol, SymbolsFit, SymbolsEnd, RangeFits, CanBeSpelt, SpellingIsRead, EndsWithNoBlank}
use Rattle.mk_spelling.proofs.LineSpellingLemmas.{counts_are_read, atom_is_read, bond_is_read, list_is_read, each_of}
use Rattle.mk_spelling.proofs.PropertySpellingLemmas.{property_is_read}
use Rattle.mk_spelling.proofs.WholeLineLemmas.{EndsAsLine, counts_whole, atom_whole, bond_whole, list_whole, property_whole, end_whole}

-- ---- all of some lists

-- what holds of each of two lists
both_lists : {X : Type 0} (P : X → Type 0) (xs ys : List X) → AllByRecursion P xs → AllByRecursion P ys → AllByRecursion P (xs ++ ys)
both_lists P [] ys first second = second
both_lists P (x ∷ xs) ys first second = (first.0, both_lists P xs ys first.1 second)

-- what holds of each line
each_line : {X : Type 0} (P : Line → Type 0) (line : X → Line) (xs : List X) → AllByRecursion (λ x. P (line x)) xs → AllByRecursion P (map line xs)
each_line P line [] each = tt
each_line P line (x ∷ xs) each = (each.0, each_line P line xs each.1)

-- a fact of each, from five facts of each
each_by : {X : Type 0} (A B C D E Q : X → Type 0) → ((x : X) → A x → B x → C x → D x → E x → Q x) → (xs : List X)
    → AllByRecursion A xs → AllByRecursion B xs → AllByRecursion C xs → AllByRecursion D xs → AllByRecursion E xs → AllByRecursion Q xs
each_by A B C D E Q gives [] a b c d e = tt
each_by A B C D E Q gives (x ∷ xs) a b c d e = (gives x a.0 b.0 c.0 d.0 e.0, each_by A B C D E Q gives xs a.1 b.1 c.1 d.1 e.1)

-- a fact of each atom
each_atom : (Q : RawAtom → Type 0) → ((atom : RawAtom) → AtomFits atom → IsSymbol 3 atom.symbol → Q atom) → (atoms : List RawAtom)
    → AllByRecursion AtomFits atoms → AllByRecursion (λ atom. IsSymbol 3 atom.symbol) atoms → AllByRecursion Q atoms
each_atom Q gives [] fit symbols = tt
each_atom Q gives (atom ∷ atoms) fit symbols = (gives atom fit.0 symbols.0, each_atom Q gives atoms fit.1 symbols.1)

-- the atoms of a table that can be spelt
atoms_of : (table : RawTable) → CanBeSpelt table → (Q : RawAtom → Type 0) → ((atom : RawAtom) → AtomFits atom → IsSymbol 3 atom.symbol → Q atom) → AllByRecursion Q table.atoms
atoms_of table can Q gives =
    each_atom Q gives table.atoms (recursion_from_All AtomFits table.atoms can.atoms) (recursion_from_All (λ atom. IsSymbol 3 atom.symbol) table.atoms can.symbols)

-- and its properties
properties_of : (table : RawTable) → CanBeSpelt table → (Q : Property → Type 0)
    → ((property : Property) → IsKept property → PropertyFits property → SymbolsFit property → SymbolsEnd property → RangeFits property → Q property) → AllByRecursion Q table.props
properties_of table can Q gives =
    each_by IsKept PropertyFits SymbolsFit SymbolsEnd RangeFits Q gives table.props (recursion_from_All IsKept table.props can.kept)
    (recursion_from_All PropertyFits table.props can.properties) (recursion_from_All SymbolsFit table.props can.list_symbols)
    (recursion_from_All SymbolsEnd table.props can.list_symbols_end) (recursion_from_All RangeFits table.props can.ranges)

-- ---- the lines of a table

-- each is fit
all_whole : (table : RawTable) → CanBeSpelt table → AllByRecursion EndsAsLine (table_lines table)
all_whole table can =
    let properties : AllByRecursion EndsAsLine (map property_line table.props ++ end_line ∷ []) =
    both_lists EndsAsLine (map property_line table.props) (end_line ∷ [])
    (each_line EndsAsLine property_line table.props (properties_of table can (λ property. EndsAsLine (property_line property)) property_whole)) (end_whole, tt) in
    let lists : AllByRecursion EndsAsLine (map numbers_line table.lists ++ (map property_line table.props ++ end_line ∷ [])) =
    both_lists EndsAsLine (map numbers_line table.lists) (map property_line table.props ++ end_line ∷ [])
    (each_line EndsAsLine numbers_line table.lists (each_of ListFits (λ list. EndsAsLine (numbers_line list)) list_whole table.lists can.lists)) properties in
    let bonds : AllByRecursion EndsAsLine (map bond_line table.bonds ++ (map numbers_line table.lists ++ (map property_line table.props ++ end_line ∷ []))) =
    both_lists EndsAsLine (map bond_line table.bonds) (map numbers_line table.lists ++ (map property_line table.props ++ end_line ∷ []))
    (each_line EndsAsLine bond_line table.bonds (each_of BondFits (λ bond. EndsAsLine (bond_line bond)) bond_whole table.bonds can.bonds)) lists in (
      counts_whole table can.few_atoms can.few_bonds can.few_lists,
      both_lists EndsAsLine (map atom_line table.atoms) (map bond_line table.bonds ++ (map numbers_line table.lists ++ (map property_line table.props ++ end_line ∷ [])))
          (each_line EndsAsLine atom_line table.atoms (atoms_of table can (λ atom. EndsAsLine (atom_line atom)) atom_whole)) bonds,
    )

-- two texts with last bytes that are alike have one
same_last : (front other : List ℕ) (c d : ℕ) → front ++ c ∷ [] ≡ other ++ d ∷ [] → c ≡ d
same_last front other c d same = (same_from_push front other c d same).1

-- a line that ends so is whole
is_whole : (line : Line) → EndsAsLine line → IsWholeLine line
is_whole line fit = record {
  no_lf = λ held.
      let test : not (eqb (get_or line held.0 0) 10) ≡ true = list_all_at (λ c. not (eqb c 10)) line held.0 fit.no_lf held.1 in
      let lf : eqb (get_or line held.0 0) 10 ≡ true = eq-eqb (get_or line held.0 0) 10 (get_or_default line held.0 0 10 held.1 ∙ held.2) in
      absurd (cc (test, lf));
  no_cr = λ ends.
      let end = fit.end in
      let cr : eqb end.last 13 ≡ true = eq-eqb end.last 13 (same_last end.front ends.0 end.last 13 (sym end.whole ∙ ends.1)) in
      absurd (cc (cr, end.no_cr));
}

-- and so are all
are_whole : (lines : List Line) → AllByRecursion EndsAsLine lines → AllByRecursion IsWholeLine lines
are_whole [] fit = tt
are_whole (line ∷ lines) fit = (is_whole line fit.0, are_whole lines fit.1)

-- so they are the lines of the spelling
lines_are : (table : RawTable) → CanBeSpelt table → lines_of (table_spelling table) ≡ table_lines table
unfolding table_spelling
lines_are table can = text_of_lines_is_read (table_lines table) (All-from_recursion IsWholeLine (table_lines table) (are_whole (table_lines table) (all_whole table can)))

-- lines that each spell a value
spell_each : {V : Type 0} (says : Line → Option V) (line : V → Line) (values : List V) → AllByRecursion (λ value. says (line value) ≡ Some value) values
    → Spell says (map line values) values
spell_each says line [] each = refl
spell_each says line (value ∷ values) each =
    (line value ∷ [], map line values, refl, record { line = line value; whole = refl; spells = each.0 }, spell_each says line values each.1)

-- a property with its line
record IsWritten (property : Property) : Type 0 where
  kept : IsKept property
  is : IsProperty (property_line property) property

-- each is kept
blocks_each : (properties : List Property) → AllByRecursion IsWritten properties → Series IsBlock (map property_line properties) (map (λ property. Some property) properties)
blocks_each [] each = refl
blocks_each (property ∷ properties) each = (
  property_line property ∷ [],
  map property_line properties,
  refl,
  record { line = property_line property; whole = refl; is = each.0.is; kept = each.0.kept },
  blocks_each properties each.1,
)

-- none is left out
all_there : (properties : List Property) → properties ≡ values_of (map (λ property. Some property) properties)
all_there [] = refl
all_there (property ∷ properties) = ap (λ (rest : List Property). property ∷ rest) (all_there properties)

-- the last line is the end
end_is_read : IsProperty end_line kinds.End
unfolding columns
end_is_read = refl

-- the lines are the table
lines_are_table : (table : RawTable) → CanBeSpelt table → IsTable (table_lines table) table
lines_are_table table can =
    record {
      counts_line = counts_line table;
      atom_lines = map atom_line table.atoms;
      bond_lines = map bond_line table.bonds;
      list_lines = map numbers_line table.lists;
      stext_lines = [];
      property_lines = map property_line table.props;
      last_line = end_line;
      whole = refl;
      stext = 0;
      counted = counts_are_read table can.few_atoms can.few_bonds can.few_lists;
      atoms = spell_each raw_atom_of atom_line table.atoms (atoms_of table can (λ atom. raw_atom_of (atom_line atom) ≡ Some atom) atom_is_read);
      bonds = spell_each raw_bond_of bond_line table.bonds (each_of BondFits (λ bond. raw_bond_of (bond_line bond) ≡ Some bond) bond_is_read table.bonds can.bonds);
      lists = spell_each list_of numbers_line table.lists (each_of ListFits (λ list. list_of (numbers_line list) ≡ Some list) list_is_read table.lists can.lists);
      two_each = refl;
      properties = record {
        blocks = map (λ property. Some property) table.props;
        each = blocks_each table.props (properties_of table can IsWritten
            (λ property kept fits symbols ends range. record { kept = kept; is = property_is_read property kept fits symbols ends range }));
        kept = all_there table.props;
      };
      ended = end_is_read;
    }

-- ---- the laws

-- what is written is read
pub is_read : SpellingIsRead
is_read table can = subst (λ (lines : List Line). IsTable lines table) (sym (lines_are table can)) (lines_are_table table can)

-- a line that ends so ends with no blank
no_blank : (line : Line) → EndsAsLine line → EndsWith 32 line → ⊥
no_blank line fit ends =
    let end = fit.end in
    let blank : end.last ≡ 32 = same_last end.front ends.0 end.last 32 (sym end.whole ∙ ends.1) in
    let other : eqb end.last 32 ≡ true = eq-eqb end.last 32 blank in
    absurd (cc (other, end.no_blank))

-- so none of them does
none_blank : (lines : List Line) → AllByRecursion EndsAsLine lines → AllByRecursion (λ line. EndsWith 32 line → ⊥) lines
none_blank [] fit = tt
none_blank (line ∷ lines) fit = (no_blank line fit.0, none_blank lines fit.1)

-- and no line ends with a blank
pub no_blank_ends : EndsWithNoBlank
no_blank_ends table can =
    subst (λ (lines : List Line). All (λ line. EndsWith 32 line → ⊥) lines) (sym (lines_are table can))
    (All-from_recursion (λ line. EndsWith 32 line → ⊥) (table_lines table) (none_blank (table_lines table) (all_whole table can)))
