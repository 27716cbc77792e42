-- How a table is written.
--     three z, at_left n text      a number in three columns, a text in so many
--     counts_line table            the counts line
--     atom_line, bond_line, numbers_line, property_line      the line of an atom, a bond, an atom
--                                                            list, a property
--     table_spelling table         all lines of a table, each with LF behind it
--     CanBeSpelt table             what is written so is that table again
--     SpellingIsRead, EndsWithNoBlank      two laws of it
use Rattle.std.specs.Prelude.{◌≡◌, ℕ, ◌-◌, ◌≤◌, List, [], ◌∷◌, ◌++◌, length, map, replicate, All, Contains, ℤ, pos, neg_ℤ, ◌≤ℤ◌, decimal, codes}
use Rattle.std.specs.List.{flat_map}
use Rattle.mk_text.specs.Columns.{trimmed}
use Rattle.mk_text.specs.Lines.{EndsWith, lines_of, text_of}
use Rattle.mk_text.specs.Spelling.{signed_right_in}
use Rattle.mk_props.specs.Lists.{flag_text}
use Rattle.mk_props.specs.declared.property.Pair.{Pair}
use Rattle.mk_props.specs.declared.property.LinkEntry.{LinkEntry}
use Rattle.mk_props.specs.declared.property.AtomList.{AtomList}
use Rattle.mk_props.specs.declared.property.SiteOrder.{SiteOrder}
use Rattle.mk_props.specs.declared.property.LogicLine.{LogicLine}
use Rattle.mk_props.specs.declared.property.Property.{Property}
use Rattle.mk_props.specs.declared.property.Property.TheVariants as kinds
use Rattle.mk_tables.specs.declared.raw.RawAtom.{RawAtom}
use Rattle.mk_tables.specs.declared.raw.RawBond.{RawBond}
use Rattle.mk_tables.specs.declared.raw.RawList.{RawList}
use Rattle.mk_tables.specs.declared.raw.RawTable.{RawTable}
use Rattle.mk_tables.specs.Table.{IsKept, IsTable}
use Rattle.mk_tables.specs.TableLines.{Line}

-- ---- numbers and symbols

-- a number at the right of three columns
unfoldable pub three : ℤ → List ℕ
three z = signed_right_in 3 z

-- a blank, and a number at the right of three columns
abbrev pub spaced : ℤ → List ℕ
spaced z = codes " " ++ three z

-- the length of a list, at the right of three columns
abbrev pub count_text : {X : Type 0} → List X → List ℕ
count_text xs = three (pos (length xs))

-- a text at the left of so many columns
unfoldable pub at_left : ℕ → List ℕ → List ℕ
at_left width text = text ++ replicate (width - length text) 32

-- ---- lines before the properties

-- `aaabbblll  0  0  0            999 V2000`: the numbers of atoms, bonds and atom lists
unfoldable pub counts_line : RawTable → Line
counts_line table = count_text table.atoms ++ (count_text table.bonds ++ (count_text table.lists ++ codes "  0  0  0            999 V2000"))

-- `    0.0000    0.0000    0.0000 aaa 0ccc  0hhh  0vvv`: the symbol, and the columns of charge,
-- hydrogens and valence
unfoldable pub atom_line : RawAtom → Line
atom_line atom =
    codes "    0.0000    0.0000    0.0000 " ++ (at_left 3 atom.symbol ++ (codes " 0" ++ (three atom.charge ++ (codes "  0" ++ (three atom.hydrogens ++ (codes "  0" ++ three atom.valence))))))

-- `111222ttt  0  0rrr`: the two atoms, the type and the topology
unfoldable pub bond_line : RawBond → Line
bond_line bond = three bond.first ++ (three bond.second ++ (three bond.kind ++ (codes "  0  0" ++ three bond.topology)))

-- `aaa k    n 111 222 ..`: the atom, the flag, how many numbers there are, and the numbers
unfoldable pub numbers_line : RawList → Line
numbers_line list =
    three list.atom ++ (codes " " ++ (flag_text list.not ++ (codes "    " ++ (decimal (length list.numbers) ++ flat_map spaced list.numbers))))

-- ---- property lines

-- ` aaa vvv`
abbrev pub pair_text : Pair → List ℕ
pair_text pair = spaced pair.atom ++ spaced pair.value

-- `M  CHGnnn aaa vvv ..`: the word, how many pairs there are, and the pairs
unfoldable pub pairs_line : List ℕ → List Pair → Line
pairs_line word pairs = word ++ (count_text pairs ++ flat_map pair_text pairs)

-- ` aaa vvv bbb ccc`
abbrev pub link_text : LinkEntry → List ℕ
link_text link = spaced link.atom ++ (spaced link.most ++ (spaced link.from ++ spaced link.to))

-- `M  LINnnn aaa vvv bbb ccc ..`
unfoldable pub links_line : List LinkEntry → Line
links_line links = codes "M  LIN" ++ (count_text links ++ flat_map link_text links)

-- `M  AAL aaannn bbb ooo ..`
unfoldable pub order_line : SiteOrder → Line
order_line order = codes "M  AAL" ++ (spaced order.atom ++ (count_text order.entries ++ flat_map pair_text order.entries))

-- `M  ALS aaannn k ssss..`, with blanks behind the last symbol
abbrev pub wide_symbols_line : AtomList → Line
wide_symbols_line list =
    codes "M  ALS" ++ (spaced list.atom ++ (count_text list.symbols ++ (codes " " ++ (flag_text list.not ++ (codes " " ++ flat_map (at_left 4) list.symbols)))))

-- `M  ALS aaannn k ssss..` without blanks at its end: where the last symbol is empty, nothing
-- stands for it
unfoldable pub symbols_line : AtomList → Line
symbols_line list = trimmed (wide_symbols_line list)

-- `M  LOG  1 rrr iii hhh range`, with a blank behind the last number also where the range is empty
abbrev pub wide_logic_line : LogicLine → Line
wide_logic_line logic =
    codes "M  LOG  1" ++ (spaced logic.group ++ (spaced logic.then_group ++ (spaced logic.rest ++ (codes " " ++ logic.range))))

-- `M  LOG  1 rrr iii hhh range` without blanks at its end: where the range is empty, the line ends
-- with the last number
unfoldable pub logic_line : LogicLine → Line
logic_line logic = trimmed (wide_logic_line logic)

-- the last line of a table
abbrev pub end_line : Line
end_line = codes "M  END"

-- The line of each property. A line passed over isn't kept, so it isn't written.
abbrev pub property_line : Property → Line
property_line (kinds.Charge pairs) = pairs_line (codes "M  CHG") pairs
property_line (kinds.Radical pairs) = pairs_line (codes "M  RAD") pairs
property_line (kinds.Isotope pairs) = pairs_line (codes "M  ISO") pairs
property_line (kinds.RingBonds pairs) = pairs_line (codes "M  RBC") pairs
property_line (kinds.Substitution pairs) = pairs_line (codes "M  SUB") pairs
property_line (kinds.Unsaturation pairs) = pairs_line (codes "M  UNS") pairs
property_line (kinds.Label pairs) = pairs_line (codes "M  RGP") pairs
property_line (kinds.Points pairs) = pairs_line (codes "M  APO") pairs
property_line (kinds.Link links) = links_line links
property_line (kinds.List list) = symbols_line list
property_line (kinds.Order order) = order_line order
property_line (kinds.Logic logic) = logic_line logic
property_line (kinds.Passed n) = []
property_line kinds.End = end_line

-- ---- tables

-- the lines of a table, in the order of the format
abbrev pub table_lines : RawTable → List Line
table_lines table =
    counts_line table ∷ (map atom_line table.atoms ++ (map bond_line table.bonds ++ (map numbers_line table.lists ++ (map property_line table.props ++ end_line ∷ []))))

-- the text of a table: each line and LF behind it
unfoldable pub table_spelling : RawTable → List ℕ
table_spelling table = text_of (table_lines table)

-- ---- which tables can be spelt

-- a number from -99 to 999, which three columns can hold
pub record FitsThree (z : ℤ) : Type 0 where
  pub from : neg_ℤ (pos 99) ≤ℤ z
  pub to : z ≤ℤ pos 999

-- the numbers of an atom fit their columns
pub record AtomFits (atom : RawAtom) : Type 0 where
  pub charge : FitsThree atom.charge
  pub hydrogens : FitsThree atom.hydrogens
  pub valence : FitsThree atom.valence

-- the numbers of a bond fit their columns
pub record BondFits (bond : RawBond) : Type 0 where
  pub first : FitsThree bond.first
  pub second : FitsThree bond.second
  pub kind : FitsThree bond.kind
  pub topology : FitsThree bond.topology

-- the entries are at least one, and no more than a line holds
pub record IsCounted {X : Type 0} (most : ℕ) (entries : List X) : Type 0 where
  pub some : 1 ≤ length entries
  pub no_more : length entries ≤ most

-- the numbers of an atom list fit their columns, and the listed ones are one to five
pub record ListFits (list : RawList) : Type 0 where
  pub atom : FitsThree list.atom
  pub count : IsCounted 5 list.numbers
  pub numbers : All FitsThree list.numbers

-- the two numbers of a pair fit their columns
pub record PairFits (pair : Pair) : Type 0 where
  pub atom : FitsThree pair.atom
  pub value : FitsThree pair.value

-- the pairs are at least one, no more than a line holds, and fit their columns
pub record PairsFit (most : ℕ) (pairs : List Pair) : Type 0 where
  pub count : IsCounted most pairs
  pub each : All PairFits pairs

-- the four numbers of a link entry fit their columns
pub record LinkFits (link : LinkEntry) : Type 0 where
  pub atom : FitsThree link.atom
  pub most : FitsThree link.most
  pub from : FitsThree link.from
  pub to : FitsThree link.to

-- the link entries are one to four, and fit their columns
pub record LinksFit (links : List LinkEntry) : Type 0 where
  pub count : IsCounted 4 links
  pub each : All LinkFits links

-- the atom of an `M  ALS` fits its columns, and its symbols are one to sixteen
pub record AtomListFits (list : AtomList) : Type 0 where
  pub atom : FitsThree list.atom
  pub count : IsCounted 16 list.symbols

-- the site of an `M  AAL` fits its columns, and its entries are one or two that fit theirs
pub record OrderFits (order : SiteOrder) : Type 0 where
  pub atom : FitsThree order.atom
  pub entries : PairsFit 2 order.entries

-- the three numbers of an `M  LOG` fit their columns
pub record LogicFits (logic : LogicLine) : Type 0 where
  pub group : FitsThree logic.group
  pub then_group : FitsThree logic.then_group
  pub rest : FitsThree logic.rest

-- the entries of a property fit their columns, and there are so many as its line holds
abbrev pub PropertyFits : Property → Type 0
PropertyFits (kinds.Charge pairs) = PairsFit 8 pairs
PropertyFits (kinds.Radical pairs) = PairsFit 8 pairs
PropertyFits (kinds.Isotope pairs) = PairsFit 8 pairs
PropertyFits (kinds.RingBonds pairs) = PairsFit 8 pairs
PropertyFits (kinds.Substitution pairs) = PairsFit 8 pairs
PropertyFits (kinds.Unsaturation pairs) = PairsFit 8 pairs
PropertyFits (kinds.Label pairs) = PairsFit 8 pairs
PropertyFits (kinds.Points pairs) = PairsFit 2 pairs
PropertyFits (kinds.Link links) = LinksFit links
PropertyFits (kinds.List list) = AtomListFits list
PropertyFits (kinds.Order order) = OrderFits order
PropertyFits (kinds.Logic logic) = LogicFits logic
PropertyFits (kinds.Passed n) = Unit {0}
PropertyFits kinds.End = Unit {0}

-- a symbol has no outer blanks, holds no LF and fits so many columns
pub record IsSymbol (width : ℕ) (symbol : List ℕ) : Type 0 where
  pub no_blanks : trimmed symbol ≡ symbol
  pub no_lf : ¬ (Contains symbol 10)
  pub fits : length symbol ≤ width

-- each symbol of an `M  ALS` has no outer blanks, holds no LF and fits four columns
abbrev pub SymbolsFit : Property → Type 0
SymbolsFit (kinds.List list) = All (IsSymbol 4) list.symbols
SymbolsFit p = Unit {0}

-- no symbol of an `M  ALS` ends with CR, byte 13
abbrev pub SymbolsEnd : Property → Type 0
SymbolsEnd (kinds.List list) = All (λ symbol. ¬ (EndsWith 13 symbol)) list.symbols
SymbolsEnd p = Unit {0}

-- a range text holds no LF, and ends neither with CR nor with a blank
pub record IsRangeText (range : List ℕ) : Type 0 where
  pub no_lf : ¬ (Contains range 10)
  pub no_cr : ¬ (EndsWith 13 range)
  pub no_blank : ¬ (EndsWith 32 range)

-- the range of an `M  LOG` holds no LF, and ends neither with CR nor with a blank
abbrev pub RangeFits : Property → Type 0
RangeFits (kinds.Logic logic) = IsRangeText logic.range
RangeFits p = Unit {0}

-- A table whose spelling is that table again: few atoms, bonds and lists; columns, entries and
-- counts in their ranges; symbols that fit; none of an `M  ALS` that ends with CR; range texts that
-- end as they should; no line passed over and no end among the properties.
pub record CanBeSpelt (table : RawTable) : Type 0 where
  pub few_atoms : length table.atoms ≤ 999
  pub few_bonds : length table.bonds ≤ 999
  pub few_lists : length table.lists ≤ 999
  pub atoms : All AtomFits table.atoms
  pub bonds : All BondFits table.bonds
  pub lists : All ListFits table.lists
  pub properties : All PropertyFits table.props
  pub symbols : All (λ atom. IsSymbol 3 atom.symbol) table.atoms
  pub list_symbols : All SymbolsFit table.props
  pub list_symbols_end : All SymbolsEnd table.props
  pub ranges : All RangeFits table.props
  pub kept : All IsKept table.props

-- ---- laws

-- the lines of what is written are that table
abbrev pub SpellingIsRead : Type 0
SpellingIsRead = (table : RawTable) → CanBeSpelt table → IsTable (lines_of (table_spelling table)) table

-- no line of what is written ends with a blank, byte 32
abbrev pub EndsWithNoBlank : Type 0
EndsWithNoBlank = (table : RawTable) → CanBeSpelt table → All (λ line. ¬ (EndsWith 32 line)) (lines_of (table_spelling table))
