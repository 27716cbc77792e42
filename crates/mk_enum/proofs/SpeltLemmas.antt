-- The table of a structure can be spelt.
--     table_drawn graph     the table of a graph, as one value
--     table_is              a table of the graph is that one
--     can_be_spelt          the table of a writable graph can be spelt
--     keeps_its_text        and no symbol in it ends with CR
use Rattle.std.proofs.Common.{◌≡◌, ◌≤◌, ℕ, Bool, true, false, List, [], length, map, get_or, refl, sym, ap, ◌∙◌, subst, arith, All}
use Rattle.std.specs.Prelude.{ℤ, pos, negsuc, ◌≤ℤ◌, codes, if◌then◌else◌}
use Rattle.std.proofs.lemmas.Int.{ints}
use Rattle.std.proofs.lemmas.List.{length-map}
use Rattle.std.proofs.lemmas.List.Elements.{All-cons, All-map, All-nil, All-weaker}
use Rattle.mk_text.specs.Lines.{EndsWith}
use Rattle.mk_props.specs.declared.property.Property.{Property}
use Rattle.mk_model.specs.declared.atom_test.AtomTest.{AtomTest}
use Rattle.mk_model.specs.declared.atom_test.Kind.{Kind}
use Rattle.mk_model.specs.declared.atom_test.Kind.TheVariants.{Element, OneOf, NoneOf, NotHydrogen, Hetero, Anything}
use Rattle.mk_model.specs.Graphs.{GraphView, IsGraph}
use Rattle.mk_model.specs.Molecules.{IsElement}
use Rattle.mk_model.specs.Tests.{IsKindInRange, IsListOfElements, IsTestInRange}
use Rattle.mk_model.proofs.ForCallers.{drawn_between}
use Rattle.mk_tables.specs.declared.raw.RawAtom.{RawAtom}
use Rattle.mk_tables.specs.declared.raw.RawBond.{RawBond}
use Rattle.mk_tables.specs.declared.raw.RawList.{RawList}
use Rattle.mk_tables.specs.declared.raw.RawTable.{RawTable}
use Rattle.mk_tables.specs.KeptTables.{EndsWithoutCr, KeepsItsText}
use Rattle.mk_tables.specs.Table.{IsKept}
use Rattle.mk_tables.specs.TableFacts.{HasSymbols}
use Rattle.mk_spelling.specs.TableSpelling.{AtomFits, BondFits, CanBeSpelt, FitsThree, IsSymbol, ListFits, PairFits, PairsFit, PropertyFits, RangeFits, SymbolsEnd, SymbolsFit}
use Rattle.mk_spelling.proofs.GraphicLemmas.{is_symbol, no_cr}
use Rattle.mk_spelling.proofs.ThreeLemmas.{count_fits}
use Rattle.mk_enum.specs.StructureTables.{atom_drawn, bond_drawn, element_symbol, entries_from, kind_symbol, symbol_list, unsaturation, IsTableOf}
use Rattle.mk_enum.specs.Writable.{IsWritable}
use Rattle.mk_enum.proofs.EachEntryLemmas.{entries_each, one_entry, OfEach}
use Rattle.mk_enum.proofs.SymbolLemmas.{is_plain}

-- the table of a graph
abbrev pub table_drawn : GraphView → RawTable
table_drawn graph = record { atoms = map atom_drawn graph.atoms; bonds = map bond_drawn graph.bonds; lists = []; props = entries_from 1 graph.atoms }

-- a table of the graph is that one
pub table_is : (graph : GraphView) (table : RawTable) → IsTableOf graph table → table ≡ table_drawn graph
table_is graph table is =
    ap (λ (lines : List RawAtom). record { atoms = lines; bonds = table.bonds; lists = table.lists; props = table.props }) is.atoms
    ∙ ap (λ (bs : List RawBond). record { atoms = map atom_drawn graph.atoms; bonds = bs; lists = table.lists; props = table.props }) is.bonds
    ∙ ap (λ (ls : List RawList). record { atoms = map atom_drawn graph.atoms; bonds = map bond_drawn graph.bonds; lists = ls; props = table.props }) is.no_lists
    ∙ ap (λ (ps : List Property). record { atoms = map atom_drawn graph.atoms; bonds = map bond_drawn graph.bonds; lists = []; props = ps }) is.entries

-- ---- property lines

-- what is asked of a line for it to be spelt, and to keep its text
pub record IsSpelt (property : Property) : Type 0 where
  pub kept : IsKept property
  pub fits : PropertyFits property
  pub symbols : SymbolsFit property
  pub symbols_end : SymbolsEnd property
  pub range : RangeFits property
  pub ends : EndsWithoutCr property
  pub some : HasSymbols property

-- a small number fits its columns
value_fits : (z : ℤ) → negsuc 14 ≤ℤ z → z ≤ℤ pos 15 → FitsThree z
value_fits z low high = record { from = omega (arith, ints, low); to = omega (arith, ints, high) }

-- one entry of a small number for an atom
one_fits : (x : ℕ) (z : ℤ) → x ≤ 512 → negsuc 14 ≤ℤ z → z ≤ℤ pos 15 → PairsFit 8 (one_entry x z)
one_fits x z few low high = record {
  count = record { some = omega arith; no_more = omega arith };
  each = All-cons PairFits (record { atom = pos x; value = z }) [] (record { atom = count_fits x (omega (arith, few)); value = value_fits z low high }) (All-nil PairFits);
}

-- the symbols of elements
symbols_fit : (elements : List ℕ) → All IsElement elements → All (IsSymbol 4) (map element_symbol elements)
symbols_fit elements are =
    All-map (IsSymbol 4) element_symbol elements
    (All-weaker IsElement (λ z. IsSymbol 4 (element_symbol z))
    (λ z is. (let plain = is_plain z is in is_symbol 4 (element_symbol z) (omega (arith, plain.short)) plain.above)) elements are)

symbols_end : (elements : List ℕ) → All IsElement elements → All (λ symbol. ¬ (EndsWith 13 symbol)) (map element_symbol elements)
symbols_end elements are =
    All-map (λ symbol. ¬ (EndsWith 13 symbol)) element_symbol elements
    (All-weaker IsElement (λ z. ¬ (EndsWith 13 (element_symbol z))) (λ z is. no_cr (element_symbol z) (is_plain z is).above) elements are)

list_spelt : (x : ℕ) (not : Bool) (elements : List ℕ) → x ≤ 512 → IsListOfElements elements → IsSpelt (symbol_list x not elements)
list_spelt x not elements few are =
    let size : length (map element_symbol elements) ≡ length elements = length-map elements element_symbol in
    record {
      kept = tt;
      fits = record { atom = count_fits x (omega (arith, few)); count = record { some = omega (arith, size, are.some); no_more = omega (arith, size, are.few) } };
      symbols = symbols_fit elements are.elements;
      symbols_end = symbols_end elements are.elements;
      range = tt;
      ends = symbols_end elements are.elements;
      some = (omega (arith, size, are.some), omega (arith, size, are.few));
    }

-- 0 or 1
unsaturation_is : (b : Bool) → (negsuc 14 ≤ℤ (if b then pos 1 else pos 0)) × ((if b then pos 1 else pos 0) ≤ℤ pos 15)
unsaturation_is true = (omega (arith, ints), omega (arith, ints))
unsaturation_is false = (omega (arith, ints), omega (arith, ints))

each_spelt : (x : ℕ) (test : AtomTest) → x ≤ 512 → IsTestInRange test → OfEach IsSpelt x test
each_spelt x test few is = record {
  charge = record { kept = tt; fits = one_fits x test.charge few is.charge.0 is.charge.1; symbols = tt; symbols_end = tt; range = tt; ends = tt; some = tt };
  radical = record { kept = tt; fits = one_fits x (pos test.radical) few (omega (arith, ints)) (omega (arith, ints, is.radical)); symbols = tt; symbols_end = tt; range = tt; ends = tt; some = tt };
  ring_bonds = record {
    kept = tt;
    fits = one_fits x test.ring_bonds few (omega (arith, ints, is.ring_bonds.0)) (omega (arith, ints, is.ring_bonds.1));
    symbols = tt;
    symbols_end = tt;
    range = tt;
    ends = tt;
    some = tt;
  };
  substitution = record {
    kept = tt;
    fits = one_fits x test.substitution few (omega (arith, ints, is.substitution.0)) (omega (arith, ints, is.substitution.1));
    symbols = tt;
    symbols_end = tt;
    range = tt;
    ends = tt;
    some = tt;
  };
  unsaturated = record {
    kept = tt;
    fits = one_fits x (unsaturation test) few (unsaturation_is test.unsaturated).0 (unsaturation_is test.unsaturated).1;
    symbols = tt;
    symbols_end = tt;
    range = tt;
    ends = tt;
    some = tt;
  };
  list = λ not elements are. list_spelt x not elements few are;
}

-- each line of a table
pub entries_spelt : (graph : GraphView) → IsGraph graph → All IsSpelt (entries_from 1 graph.atoms)
entries_spelt graph is =
    entries_each IsSpelt 512 1 graph.atoms (omega (arith, is.sketch.few)) is.sketch.tests (λ x test least most in_range. each_spelt x test most in_range)

-- ---- atoms and bonds

-- the word for a kind
kind_fits : (kind : Kind) → IsKindInRange kind → IsSymbol 3 (kind_symbol kind)
kind_fits (Element z) is = (let plain = is_plain z is in is_symbol 3 (element_symbol z) (omega (arith, plain.short)) plain.above)
kind_fits (OneOf elements) is = is_symbol 3 (codes "L") (omega arith) refl
kind_fits (NoneOf elements) is = is_symbol 3 (codes "L") (omega arith) refl
kind_fits NotHydrogen is = is_symbol 3 (codes "A") (omega arith) refl
kind_fits Hetero is = is_symbol 3 (codes "Q") (omega arith) refl
kind_fits Anything is = is_symbol 3 (codes "*") (omega arith) refl

kind_ends : (kind : Kind) → IsKindInRange kind → ¬ (EndsWith 13 (kind_symbol kind))
kind_ends (Element z) is = no_cr (element_symbol z) (is_plain z is).above
kind_ends (OneOf elements) is = no_cr (codes "L") refl
kind_ends (NoneOf elements) is = no_cr (codes "L") refl
kind_ends NotHydrogen is = no_cr (codes "A") refl
kind_ends Hetero is = no_cr (codes "Q") refl
kind_ends Anything is = no_cr (codes "*") refl

module _ (graph : GraphView) (is : IsGraph graph) where
  atoms_fit : All AtomFits (map atom_drawn graph.atoms)
  atoms_fit =
      All-map AtomFits atom_drawn graph.atoms
      (λ k d below. record {
        charge = count_fits 0 (omega arith);
        hydrogens = count_fits _ (let few = (is.sketch.tests k d below).hydrogens in omega (arith, few));
        valence = count_fits 0 (omega arith);
      })

  symbols_are : All (λ atom. IsSymbol 3 atom.symbol) (map atom_drawn graph.atoms)
  symbols_are = All-map (λ (atom : RawAtom). IsSymbol 3 atom.symbol) atom_drawn graph.atoms (λ k d below. kind_fits (get_or graph.atoms k d).test.kind (is.sketch.tests k d below).kind)

  symbols_keep : All (λ atom. ¬ (EndsWith 13 atom.symbol)) (map atom_drawn graph.atoms)
  symbols_keep = All-map (λ (atom : RawAtom). ¬ (EndsWith 13 atom.symbol)) atom_drawn graph.atoms (λ k d below. kind_ends (get_or graph.atoms k d).test.kind (is.sketch.tests k d below).kind)

  bonds_fit : All BondFits (map bond_drawn graph.bonds)
  bonds_fit =
      All-map BondFits bond_drawn graph.bonds
      (λ k d below.
      let between = drawn_between graph is k d below in
      let tests = is.sketch.bond_tests k d below in
      record {
        first = count_fits _ (omega (arith, between.first.1, is.sketch.few));
        second = count_fits _ (omega (arith, between.second.1, is.sketch.few));
        kind = count_fits _ (omega (arith, tests.kind.1));
        topology = count_fits _ (omega (arith, tests.topology));
      })

  drawn_spelt : IsWritable graph → CanBeSpelt (table_drawn graph)
  drawn_spelt writable =
      let entries = entries_spelt graph is in
      record {
        few_atoms = omega (arith, length-map graph.atoms atom_drawn, is.sketch.few);
        few_bonds = omega (arith, length-map graph.bonds bond_drawn, writable.few_bonds);
        few_lists = omega arith;
        atoms = atoms_fit;
        bonds = bonds_fit;
        lists = All-nil ListFits;
        properties = λ k d below. (entries k d below).fits;
        symbols = symbols_are;
        list_symbols = λ k d below. (entries k d below).symbols;
        list_symbols_end = λ k d below. (entries k d below).symbols_end;
        ranges = λ k d below. (entries k d below).range;
        kept = λ k d below. (entries k d below).kept;
      }

  -- the table of a writable graph can be spelt
  pub can_be_spelt : IsWritable graph → (table : RawTable) → IsTableOf graph table → CanBeSpelt table
  can_be_spelt writable table of = subst CanBeSpelt (sym (table_is graph table of)) (drawn_spelt writable)

  -- and no symbol in it ends with CR
  pub keeps_its_text : (table : RawTable) → IsTableOf graph table → KeepsItsText table
  keeps_its_text table of =
      subst KeepsItsText (sym (table_is graph table of)) (record { symbols = symbols_keep; properties = λ k d below. (entries_spelt graph is k d below).ends })
