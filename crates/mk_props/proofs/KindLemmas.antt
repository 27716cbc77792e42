-- Atom lists, orders of neighbours, logic and skips: what is computed is what the line says.
use Rattle.std.proofs.Common.{◌≡◌, ℕ, ◌&&◌, Bool, true, false, cond, eqb, List, [], ◌∷◌, drop, Some, None, refl, sym, ap, ◌∙◌, arith, lit≤}
use Rattle.std.specs.Prelude.{ℤ, pos, negsuc, codes}
use Rattle.std.proofs.lemmas.Bool.{eqb-true}
use Rattle.mk_text.specs.Columns.{columns}
use Rattle.mk_text.specs.Fields.{IsField, field_of}
use Rattle.mk_props.specs.declared.property.AtomList.{AtomList}
use Rattle.mk_props.specs.declared.property.SiteOrder.{SiteOrder}
use Rattle.mk_props.specs.declared.property.LogicLine.{LogicLine}
use Rattle.mk_props.specs.Entries.{IsBlankAt, AreCounted, IsOrderLine}
use Rattle.mk_props.specs.Lists.{flag_text, symbol_of, IsListLine}
use Rattle.mk_props.specs.Logic.{IsLogicLine}
use Rattle.mk_text.specs.Options.{◌>>=◌, not_negative}
use Rattle.mk_props.specs.Reading.{cell_of, order_of, flag_of, symbols_of, list_of, logic_of}
use Rattle.mk_props.proofs.ColumnLemmas.{blank_column, column_blank, column-cell}
use Rattle.mk_text.proofs.ForCallers.{both, both_read, test_passed, field_found, field_given}
use Rattle.mk_props.proofs.EntryLemmas.{number_found, number_given, one_found, one_given, counted_found, counted_given, pairs_found, pairs_given}

-- ---- orders of neighbours

-- an order that was read is what the line says
pub order_found : (line : List ℕ) (order : SiteOrder) → columns line 1 6 ≡ codes "M  AAL"
    → order_of line ≡ Some order → IsOrderLine line order
unfolding order_of
order_found line order begins read =
    let atom = both_read _ _ order read in
    let entries = both_read _ _ order atom.2 in
    let whole : record { atom = atom.0; entries = entries.0 } ≡ order = cc in
    record {
      begins = begins;
      atom = number_found line 7 order.atom (lit≤ tt) (atom.1 ∙ ap (λ (o : SiteOrder). Some o.atom) whole);
      entries = pairs_found 2 line 11 order.entries (lit≤ tt) (entries.1 ∙ ap (λ (o : SiteOrder). Some o.entries) whole);
    }

-- and what it says is read
pub order_given : (line : List ℕ) (order : SiteOrder) → IsOrderLine line order → order_of line ≡ Some order
unfolding order_of
order_given line order is =
    rw (number_given line 7 order.atom (lit≤ tt) is.atom, pairs_given 2 line 11 order.entries (lit≤ tt) is.entries) refl

-- ---- atom lists

-- T or F in a column
flag_letter : (c : ℕ) (not by_t by_f : Bool) → eqb c 84 ≡ by_t → eqb c 70 ≡ by_f
    → cond by_t (Some true) (cond by_f (Some false) None) ≡ Some not → c ∷ [] ≡ flag_text not
flag_letter c not true by_f t f read =
    let is : true ≡ not = cc in
    ap (λ (letter : ℕ). letter ∷ []) (eqb-true c 84 t) ∙ ap flag_text is
flag_letter c not false true t f read =
    let is : false ≡ not = cc in
    ap (λ (letter : ℕ). letter ∷ []) (eqb-true c 70 f) ∙ ap flag_text is
flag_letter c not false false t f read = absurd cc

-- what stands between the blanks of the flag
record IsFlag (line : List ℕ) (not : Bool) : Type 0 where
  before : IsBlankAt line 14
  letter : columns line 15 15 ≡ flag_text not
  after : IsBlankAt line 16

-- a flag that was read
flag_found : (line : List ℕ) (not : Bool) → flag_of line ≡ Some not → IsFlag line not
unfolding flag_of
flag_found line not read =
    let passed = test_passed (eqb (cell_of line 14) 32 && eqb (cell_of line 16) 32) _ not read in
    let both = both (eqb (cell_of line 14) 32) (eqb (cell_of line 16) 32) passed.0 in
    record {
      before = blank_column line 14 (omega arith) both.0;
      letter = column-cell line 15 (omega arith) ∙ flag_letter (cell_of line 15) not _ _ refl refl passed.1;
      after = blank_column line 16 (omega arith) both.1;
    }

-- and back
flag_given : (line : List ℕ) (not : Bool) → IsFlag line not → flag_of line ≡ Some not
unfolding flag_of
flag_given line true is =
    let letter : cell_of line 15 ≡ 84 = cc (column-cell line 15 (omega arith), is.letter) in
    rw (column_blank line 14 (omega arith) is.before, column_blank line 16 (omega arith) is.after, letter) refl
flag_given line false is =
    let letter : cell_of line 15 ≡ 70 = cc (column-cell line 15 (omega arith), is.letter) in
    rw (column_blank line 14 (omega arith) is.before, column_blank line 16 (omega arith) is.after, letter) refl

-- symbols behind their count
abbrev AreSymbols : List ℕ → List (List ℕ) → Type 0
AreSymbols line symbols = AreCounted 16 (columns line 11 13) (λ i symbol. symbol ≡ symbol_of line i) symbols

-- symbols that were read
symbols_found : (line : List ℕ) (symbols : List (List ℕ)) → symbols_of line ≡ Some symbols → AreSymbols line symbols
unfolding symbols_of
symbols_found line symbols read =
    counted_found 16 line 11 (λ i. Some (symbol_of line i)) (λ i symbol. symbol ≡ symbol_of line i) symbols (λ i symbol is. cc) read

-- and back
symbols_given : (line : List ℕ) (symbols : List (List ℕ)) → AreSymbols line symbols → symbols_of line ≡ Some symbols
unfolding symbols_of
symbols_given line symbols are =
    counted_given 16 line 11 (λ i. Some (symbol_of line i)) (λ i symbol. symbol ≡ symbol_of line i) symbols
    (λ i symbol is. ap Some (sym is)) are

-- an atom list that was read is what the line says
pub list_found : (line : List ℕ) (list : AtomList) → columns line 1 6 ≡ codes "M  ALS"
    → list_of line ≡ Some list → IsListLine line list
unfolding list_of
list_found line list begins read =
    let atom = both_read _ _ list read in
    let not = both_read _ _ list atom.2 in
    let symbols = both_read _ _ list not.2 in
    let whole : record { atom = atom.0; not = not.0; symbols = symbols.0 } ≡ list = cc in
    let flag = flag_found line list.not (not.1 ∙ ap (λ (l : AtomList). Some l.not) whole) in
    record {
      begins = begins;
      atom = number_found line 7 list.atom (lit≤ tt) (atom.1 ∙ ap (λ (l : AtomList). Some l.atom) whole);
      space_before = flag.before;
      flag = flag.letter;
      space_after = flag.after;
      symbols = symbols_found line list.symbols (symbols.1 ∙ ap (λ (l : AtomList). Some l.symbols) whole);
    }

-- and what it says is read
pub list_given : (line : List ℕ) (list : AtomList) → IsListLine line list → list_of line ≡ Some list
unfolding list_of
list_given line list is =
    let flag : IsFlag line list.not = record { before = is.space_before; letter = is.flag; after = is.space_after } in
    rw (number_given line 7 list.atom (lit≤ tt) is.atom, flag_given line list.not flag, symbols_given line list.symbols is.symbols) refl

-- ---- logic

-- a group's logic that was read is what the line says
pub logic_found : (line : List ℕ) (logic : LogicLine) → columns line 1 6 ≡ codes "M  LOG"
    → logic_of line ≡ Some logic → IsLogicLine line logic
unfolding logic_of
logic_found line logic begins read =
    let one = both_read _ _ logic read in
    let group = both_read _ _ logic one.2 in
    let then_group = both_read _ _ logic group.2 in
    let rest = both_read _ _ logic then_group.2 in
    let passed = test_passed _ _ logic rest.2 in
    let whole : record { group = group.0; then_group = then_group.0; rest = rest.0; range = drop 22 line } ≡ logic = cc in
    record {
      begins = begins;
      one = one_found line 7 one.0 one.1;
      group = number_found line 10 logic.group (lit≤ tt) (group.1 ∙ ap (λ (l : LogicLine). Some l.group) whole);
      then_group = number_found line 14 logic.then_group (lit≤ tt) (then_group.1 ∙ ap (λ (l : LogicLine). Some l.then_group) whole);
      rest = number_found line 18 logic.rest (lit≤ tt) (rest.1 ∙ ap (λ (l : LogicLine). Some l.rest) whole);
      space = blank_column line 22 (lit≤ tt) passed.0;
      range = sym (ap (λ (l : LogicLine). l.range) whole);
    }

-- and what it says is read
pub logic_given : (line : List ℕ) (logic : LogicLine) → IsLogicLine line logic → logic_of line ≡ Some logic
unfolding logic_of
logic_given line logic is =
    rw (
      one_given line 7 is.one,
      number_given line 10 logic.group (lit≤ tt) is.group,
      number_given line 14 logic.then_group (lit≤ tt) is.then_group,
      number_given line 18 logic.rest (lit≤ tt) is.rest,
      column_blank line 22 (lit≤ tt) is.space,
      sym is.range,
    ) refl

-- ---- skips

-- a number that isn't below 0
above_found : (z : ℤ) (n : ℕ) → not_negative z ≡ Some n → z ≡ pos n
above_found (pos m) n read = let same : m ≡ n = cc in ap pos same
above_found (negsuc m) n read = absurd cc

-- how many lines a skip passes over
pub skip_found : (line : List ℕ) (n : ℕ) → (field_of line 7 9 >>= not_negative) ≡ Some n → IsField (columns line 7 9) (pos n)
skip_found line n read =
    let steps = both_read (field_of line 7 9) not_negative n read in
    field_found line 7 9 (pos n) (steps.1 ∙ ap Some (above_found steps.0 n steps.2))

-- and back
pub skip_given : (line : List ℕ) (n : ℕ) → IsField (columns line 7 9) (pos n) → (field_of line 7 9 >>= not_negative) ≡ Some n
skip_given line n is = rw (field_given line 7 9 (pos n) is) refl
