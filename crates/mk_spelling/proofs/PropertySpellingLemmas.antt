-- Property lines: what is written so is that property. Atom lists and logic are written without the blanks at their ends.
use Rattle.std.proofs.Common.{◌≡◌, ℕ, ◌+◌, ◌*◌, ◌≤◌, false, List, ◌++◌, length, get_or, drop, refl, sym, ap, ◌∙◌, arith, lit≤, All, subst}
use Rattle.std.specs.Prelude.{ℤ, pos, codes}
use Rattle.std.specs.List.{flat_map, AllByRecursion}
use Rattle.std.proofs.lemmas.List.{length-append, drop_at, drop_all}
use Rattle.std.proofs.lemmas.List.Elements.{recursion_from_All}
use Rattle.mk_text.specs.Columns.{columns, is_space, trimmed}
use Rattle.mk_text.specs.Fields.{IsField, digits_number}
use Rattle.mk_text.proofs.ForCallers.{fields_are_read}
use Rattle.mk_props.specs.declared.property.AtomList.{AtomList}
use Rattle.mk_props.specs.declared.property.LogicLine.{LogicLine}
use Rattle.mk_props.specs.declared.property.Property.{Property}
use Rattle.mk_props.specs.declared.property.Property.TheVariants as kinds
use Rattle.mk_props.specs.Entries.{IsSpacedNumber}
use Rattle.mk_props.specs.Lists.{flag_text, IsListLine}
use Rattle.mk_props.specs.Logic.{IsLogicLine}
use Rattle.mk_props.specs.Property.{IsProperty}
use Rattle.mk_tables.specs.Table.{IsKept}
use Rattle.mk_tables.specs.TableLines.{Line}
use Rattle.mk_spelling.specs.TableSpelling.{spaced, count_text, at_left, wide_symbols_line, symbols_line, wide_logic_line, logic_line, property_line, FitsThree, AtomListFits, LogicFits, PropertyFits, IsSymbol, SymbolsFit, SymbolsEnd, RangeFits, IsRangeText}
use Rattle.mk_spelling.proofs.ThreeLemmas.{length-three, count_fits, end_behind}
use Rattle.mk_spelling.proofs.StandingLemmas.{columns_padded, StandsBehind, first, alone, behind, within, text_at, field_at, length-spaced, spaced_at, entry_at}
use Rattle.mk_spelling.proofs.LineSpellingLemmas.{at_place, each_of, length-flag, length-at_left, trimmed-at_left}
use Rattle.mk_spelling.proofs.EndLemmas.{Empty, Last, ending_of, last_ends, IsPadded, trimmed_is_core, trimmed_ended, length-trimmed, padded_symbols, before_range, range_behind, padded_logic}
use Rattle.mk_spelling.proofs.EntrySpellingLemmas.{pairs_are_read, links_are_read, order_is_read}

-- ---- lines without the blanks at their ends

-- two lines have the same columns
record AreAlike (line other : Line) : Type 0 where
  same : (a b : ℕ) → 1 ≤ a → a ≤ b → columns line a b ≡ columns other a b

-- a line without the blanks at its end has the columns of the line with them
padded_alike : (line : Line) → IsPadded line → is_space (get_or line 0 0) ≡ false → AreAlike (trimmed line) line
padded_alike line padded begins =
    record {
      same = λ a b one order.
          ap (λ (xs : List ℕ). columns xs a b) (trimmed_is_core line padded begins)
          ∙ sym (columns_padded padded.core padded.blanks a b one order) ∙ ap (λ (xs : List ℕ). columns xs a b) (sym padded.whole);
    }

-- a number behind a blank is in both
spaced_alike : {line other : Line} {at : ℕ} {z : ℤ} → AreAlike line other → 1 ≤ at → IsSpacedNumber other at z → IsSpacedNumber line at z
spaced_alike {line} {other} {at} {z} alike one is =
    record {
      space = alike.same at at one (omega arith) ∙ is.space;
      number = subst (λ (cells : List ℕ). IsField cells z) (sym (alike.same (at + 1) (at + 3) (omega arith) (omega arith))) is.number;
    }

-- ---- atom lists

-- the line with blanks behind the last symbol
wide_list_is_read : (list : AtomList) → AtomListFits list → All (IsSymbol 4) list.symbols → IsListLine (wide_symbols_line list) list
wide_list_is_read list fits good =
    let word = codes "M  ALS" in
    let atom = spaced list.atom in
    let count = count_text list.symbols in
    let flag = flag_text list.not in
    let entries : List ℕ = flat_map (at_left 4) list.symbols in
    let wide_atom : length atom ≡ 4 = length-spaced list.atom fits.atom in
    let counted : FitsThree (pos (length list.symbols)) = count_fits (length list.symbols) (omega (arith, fits.count.no_more)) in
    let wide_count : length count ≡ 3 = length-three (pos (length list.symbols)) counted in
    let wide_flag : length flag ≡ 1 = length-flag list.not in
    let from_gap : List ℕ = codes " " ++ entries in
    let from_flag : List ℕ = flag ++ from_gap in
    let from_space : List ℕ = codes " " ++ from_flag in
    let from_count : List ℕ = count ++ from_space in
    let line : Line = word ++ (atom ++ from_count) in
    let wide : AllByRecursion (λ (symbol : List ℕ). length (at_left 4 symbol) ≡ 4) list.symbols =
    each_of (IsSymbol 4) (λ (symbol : List ℕ). length (at_left 4 symbol) ≡ 4) (λ symbol is. length-at_left 4 symbol is.fits) list.symbols good in
    let stands : StandsBehind line 16 entries =
    behind word 6 refl (behind atom 4 wide_atom (behind count 3 wide_count (behind (codes " ") 1 refl (behind flag 1 wide_flag (behind (codes " ") 1 refl (alone entries)))))) in
    record {
      begins = text_at 6 1 6 (first word (atom ++ from_count)) refl (lit≤ tt) refl refl;
      atom = spaced_at list.atom 7 fits.atom (behind word 6 refl (first atom from_count)) refl;
      space_before = text_at 1 14 14 (behind word 6 refl (behind atom 4 wide_atom (behind count 3 wide_count (first (codes " ") from_flag)))) refl (lit≤ tt) refl refl;
      flag = text_at 1 15 15 (behind word 6 refl (behind atom 4 wide_atom (behind count 3 wide_count (behind (codes " ") 1 refl (first flag from_gap))))) wide_flag (lit≤ tt) refl refl;
      space_after = text_at 1 16 16 (behind word 6 refl
          (behind atom 4 wide_atom (behind count 3 wide_count
          (behind (codes " ") 1 refl (behind flag 1 wide_flag (first (codes " ") entries)))))) refl (lit≤ tt) refl refl;
      symbols = record {
        some = fits.count.some;
        no_more = fits.count.no_more;
        count = field_at (pos (length list.symbols)) 11 13 counted (behind word 6 refl (behind atom 4 wide_atom (first count from_space))) refl refl;
        each = λ i symbol is.
            let fit : IsSymbol 4 symbol = at_place (IsSymbol 4) list.symbols (recursion_from_All (IsSymbol 4) list.symbols good) i symbol is in
            let size : length (at_left 4 symbol) ≡ 4 = length-at_left 4 symbol fit.fits in
            let there : columns line (17 + 4 * i) (20 + 4 * i) ≡ at_left 4 symbol =
            text_at 4 (17 + 4 * i) (20 + 4 * i) (within (4 * i) stands (entry_at 4 (at_left 4) list.symbols wide i symbol is)) size (lit≤ tt) (omega arith) (omega arith) in
            sym (ap trimmed there ∙ trimmed-at_left 4 symbol fit.no_blanks);
      };
    }

-- the line of a list that is alike
list_alike : (line other : Line) (list : AtomList) → AreAlike line other → IsListLine other list → IsListLine line list
list_alike line other list alike is =
    record {
      begins = alike.same 1 6 (lit≤ tt) (lit≤ tt) ∙ is.begins;
      atom = spaced_alike alike (lit≤ tt) is.atom;
      space_before = alike.same 14 14 (lit≤ tt) (lit≤ tt) ∙ is.space_before;
      flag = alike.same 15 15 (lit≤ tt) (lit≤ tt) ∙ is.flag;
      space_after = alike.same 16 16 (lit≤ tt) (lit≤ tt) ∙ is.space_after;
      symbols = record {
        some = is.symbols.some;
        no_more = is.symbols.no_more;
        count = subst (λ (cells : List ℕ). IsField cells (pos (length list.symbols))) (sym (alike.same 11 13 (lit≤ tt) (lit≤ tt))) is.symbols.count;
        each = λ i symbol at. is.symbols.each i symbol at ∙ ap trimmed (sym (alike.same (17 + 4 * i) (20 + 4 * i) (omega arith) (omega arith)));
      };
    }

-- an atom list is one
list_is_read : (list : AtomList) → AtomListFits list → All (IsSymbol 4) list.symbols → SymbolsEnd (kinds.List list) → IsListLine (symbols_line list) list
unfolding symbols_line
list_is_read list fits good ends =
    list_alike (trimmed (wide_symbols_line list)) (wide_symbols_line list) list (padded_alike (wide_symbols_line list) (padded_symbols list good ends) refl)
    (wide_list_is_read list fits good)

-- ---- logic

-- the line with a blank before the range
record IsWideLogic (line : Line) (logic : LogicLine) : Type 0 where
  begins : columns line 1 6 ≡ codes "M  LOG"
  one : IsField (columns line 7 9) (pos 1)
  group : IsSpacedNumber line 10 logic.group
  then_group : IsSpacedNumber line 14 logic.then_group
  rest : IsSpacedNumber line 18 logic.rest
  space : columns line 22 22 ≡ codes " "

-- the number 1 in three columns
one_is_field : IsField (codes "  1") (pos 1)
unfolding digits_number
one_is_field = (fields_are_read (codes "  1") (pos 1)).0 refl

wide_logic_is_read : (logic : LogicLine) → LogicFits logic → IsWideLogic (wide_logic_line logic) logic
wide_logic_is_read logic fits =
    let word = codes "M  LOG  1" in
    let group = spaced logic.group in
    let then_group = spaced logic.then_group in
    let rest = spaced logic.rest in
    let wide_group : length group ≡ 4 = length-spaced logic.group fits.group in
    let wide_then : length then_group ≡ 4 = length-spaced logic.then_group fits.then_group in
    let wide_rest : length rest ≡ 4 = length-spaced logic.rest fits.rest in
    let from_space : List ℕ = codes " " ++ logic.range in
    let from_rest : List ℕ = rest ++ from_space in
    let from_then : List ℕ = then_group ++ from_rest in
    let after : List ℕ = group ++ from_then in
    record {
      begins = text_at 6 1 6 (first (codes "M  LOG") (codes "  1" ++ after)) refl (lit≤ tt) refl refl;
      one = subst (λ (cells : List ℕ). IsField cells (pos 1)) (sym (text_at 3 7 9 (behind (codes "M  LOG") 6 refl (first (codes "  1") after)) refl (lit≤ tt) refl refl)) one_is_field;
      group = spaced_at logic.group 10 fits.group (behind word 9 refl (first group from_then)) refl;
      then_group = spaced_at logic.then_group 14 fits.then_group (behind word 9 refl (behind group 4 wide_group (first then_group from_rest))) refl;
      rest = spaced_at logic.rest 18 fits.rest (behind word 9 refl (behind group 4 wide_group (behind then_group 4 wide_then (first rest from_space)))) refl;
      space = text_at 1 22 22 (behind word 9 refl (behind group 4 wide_group (behind then_group 4 wide_then (behind rest 4 wide_rest (first (codes " ") logic.range))))) refl (lit≤ tt) refl refl;
    }

-- what stands before the range is 22 columns
length-before : (logic : LogicLine) → LogicFits logic → length (before_range logic) ≡ 22
length-before logic fits =
    let rest : List ℕ = spaced logic.rest ++ codes " " in
    let later : List ℕ = spaced logic.then_group ++ rest in
    omega (
      arith,
      length-append (codes "M  LOG  1") (spaced logic.group ++ later),
      length-append (spaced logic.group) later,
      length-append (spaced logic.then_group) rest,
      length-append (spaced logic.rest) (codes " "),
      length-spaced logic.group fits.group,
      length-spaced logic.then_group fits.then_group,
      length-spaced logic.rest fits.rest,
    )

-- the range stands behind 22 columns, also where the line is without the blanks at its end
range_left : (logic : LogicLine) → LogicFits logic → IsRangeText logic.range → drop 22 (trimmed (wide_logic_line logic)) ≡ logic.range
range_left logic fits range =
    let line = wide_logic_line logic in
    let before = before_range logic in
    let size : length before ≡ 22 = length-before logic fits in
    let whole : before ++ logic.range ≡ line = range_behind logic in
    elim (ending_of logic.range) [
      | Empty none ↦
          let short : length (trimmed line) ≤ 22 = omega (arith, length-trimmed line, ap length (sym whole), length-append before logic.range, ap length none) in
          drop_all 22 (trimmed line) short ∙ sym none
      | Last front last is ↦
          let kept : trimmed line ≡ before ++ logic.range =
          trimmed_ended line (before ++ logic.range) (sym whole)
          (end_behind before logic.range (last_ends logic.range front last is range.no_blank range.no_cr)) refl in
          ap (drop 22) kept ∙ drop_at before logic.range 22 size
    ]

-- a group's logic is one
logic_is_read : (logic : LogicLine) → LogicFits logic → IsRangeText logic.range → IsLogicLine (logic_line logic) logic
unfolding logic_line
logic_is_read logic fits range =
    let line = wide_logic_line logic in
    let alike = padded_alike line (padded_logic logic fits range) refl in
    let wide = wide_logic_is_read logic fits in
    record {
      begins = alike.same 1 6 (lit≤ tt) (lit≤ tt) ∙ wide.begins;
      one = subst (λ (cells : List ℕ). IsField cells (pos 1)) (sym (alike.same 7 9 (lit≤ tt) (lit≤ tt))) wide.one;
      group = spaced_alike alike (lit≤ tt) wide.group;
      then_group = spaced_alike alike (lit≤ tt) wide.then_group;
      rest = spaced_alike alike (lit≤ tt) wide.rest;
      space = alike.same 22 22 (lit≤ tt) (lit≤ tt) ∙ wide.space;
      range = sym (range_left logic fits range);
    }

-- ---- all kinds

-- what is written of a property that is kept is that property
pub property_is_read : (property : Property) → IsKept property → PropertyFits property → SymbolsFit property → SymbolsEnd property → RangeFits property
    → IsProperty (property_line property) property
property_is_read (kinds.Charge pairs) kept fits symbols ends range = pairs_are_read (codes "M  CHG") 8 pairs refl (lit≤ tt) fits
property_is_read (kinds.Radical pairs) kept fits symbols ends range = pairs_are_read (codes "M  RAD") 8 pairs refl (lit≤ tt) fits
property_is_read (kinds.Isotope pairs) kept fits symbols ends range = pairs_are_read (codes "M  ISO") 8 pairs refl (lit≤ tt) fits
property_is_read (kinds.RingBonds pairs) kept fits symbols ends range = pairs_are_read (codes "M  RBC") 8 pairs refl (lit≤ tt) fits
property_is_read (kinds.Substitution pairs) kept fits symbols ends range = pairs_are_read (codes "M  SUB") 8 pairs refl (lit≤ tt) fits
property_is_read (kinds.Unsaturation pairs) kept fits symbols ends range = pairs_are_read (codes "M  UNS") 8 pairs refl (lit≤ tt) fits
property_is_read (kinds.Label pairs) kept fits symbols ends range = pairs_are_read (codes "M  RGP") 8 pairs refl (lit≤ tt) fits
property_is_read (kinds.Points pairs) kept fits symbols ends range = pairs_are_read (codes "M  APO") 2 pairs refl (lit≤ tt) fits
property_is_read (kinds.Link links) kept fits symbols ends range = links_are_read links fits
property_is_read (kinds.List list) kept fits symbols ends range = list_is_read list fits symbols ends
property_is_read (kinds.Order order) kept fits symbols ends range = order_is_read order fits
property_is_read (kinds.Logic logic) kept fits symbols ends range = logic_is_read logic fits range
property_is_read (kinds.Passed n) kept fits symbols ends range = absurd kept
property_is_read kinds.End kept fits symbols ends range = absurd kept
