-- No line of the spelling holds LF, and each ends with a byte that is neither a blank nor CR.
use Rattle.std.proofs.Common.{ℕ, ◌≤◌, All, List, ◌++◌, length, refl, arith, lit≤}
use Rattle.std.specs.Prelude.{ℤ, codes, decimal}
use Rattle.std.specs.List.{flat_map}
use Rattle.mk_text.proofs.ForCallers.{decimal_digits}
use Rattle.mk_props.specs.Lists.{flag_text}
use Rattle.mk_props.specs.declared.property.Pair.{Pair}
use Rattle.mk_props.specs.declared.property.LinkEntry.{LinkEntry}
use Rattle.mk_props.specs.declared.property.AtomList.{AtomList}
use Rattle.mk_props.specs.declared.property.SiteOrder.{SiteOrder}
use Rattle.mk_props.specs.declared.property.LogicLine.{LogicLine}
use Rattle.mk_props.specs.declared.property.Property.{Property}
use Rattle.mk_props.specs.declared.property.Property.TheVariants as kinds
use Rattle.mk_tables.specs.declared.raw.RawAtom.{RawAtom}
use Rattle.mk_tables.specs.declared.raw.RawBond.{RawBond}
use Rattle.mk_tables.specs.declared.raw.RawList.{RawList}
use Rattle.mk_tables.specs.declared.raw.RawTable.{RawTable}
use Rattle.mk_tables.specs.Table.{IsKept}
use Rattle.mk_tables.specs.TableLines.{Line}
use Rattle.mk_spelling.specs.TableSpelling.{three, spaced, count_text, at_left, counts_line, atom_line, bond_line, numbers_line, pair_text, pairs_line, link_text, links_line, order_line, wide_symbols_line, symbols_line, wide_logic_line, logic_line, end_line, property_line, FitsThree, AtomFits, BondFits, ListFits, PairFits, PairsFit, LinkFits, LinksFit, AtomListFits, OrderFits, LogicFits, PropertyFits, IsSymbol, SymbolsFit, SymbolsEnd, IsRangeText, RangeFits}
use Rattle.mk_spelling.proofs.ThreeLemmas.{HasEnd, end_behind, three_end}
use Rattle.mk_spelling.proofs.EndLemmas.{trimmed_end, padded_symbols, padded_logic}
use Rattle.mk_spelling.proofs.LineSpellingLemmas.{each_of}
use Rattle.mk_spelling.proofs.NoLfLemmas.{HasNoLf, no_lf_both, no_lf_digits, no_lf_three, no_lf_count, no_lf_text, no_lf_left, no_lf_flag, no_lf_each, no_lf_core, end_each}

-- ---- lines

-- no LF, and neither a blank nor CR at the end
pub record EndsAsLine (line : Line) : Type 0 where
  pub no_lf : HasNoLf line
  pub end : HasEnd line

-- the counts line
pub counts_whole : (table : RawTable) → length table.atoms ≤ 999 → length table.bonds ≤ 999 → length table.lists ≤ 999 → EndsAsLine (counts_line table)
unfolding counts_line
counts_whole table atoms bonds lists =
    let tail : List ℕ = codes "  0  0  0            999 V2000" in
    let from_lists : List ℕ = count_text table.lists ++ tail in
    let from_bonds : List ℕ = count_text table.bonds ++ from_lists in
    let ends : HasEnd tail = record { front = codes "  0  0  0            999 V200"; last = 48; whole = refl; no_blank = refl; no_cr = refl } in
    record {
      no_lf = no_lf_both (count_text table.atoms) from_bonds (no_lf_count table.atoms atoms)
          (no_lf_both (count_text table.bonds) from_lists (no_lf_count table.bonds bonds) (no_lf_both (count_text table.lists) tail (no_lf_count table.lists lists) refl));
      end = end_behind (count_text table.atoms) from_bonds (end_behind (count_text table.bonds) from_lists (end_behind (count_text table.lists) tail ends));
    }

-- an atom line
pub atom_whole : (atom : RawAtom) → AtomFits atom → IsSymbol 3 atom.symbol → EndsAsLine (atom_line atom)
unfolding atom_line
atom_whole atom fits symbol =
    let valence : List ℕ = codes "  0" ++ three atom.valence in
    let hydrogens : List ℕ = codes "  0" ++ (three atom.hydrogens ++ valence) in
    let charge : List ℕ = codes " 0" ++ (three atom.charge ++ hydrogens) in
    let no_lf_valence : HasNoLf valence = no_lf_three atom.valence fits.valence in
    let no_lf_hydrogens : HasNoLf hydrogens = no_lf_both (three atom.hydrogens) valence (no_lf_three atom.hydrogens fits.hydrogens) no_lf_valence in
    let no_lf_charge : HasNoLf charge = no_lf_both (three atom.charge) hydrogens (no_lf_three atom.charge fits.charge) no_lf_hydrogens in
    let no_lf_symbol : HasNoLf (at_left 3 atom.symbol ++ charge) = no_lf_both (at_left 3 atom.symbol) charge (no_lf_left 3 atom.symbol symbol.no_lf) no_lf_charge in
    let coordinates : List ℕ = codes "    0.0000    0.0000    0.0000 " in
    record {
      no_lf = no_lf_both coordinates (at_left 3 atom.symbol ++ charge) refl no_lf_symbol;
      end = end_behind coordinates (at_left 3 atom.symbol ++ charge) (end_behind (at_left 3 atom.symbol) charge
          (end_behind (codes " 0") (three atom.charge ++ hydrogens) (end_behind (three atom.charge) hydrogens
          (end_behind (codes "  0") (three atom.hydrogens ++ valence)
          (end_behind (three atom.hydrogens) valence
          (end_behind (codes "  0") (three atom.valence) (three_end atom.valence fits.valence)))))));
    }

-- a bond line
pub bond_whole : (bond : RawBond) → BondFits bond → EndsAsLine (bond_line bond)
unfolding bond_line
bond_whole bond fits =
    let topology : List ℕ = codes "  0  0" ++ three bond.topology in
    let kind : List ℕ = three bond.kind ++ topology in
    let second : List ℕ = three bond.second ++ kind in
    let no_lf_topology : HasNoLf topology = no_lf_three bond.topology fits.topology in
    record {
      no_lf = no_lf_both (three bond.first) second (no_lf_three bond.first fits.first)
          (no_lf_both (three bond.second) kind (no_lf_three bond.second fits.second) (no_lf_both (three bond.kind) topology (no_lf_three bond.kind fits.kind) no_lf_topology));
      end = end_behind (three bond.first) second (end_behind (three bond.second) kind (end_behind (three bond.kind) topology
          (end_behind (codes "  0  0") (three bond.topology) (three_end bond.topology fits.topology))));
    }

-- numbers behind blanks
no_lf_numbers : (numbers : List ℤ) → All FitsThree numbers → HasNoLf (flat_map spaced numbers)
no_lf_numbers numbers fit = no_lf_each spaced numbers (each_of FitsThree (λ (z : ℤ). HasNoLf (spaced z)) no_lf_three numbers fit)

-- they end with the last
end_numbers : (numbers : List ℤ) → 1 ≤ length numbers → All FitsThree numbers → HasEnd (flat_map spaced numbers)
end_numbers numbers some fit =
    end_each spaced numbers some (each_of FitsThree (λ (z : ℤ). HasEnd (spaced z)) (λ z fits. end_behind (codes " ") (three z) (three_end z fits)) numbers fit)

-- an atom-list line
pub list_whole : (list : RawList) → ListFits list → EndsAsLine (numbers_line list)
unfolding numbers_line
list_whole list fits =
    let n = length list.numbers in
    let entries : List ℕ = flat_map spaced list.numbers in
    let count : List ℕ = codes "    " ++ (decimal n ++ entries) in
    let flag : List ℕ = codes " " ++ (flag_text list.not ++ count) in
    let no_lf_entries : HasNoLf entries = no_lf_numbers list.numbers fits.numbers in
    let no_lf_number : HasNoLf count = no_lf_both (decimal n) entries (no_lf_digits (decimal n) (decimal_digits n (omega (arith, fits.count.no_more)))) no_lf_entries in
    let no_lf_letter : HasNoLf flag = no_lf_both (flag_text list.not) count (no_lf_flag list.not) no_lf_number in
    record {
      no_lf = no_lf_both (three list.atom) flag (no_lf_three list.atom fits.atom) no_lf_letter;
      end = end_behind (three list.atom) flag (end_behind (codes " ") (flag_text list.not ++ count) (end_behind (flag_text list.not) count
          (end_behind (codes "    ") (decimal n ++ entries) (end_behind (decimal n) entries (end_numbers list.numbers fits.count.some fits.numbers)))));
    }

-- ---- property lines

-- a pair
no_lf_pair : (pair : Pair) → PairFits pair → HasNoLf (pair_text pair)
no_lf_pair pair fits = no_lf_both (spaced pair.atom) (spaced pair.value) (no_lf_three pair.atom fits.atom) (no_lf_three pair.value fits.value)

-- it ends with the value
end_pair : (pair : Pair) → PairFits pair → HasEnd (pair_text pair)
end_pair pair fits = end_behind (spaced pair.atom) (spaced pair.value) (end_behind (codes " ") (three pair.value) (three_end pair.value fits.value))

-- pairs behind a text
pairs_whole : (front : List ℕ) (most : ℕ) (pairs : List Pair) → HasNoLf front → most ≤ 999 → PairsFit most pairs → EndsAsLine (front ++ (count_text pairs ++ flat_map pair_text pairs))
pairs_whole front most pairs no_lf few fits =
    let entries : List ℕ = flat_map pair_text pairs in
    let no_lf_entries : HasNoLf entries = no_lf_each pair_text pairs (each_of PairFits (λ (pair : Pair). HasNoLf (pair_text pair)) no_lf_pair pairs fits.each) in
    let end_entries : HasEnd entries = end_each pair_text pairs fits.count.some (each_of PairFits (λ (pair : Pair). HasEnd (pair_text pair)) end_pair pairs fits.each) in
    record {
      no_lf = no_lf_both front (count_text pairs ++ entries) no_lf (no_lf_both (count_text pairs) entries (no_lf_count pairs (omega (arith, fits.count.no_more))) no_lf_entries);
      end = end_behind front (count_text pairs ++ entries) (end_behind (count_text pairs) entries end_entries);
    }

-- a line of pairs
pairs_line_whole : (word : List ℕ) (most : ℕ) (pairs : List Pair) → HasNoLf word → most ≤ 999 → PairsFit most pairs → EndsAsLine (pairs_line word pairs)
unfolding pairs_line
pairs_line_whole word most pairs no_lf few fits = pairs_whole word most pairs no_lf few fits

-- a link entry
no_lf_link : (link : LinkEntry) → LinkFits link → HasNoLf (link_text link)
no_lf_link link fits =
    let last : List ℕ = spaced link.from ++ spaced link.to in
    no_lf_both (spaced link.atom) (spaced link.most ++ last) (no_lf_three link.atom fits.atom)
    (no_lf_both (spaced link.most) last (no_lf_three link.most fits.most)
    (no_lf_both (spaced link.from) (spaced link.to) (no_lf_three link.from fits.from) (no_lf_three link.to fits.to)))

-- it ends with the second neighbour
end_link : (link : LinkEntry) → LinkFits link → HasEnd (link_text link)
end_link link fits =
    let last : List ℕ = spaced link.from ++ spaced link.to in
    end_behind (spaced link.atom) (spaced link.most ++ last) (end_behind (spaced link.most) last
    (end_behind (spaced link.from) (spaced link.to) (end_behind (codes " ") (three link.to) (three_end link.to fits.to))))

-- a line of links
links_whole : (links : List LinkEntry) → LinksFit links → EndsAsLine (links_line links)
unfolding links_line
links_whole links fits =
    let entries : List ℕ = flat_map link_text links in
    let no_lf_entries : HasNoLf entries = no_lf_each link_text links (each_of LinkFits (λ (link : LinkEntry). HasNoLf (link_text link)) no_lf_link links fits.each) in
    let end_entries : HasEnd entries = end_each link_text links fits.count.some (each_of LinkFits (λ (link : LinkEntry). HasEnd (link_text link)) end_link links fits.each) in
    record {
      no_lf = no_lf_both (codes "M  LIN") (count_text links ++ entries) refl (no_lf_both (count_text links) entries (no_lf_count links (omega (arith, fits.count.no_more))) no_lf_entries);
      end = end_behind (codes "M  LIN") (count_text links ++ entries) (end_behind (count_text links) entries end_entries);
    }

-- an order
order_whole : (order : SiteOrder) → OrderFits order → EndsAsLine (order_line order)
unfolding order_line
order_whole order fits =
    let rest : List ℕ = count_text order.entries ++ flat_map pair_text order.entries in
    let pairs : EndsAsLine (spaced order.atom ++ rest) = pairs_whole (spaced order.atom) 2 order.entries (no_lf_three order.atom fits.atom) (lit≤ tt) fits.entries in
    record {
      no_lf = no_lf_both (codes "M  AAL") (spaced order.atom ++ rest) refl pairs.no_lf;
      end = end_behind (codes "M  AAL") (spaced order.atom ++ rest) pairs.end;
    }

-- an atom list with blanks behind it
wide_symbols_whole : (list : AtomList) → AtomListFits list → All (IsSymbol 4) list.symbols → HasNoLf (wide_symbols_line list)
wide_symbols_whole list fits good =
    let entries : List ℕ = flat_map (at_left 4) list.symbols in
    let flag : List ℕ = flag_text list.not ++ (codes " " ++ entries) in
    let count : List ℕ = count_text list.symbols ++ (codes " " ++ flag) in
    let no_lf_entries : HasNoLf entries = no_lf_each (at_left 4) list.symbols
    (each_of (IsSymbol 4) (λ (symbol : List ℕ). HasNoLf (at_left 4 symbol))
    (λ symbol is. no_lf_left 4 symbol is.no_lf) list.symbols good) in
    let no_lf_letter : HasNoLf flag = no_lf_both (flag_text list.not) (codes " " ++ entries) (no_lf_flag list.not) no_lf_entries in
    let no_lf_number : HasNoLf count = no_lf_both (count_text list.symbols) (codes " " ++ flag) (no_lf_count list.symbols (omega (arith, fits.count.no_more))) no_lf_letter in
    no_lf_both (codes "M  ALS") (spaced list.atom ++ count) refl (no_lf_both (spaced list.atom) count (no_lf_three list.atom fits.atom) no_lf_number)

-- and without them
symbols_whole : (list : AtomList) → AtomListFits list → All (IsSymbol 4) list.symbols → SymbolsEnd (kinds.List list) → EndsAsLine (symbols_line list)
unfolding symbols_line
symbols_whole list fits good ends =
    let padded = padded_symbols list good ends in
    record { no_lf = no_lf_core (wide_symbols_line list) padded refl (wide_symbols_whole list fits good); end = trimmed_end (wide_symbols_line list) padded refl }

-- logic with a blank before the range
wide_logic_whole : (logic : LogicLine) → LogicFits logic → IsRangeText logic.range → HasNoLf (wide_logic_line logic)
wide_logic_whole logic fits range =
    let last : List ℕ = spaced logic.rest ++ (codes " " ++ logic.range) in
    no_lf_both (codes "M  LOG  1") (spaced logic.group ++ (spaced logic.then_group ++ last)) refl
    (no_lf_both (spaced logic.group) (spaced logic.then_group ++ last) (no_lf_three logic.group fits.group)
    (no_lf_both (spaced logic.then_group) last (no_lf_three logic.then_group fits.then_group)
    (no_lf_both (spaced logic.rest) (codes " " ++ logic.range) (no_lf_three logic.rest fits.rest) (no_lf_text logic.range range.no_lf))))

-- and without it
logic_whole : (logic : LogicLine) → LogicFits logic → IsRangeText logic.range → EndsAsLine (logic_line logic)
unfolding logic_line
logic_whole logic fits range =
    let padded = padded_logic logic fits range in
    record { no_lf = no_lf_core (wide_logic_line logic) padded refl (wide_logic_whole logic fits range); end = trimmed_end (wide_logic_line logic) padded refl }

-- the line of a property that is kept
pub property_whole : (property : Property) → IsKept property → PropertyFits property → SymbolsFit property → SymbolsEnd property → RangeFits property → EndsAsLine (property_line property)
property_whole (kinds.Charge pairs) kept fits symbols ends range = pairs_line_whole (codes "M  CHG") 8 pairs refl (lit≤ tt) fits
property_whole (kinds.Radical pairs) kept fits symbols ends range = pairs_line_whole (codes "M  RAD") 8 pairs refl (lit≤ tt) fits
property_whole (kinds.Isotope pairs) kept fits symbols ends range = pairs_line_whole (codes "M  ISO") 8 pairs refl (lit≤ tt) fits
property_whole (kinds.RingBonds pairs) kept fits symbols ends range = pairs_line_whole (codes "M  RBC") 8 pairs refl (lit≤ tt) fits
property_whole (kinds.Substitution pairs) kept fits symbols ends range = pairs_line_whole (codes "M  SUB") 8 pairs refl (lit≤ tt) fits
property_whole (kinds.Unsaturation pairs) kept fits symbols ends range = pairs_line_whole (codes "M  UNS") 8 pairs refl (lit≤ tt) fits
property_whole (kinds.Label pairs) kept fits symbols ends range = pairs_line_whole (codes "M  RGP") 8 pairs refl (lit≤ tt) fits
property_whole (kinds.Points pairs) kept fits symbols ends range = pairs_line_whole (codes "M  APO") 2 pairs refl (lit≤ tt) fits
property_whole (kinds.Link links) kept fits symbols ends range = links_whole links fits
property_whole (kinds.List list) kept fits symbols ends range = symbols_whole list fits symbols ends
property_whole (kinds.Order order) kept fits symbols ends range = order_whole order fits
property_whole (kinds.Logic logic) kept fits symbols ends range = logic_whole logic fits range
property_whole (kinds.Passed n) kept fits symbols ends range = absurd kept
property_whole kinds.End kept fits symbols ends range = absurd kept

-- the last line
pub end_whole : EndsAsLine end_line
end_whole = record { no_lf = refl; end = record { front = codes "M  EN"; last = 68; whole = refl; no_blank = refl; no_cr = refl } }
