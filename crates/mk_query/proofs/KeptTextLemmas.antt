-- The kept lines of a query file that passes are a query file with the same raw query: no symbol and no range text that passes
-- ends with CR.
--     keeps_texts          the tables keep their text
--     kept_text            the law
use Rattle.std.proofs.Common.{◌≡◌, ◌+◌, ◌-◌, ℕ, zero, suc, true, false, not, eqb, List, [], ◌∷◌, ◌++◌, Some, refl, sym, ap, subst, ◌∙◌, arith, inl, inr, length, get_or, drop, map, All}
use Rattle.std.specs.Prelude.{Contains, slice_get, pos, ◌⊎◌, ◌==◌}
use Rattle.std.specs.List.{list_all}
use Rattle.std.specs.Char.{is_ascii_digit}
use Rattle.std.proofs.lemmas.Bool.{eq-eqb}
use Rattle.std.proofs.lemmas.List.Elements.{All-contains, Contains-append_right}
use Rattle.std.proofs.lemmas.Option.{slice_get-get_or}
use Rattle.mk_elements.specs.Symbols.{NamesElement, symbols}
use Rattle.mk_text.specs.KeptLines.{kept_lines, without_crs}
use Rattle.mk_text.specs.Lines.{lines_of}
use Rattle.mk_text.proofs.ForCallers.{all_of, both, kept_lines_are_read, lines_hold_no_lf}
use Rattle.mk_props.specs.declared.property.AtomList.{AtomList}
use Rattle.mk_props.specs.declared.property.Property.{Property}
use Rattle.mk_props.specs.declared.property.Property.TheVariants as kinds
use Rattle.mk_model.specs.declared.group.Interval.{Interval}
use Rattle.mk_model.proofs.ForCallers.{kept_all}
use Rattle.mk_logic.specs.RangeTexts.{AreRangeItems, IsNumeral, IsRangeItem, IsRangeText, IsSigned}
use Rattle.mk_logic.specs.RangeTexts.IsRangeItem.{one_number, two_numbers, more_than, less_than}
use Rattle.mk_logic.specs.RangeTexts.IsRangeText.{blank_text, item_text}
use Rattle.mk_tables.specs.declared.raw.RawAtom.{RawAtom}
use Rattle.mk_tables.specs.declared.raw.RawTable.{RawTable}
use Rattle.mk_tables.specs.KeptTables.{EndsWithoutCr, KeepsItsText}
use Rattle.mk_demands.specs.Numbers.{natural}
use Rattle.mk_tables.specs.TableLines.{Line}
use Rattle.mk_demands.proofs.ForCallers.{atom_within}
use Rattle.mk_rgfile.specs.declared.raw_query.RawQuery.{RawQuery}
use Rattle.mk_rgfile.specs.KeptQueries.{KeepsItsTexts, KeptLinesAreTheQuery}
use Rattle.mk_rgfile.specs.QueryFile.{IsQueryFile}
use Rattle.mk_rgfile.proofs.ForCallers.{all_no_cr, blank_no_cr, both_no_cr, has_no_cr, no_end}
use Rattle.mk_query.specs.Checks.{IsElementName, IsQueryAtom, IsQueryProperty, IsQueryWord}
use Rattle.mk_query.specs.CompileFaults.{PassEach}
use Rattle.mk_query.specs.Drawn.{ElementList, all_lists, by_numbers, by_symbols, listed_atom, lists_at, symbol_lists}
use Rattle.mk_query.specs.FirstFault.{query_properties, group_logic, query_atoms}
use Rattle.mk_query.specs.Laws.{KeptTextIsTheQuery}
use Rattle.mk_query.specs.LinkChecks.{IsLogical}
use Rattle.mk_query.specs.Passed.{HasPassed}
use Rattle.mk_query.specs.SiteChecks.{HasKnownMembers}
use Rattle.mk_query.proofs.KindLemmas.{listed_at}
use Rattle.mk_query.proofs.ListMarkLemmas.{lists_of, symbols_first}
use Rattle.mk_query.proofs.TableWalkLemmas.{pass_nested}

-- ---- symbols

-- what all lists of a list have, each has
all_at : (xs : List (List ℕ)) (k : ℕ) (x : List ℕ) → list_all has_no_cr xs ≡ true → slice_get xs k ≡ Some x → has_no_cr x ≡ true
all_at [] k x all at = absurd cc
all_at (y ∷ ys) zero x all at = (let same : y ≡ x = cc in ap has_no_cr (sym same) ∙ (both (has_no_cr y) (list_all has_no_cr ys) all).0)
all_at (y ∷ ys) (suc k) x all at = all_at ys k x (both (has_no_cr y) (list_all has_no_cr ys) all).1 at

-- no element's symbol has a CR
symbols-no_cr : list_all has_no_cr symbols ≡ true
unfolding symbols
symbols-no_cr = refl

named-no_cr : (symbol : List ℕ) (z : ℕ) → NamesElement symbol z → has_no_cr symbol ≡ true
named-no_cr symbol z (inl is) = all_at symbols (z - 1) symbol symbols-no_cr is.1
named-no_cr symbol z (inr (one, inl d)) = rw d refl
named-no_cr symbol z (inr (one, inr t)) = rw t refl

-- nor has a word for a kind of atoms
word-no_cr : (symbol : List ℕ) → IsQueryWord symbol → has_no_cr symbol ≡ true
word-no_cr symbol (inl l) = rw l refl
word-no_cr symbol (inr (inl a)) = rw a refl
word-no_cr symbol (inr (inr (inl q))) = rw q refl
word-no_cr symbol (inr (inr (inr (inl any)))) = rw any refl
word-no_cr symbol (inr (inr (inr (inr site)))) = rw site refl

known-no_cr : (symbol : List ℕ) → IsElementName symbol ⊎ IsQueryWord symbol → has_no_cr symbol ≡ true
known-no_cr symbol (inl is) = named-no_cr symbol is.element is.names
known-no_cr symbol (inr word) = word-no_cr symbol word

-- ---- range texts

-- a byte between two parts
with_byte : (front rest : List ℕ) (c : ℕ) → not (eqb c 13) ≡ true → has_no_cr front ≡ true → has_no_cr rest ≡ true → has_no_cr (front ++ c ∷ rest) ≡ true
with_byte front rest c other first second = both_no_cr front (c ∷ rest) first (rw (other, second) refl)

numeral-no_cr : (text : List ℕ) (n : ℕ) → IsNumeral text n → has_no_cr text ≡ true
numeral-no_cr text n is =
    ap has_no_cr is.whole
    ∙ both_no_cr is.before (is.digits ++ is.after) (blank_no_cr is.before is.blank_before)
    (both_no_cr is.digits is.after (all_no_cr is_ascii_digit is.digits refl is.are_digits) (blank_no_cr is.after is.blank_after))

signed-no_cr : (sign : ℕ) (text : List ℕ) (n : ℕ) → not (eqb sign 13) ≡ true → IsSigned sign text n → has_no_cr text ≡ true
signed-no_cr sign text n other is = ap has_no_cr is.whole ∙ with_byte is.before is.rest sign other (blank_no_cr is.before is.blank_before) (numeral-no_cr is.rest n is.number)

item-no_cr : (text : List ℕ) (interval : Interval) → IsRangeItem text interval → has_no_cr text ≡ true
item-no_cr text interval (one_number n is same) = numeral-no_cr text n is
item-no_cr text interval (two_numbers n m is order same) =
    ap has_no_cr is.whole ∙ with_byte is.front is.rest 45 refl (numeral-no_cr is.front n is.first) (numeral-no_cr is.rest m is.second)
item-no_cr text interval (more_than n is same) = signed-no_cr 62 text n refl is
item-no_cr text interval (less_than n is same) = signed-no_cr 60 text n refl is

items-no_cr : (text : List ℕ) (range : List Interval) → AreRangeItems text range → has_no_cr text ≡ true
items-no_cr text [] are = absurd are
items-no_cr text (item ∷ []) are = item-no_cr text item are
items-no_cr text (item ∷ next ∷ items) (front, rest, whole, first, others) =
    ap has_no_cr whole ∙ with_byte front rest 44 refl (item-no_cr front item first) (items-no_cr rest (next ∷ items) others)

range-no_cr : (text : List ℕ) (range : List Interval) → IsRangeText text range → has_no_cr text ≡ true
range-no_cr text range (blank_text blank same) = blank_no_cr text blank
range-no_cr text range (item_text are) = items-no_cr text range are

-- ---- tables

-- the list of an `M  ALS` is one of the lists of the table
listed_in : (props : List Property) (k : ℕ) (list : AtomList) → slice_get props k ≡ Some (kinds.List list) → Contains (symbol_lists props) (by_symbols list)
listed_in [] k list at = absurd cc
listed_in (property ∷ props) zero list at =
    let same : property ≡ kinds.List list = cc in
    subst (λ (p : Property). Contains (symbol_lists (p ∷ props)) (by_symbols list)) (sym same) (0, omega arith, refl)
listed_in (property ∷ props) (suc k) list at =
    let later = Contains-append_right (lists_of property) (symbol_lists props) (by_symbols list) (listed_in props k list at) in
    subst (λ (l : List ElementList). Contains l (by_symbols list)) (sym (symbols_first property props)) later

no_line : RawAtom
no_line = record { symbol = []; charge = pos 0; hydrogens = pos 0; valence = pos 0 }

module _ (table : RawTable) (passed : HasPassed table) where
  -- what is asked of the property behind the first k
  property_at : (k : ℕ) (property : Property) → slice_get table.props k ≡ Some property → IsQueryProperty (length table.atoms) property
  property_at k property at = (let place : k + 1 - 1 ≡ k = omega arith in passed.passes query_properties (k + 1) property (omega arith) (rw place at))

  logic_at : (k : ℕ) (property : Property) → slice_get table.props k ≡ Some property → IsLogical passed.is_root (drop (k + 1) table.props) property
  logic_at k property at = (let place : k + 1 - 1 ≡ k = omega arith in passed.passes group_logic (k + 1) property (omega arith) (rw place at))

  ends : (k : ℕ) (property : Property) → slice_get table.props k ≡ Some property → EndsWithoutCr property
  ends k (kinds.List list) at =
      let x = natural list.atom in
      let within = atom_within (length table.atoms) list.atom (property_at k (kinds.List list) at).named in
      let place : x - 1 + 1 ≡ x = omega (arith, within.0) in
      let line_at = slice_get-get_or table.atoms (x - 1) no_line (omega (arith, within.0, within.1)) in
      let listed = (listed_at table (x - 1) (get_or table.atoms (x - 1) no_line) passed line_at).members in
      let here : All HasKnownMembers (lists_at table x) = rw place at listed in
      let one = Contains-append_right (map by_numbers table.lists) (symbol_lists table.props) (by_symbols list) (listed_in table.props k list at) in
      let named = All-contains HasKnownMembers (lists_at table x) (by_symbols list) here
      (kept_all (λ (l : ElementList). listed_atom l == x) (all_lists table) (by_symbols list) one (eq-eqb x x refl))
      in
      λ j d below. (let name = named j d below in no_end (get_or list.symbols j d) (named-no_cr (get_or list.symbols j d) name.element name.names))
  ends k (kinds.Logic logic) at = (let right = logic_at k (kinds.Logic logic) at in no_end logic.range (range-no_cr logic.range right.range.0 right.range.1))
  ends k other at = tt

  pub keeps_text : KeepsItsText table
  keeps_text = record {
    symbols = λ k d below. no_end (get_or table.atoms k d).symbol (known-no_cr (get_or table.atoms k d).symbol (all_of IsQueryAtom table.atoms (passed.passes query_atoms) k d below).symbol);
    properties = λ k d below. ends k (get_or table.props k d) (slice_get-get_or table.props k d below);
  }

-- ---- the whole

pub keeps_texts : (raw : RawQuery) → PassEach raw → KeepsItsTexts raw
keeps_texts raw passed =
    let nested = pass_nested raw passed in
    record {
      root = keeps_text raw.root (record { groups = raw.groups; is_root = true; passes = nested.root });
      members = λ i d below k e inside.
          keeps_text (get_or (get_or raw.groups i d).members k e) (record { groups = raw.groups; is_root = false; passes = nested.members i d below k e inside });
    }

pub kept_text : KeptLinesAreTheQuery → KeptTextIsTheQuery
kept_text law text raw is passed =
    let same : lines_of (kept_lines (lines_of text)) ≡ map without_crs (lines_of text) = kept_lines_are_read (lines_of text) (lines_hold_no_lf text) in
    subst (λ (lines : List Line). IsQueryFile lines raw) (sym same) (law (lines_of text) raw is (keeps_texts raw passed))
