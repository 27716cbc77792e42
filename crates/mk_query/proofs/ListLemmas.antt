-- The lists of elements that name each atom, noted list by list.
use Rattle.std.proofs.Common.{◌≡◌, ℕ, ◌+◌, ◌<◌, Bool, true, false, ◌&&◌, eqb, List, [], ◌∷◌, ◌++◌, All, length, get_or, map, refl, replicate, sym, subst, ap, ◌∙◌, arith}
use Rattle.std.specs.Prelude.{◌↔◌, IsTrue}
use Rattle.std.proofs.lemmas.Bool.{and_from, and_parts, true≢false}
use Rattle.std.proofs.lemmas.List.{get_or_append_left, get_or_push, length_push, map_push}
use Rattle.std.proofs.lemmas.List.Elements.{All-nil, All-push, filter-append}
use Rattle.mk_props.specs.declared.property.AtomList.{AtomList}
use Rattle.mk_props.specs.declared.property.Property.{Property}
use Rattle.mk_props.specs.declared.property.Property.TheVariants as kinds
use Rattle.mk_tables.specs.declared.raw.RawAtom.{RawAtom}
use Rattle.mk_tables.specs.declared.raw.RawList.{RawList}
use Rattle.mk_tables.specs.declared.raw.RawTable.{RawTable}
use Rattle.mk_demands.specs.Numbers.{IsAtom}
use Rattle.mk_text.specs.Items.{IsLeastFailing}
use Rattle.mk_query.specs.declared.lists.ListMark.{ListMark}
use Rattle.mk_query.specs.Drawn.{ElementList, by_numbers, by_symbols, listed_atom, lists_at, symbol_lists}
use Rattle.mk_query.specs.Marks.{AreMarks, AreMore, HasMore, IsListMark, lists_for}
use Rattle.mk_query.specs.SiteChecks.{HasKnownMembers, HasLists, IsListed}
use Rattle.mk_query.proofs.NumberedLemmas.{Numbered}
use Rattle.mk_query.proofs.MarkLemmas.{TellsOn, more-both, more-same, noted}

-- ---- words

-- those of some atom-list lines that name an atom
abbrev pub number_lists_by : List RawList → ℕ → List ElementList
number_lists_by lists = lists_for (map by_numbers lists)

-- those of some `M  ALS` that name an atom
abbrev pub symbol_lists_by : List Property → ℕ → List ElementList
symbol_lists_by props = lists_for (symbol_lists props)

lists_for-append : (ls ms : List ElementList) (x : ℕ) → lists_for (ls ++ ms) x ≡ lists_for ls x ++ lists_for ms x
lists_for-append ls ms x = filter-append (λ list. eqb (listed_atom list) x) ls ms

pub numbers_told : TellsOn number_lists_by
numbers_told lists list x =
    ap (λ (l : List ElementList). lists_for l x) (map_push by_numbers lists list) ∙ lists_for-append (map by_numbers lists) (by_numbers list ∷ []) x

symbol_lists-push : (props : List Property) (property : Property) → symbol_lists (props ++ property ∷ []) ≡ symbol_lists props ++ symbol_lists (property ∷ [])
symbol_lists-push [] property = refl
symbol_lists-push (kinds.List list ∷ props) property = ap (λ (l : List ElementList). by_symbols list ∷ l) (symbol_lists-push props property)
symbol_lists-push (other ∷ props) property = symbol_lists-push props property

pub symbols_told : TellsOn symbol_lists_by
symbols_told props property x =
    ap (λ (l : List ElementList). lists_for l x) (symbol_lists-push props property) ∙ lists_for-append (symbol_lists props) (symbol_lists (property ∷ [])) x

-- the lines and then the properties are all lists
pub both_told : (table : RawTable) (x : ℕ) → number_lists_by table.lists x ++ symbol_lists_by table.props x ≡ lists_at table x
both_told table x = sym (lists_for-append (map by_numbers table.lists) (symbol_lists table.props) x)

-- ---- notes

-- nothing was noted yet
pub no_list : (none : ListMark) → none.listed ≡ false → none.known ≡ true → IsListMark [] none
no_list none listed known = record {
  listed = (λ t. absurd (true≢false (sym t ∙ listed)), λ some. absurd (some refl));
  known = (λ t. All-nil HasKnownMembers, λ all. known);
}

not_nil : {X : Type 0} (xs : List X) (x : X) → xs ++ x ∷ [] ≡ [] → ⊥
not_nil xs x e = (let none : length (xs ++ x ∷ []) ≡ 0 = ap length e in omega (arith, none, length_push xs x))

-- one list more
pub list_more : (list : ElementList) (known : Bool) (old new : ListMark) → (IsTrue known ↔ HasKnownMembers list)
    → new.listed ≡ true → new.known ≡ (old.known && known) → HasMore IsListMark (list ∷ []) old new
list_more list known old new tested listed is those are = record {
  listed = (λ t. not_nil those list, λ some. listed);
  known = (
    λ t.
        let both = and_parts old.known known (sym is ∙ t) in
        All-push HasKnownMembers those list (are.known.0 both.0) (tested.0 both.1),
    λ all.
        let earlier : All HasKnownMembers those = λ k d below. rw (get_or_append_left those (list ∷ []) d k below) at (all k d (omega (arith, length_push those list))) in
        let last : HasKnownMembers list = rw (get_or_push those list list (length those) refl) at (all (length those) list (omega (arith, length_push those list))) in
        is ∙ and_from old.known known (are.known.1 earlier) (tested.1 last),
  );
}

-- the list of an `M  ALS`
pub one_list : (property : Property) (list : AtomList) (old new : List ListMark) → property ≡ kinds.List list
    → AreMore IsListMark (lists_for (by_symbols list ∷ [])) old new
    → AreMore IsListMark (symbol_lists_by (property ∷ [])) old new
one_list property list old new is more = subst (λ (p : Property). AreMore IsListMark (symbol_lists_by (p ∷ [])) old new) (sym is) more

-- all lists of a table
pub all_lists_noted : (table : RawTable) (n : ℕ) (none : ListMark) (old mid new : List ListMark) → none.listed ≡ false → none.known ≡ true → old ≡ replicate n none
    → AreMore IsListMark (number_lists_by table.lists) old mid → AreMore IsListMark (symbol_lists_by table.props) mid new → AreMarks (λ x. IsListMark (lists_at table x)) new
all_lists_noted table n none old mid new listed known blank p q =
    noted IsListMark (lists_at table) n none old new (no_list none listed known) blank
    (more-same IsListMark (λ x. number_lists_by table.lists x ++ symbol_lists_by table.props x) (lists_at table) old new (both_told table)
    (more-both IsListMark (number_lists_by table.lists) (symbol_lists_by table.props) old mid new p q))

-- what is noted of the lists of the atom at a place
pub lists_at_place : (table : RawTable) (marks : List ListMark) (i : ℕ) (m : ListMark) → i < length marks
    → AreMarks (λ x. IsListMark (lists_at table x)) marks → m ≡ get_or marks i m → IsListMark (lists_at table (i + 1)) m
lists_at_place table marks i m below are is = rw (← is) at (are i m below)

-- ---- what is demanded

-- what is demanded of the lists of atom x
abbrev pub HasListsAt : RawTable → ℕ → RawAtom → Type 0
HasListsAt table x atom = IsListed (lists_at table x) atom

-- a list that names no atom is item 0
pub lists_fail : (table : RawTable) (b : Bool) → (IsTrue b ↔ All (λ (list : RawList). IsAtom (length table.atoms) list.atom) table.lists) → b ≡ false → IsLeastFailing (HasLists table) 0
lists_fail table b tested failed = record {
  lower = λ j below. absurd (omega arith);
  fails = λ has. true≢false (sym (tested.1 (has.0 refl)) ∙ failed);
}

-- where each names one, it is an atom
pub atom_fails : (table : RawTable) (item : ℕ) → All (λ (list : RawList). IsAtom (length table.atoms) list.atom)
    table.lists → IsLeastFailing (Numbered (HasListsAt table) table.atoms) item → IsLeastFailing (HasLists table) item
atom_fails table item named least = record {
  lower = λ j below. (λ none. named, least.lower j below);
  fails = λ has. least.fails has.1;
}

-- or none
pub all_listed : (table : RawTable) → All (λ (list : RawList). IsAtom (length table.atoms) list.atom) table.lists
    → ((item : ℕ) → Numbered (HasListsAt table) table.atoms item) → (item : ℕ) → HasLists table item
all_listed table named all item = (λ none. named, all item)
