-- The lists of elements in a table.
--     lists_there     an atom has the list of its kind, and no other
use Rattle.std.proofs.Common.{◌≡◌, ◌≢◌, ◌<◌, ◌+◌, ℕ, zero, suc, Bool, true, false, cond, eqb, eq-eqb, ne_eqb, List, [], ◌∷◌, ◌++◌, Some, map, refl, sym, ap, ◌∙◌, subst, append_assoc, arith}
use Rattle.std.specs.Prelude.{ℤ, pos, slice_get}
use Rattle.std.specs.List.{filter}
use Rattle.std.specs.Ordering.{int_eq}
use Rattle.std.proofs.lemmas.List.Elements.{filter-append}
use Rattle.mk_props.specs.declared.property.Pair.{Pair}
use Rattle.mk_props.specs.declared.property.Property.{Property}
use Rattle.mk_props.specs.declared.property.Property.TheVariants as kinds
use Rattle.mk_model.specs.declared.atom_test.AtomTest.{AtomTest}
use Rattle.mk_model.specs.declared.atom_test.Kind.{Kind}
use Rattle.mk_model.specs.declared.atom_test.Kind.TheVariants.{Element, OneOf, NoneOf, NotHydrogen, Hetero, Anything}
use Rattle.mk_model.specs.declared.graph.GraphAtom.{GraphAtom}
use Rattle.mk_model.specs.Graphs.{GraphView}
use Rattle.mk_query.specs.Drawn.{ElementList, by_symbols, listed_atom, lists_at, symbol_lists}
use Rattle.mk_query.proofs.ListMarkLemmas.{lists_of, symbols_first}
use Rattle.mk_enum.specs.StructureTables.{atom_entries, element_symbol, entries_from, entry, list_entry, unsaturation}
use Rattle.mk_enum.proofs.EachEntryLemmas.{one_entry}
use Rattle.mk_enum.proofs.SpeltLemmas.{table_drawn}

-- the list for atom x
abbrev pub list_drawn : ℕ → Bool → List ℕ → ElementList
list_drawn x not elements = by_symbols (record { atom = pos x; not = not; symbols = map element_symbol elements })

-- the lists of an atom of this kind
abbrev pub kind_lists : ℕ → Kind → List ElementList
kind_lists x (Element z) = []
kind_lists x (OneOf elements) = list_drawn x false elements ∷ []
kind_lists x (NoneOf elements) = list_drawn x true elements ∷ []
kind_lists x NotHydrogen = []
kind_lists x Hetero = []
kind_lists x Anything = []

lists-append : (ps qs : List Property) → symbol_lists (ps ++ qs) ≡ symbol_lists ps ++ symbol_lists qs
lists-append [] qs = refl
lists-append (p ∷ ps) qs =
    symbols_first p (ps ++ qs) ∙ ap (λ (more : List ElementList). lists_of p ++ more) (lists-append ps qs) ∙ sym (append_assoc (lists_of p) (symbol_lists ps) (symbol_lists qs))
    ∙ sym (ap (λ (front : List ElementList). front ++ symbol_lists qs) (symbols_first p ps))

entry_lists : (kind : List Pair → Property) (x : ℕ) (v : ℤ) → ((pairs : List Pair) → symbol_lists (kind pairs ∷ []) ≡ []) → symbol_lists (entry kind x v) ≡ []
entry_lists kind x v none = by_test (int_eq v (pos 0))
  where
    by_test : (b : Bool) → symbol_lists (cond b [] (kind (one_entry x v) ∷ [])) ≡ []
    by_test true = refl
    by_test false = none (one_entry x v)

own_list : (x : ℕ) (kind : Kind) → symbol_lists (list_entry x kind) ≡ kind_lists x kind
own_list x (Element z) = refl
own_list x (OneOf elements) = refl
own_list x (NoneOf elements) = refl
own_list x NotHydrogen = refl
own_list x Hetero = refl
own_list x Anything = refl

behind_none : (ps qs : List Property) (lists : List ElementList) → symbol_lists ps ≡ [] → symbol_lists qs ≡ lists → symbol_lists (ps ++ qs) ≡ lists
behind_none ps qs lists none is = lists-append ps qs ∙ ap (λ (front : List ElementList). front ++ symbol_lists qs) none ∙ is

atom_lists : (x : ℕ) (test : AtomTest) → symbol_lists (atom_entries x test) ≡ kind_lists x test.kind
atom_lists x test =
    let fifth = behind_none (entry kinds.Unsaturation x (unsaturation test)) (list_entry x test.kind) (kind_lists x test.kind)
    (entry_lists kinds.Unsaturation x (unsaturation test) (λ ps. refl)) (own_list x test.kind) in
    let fourth = behind_none (entry kinds.Substitution x test.substitution) _ (kind_lists x test.kind) (entry_lists kinds.Substitution x test.substitution (λ ps. refl)) fifth in
    let third = behind_none (entry kinds.RingBonds x test.ring_bonds) _ (kind_lists x test.kind) (entry_lists kinds.RingBonds x test.ring_bonds (λ ps. refl)) fourth in
    let second = behind_none (entry kinds.Radical x (pos test.radical)) _ (kind_lists x test.kind) (entry_lists kinds.Radical x (pos test.radical) (λ ps. refl)) third in
    behind_none (entry kinds.Charge x test.charge) _ (kind_lists x test.kind) (entry_lists kinds.Charge x test.charge (λ ps. refl)) second

-- ---- the lists that name an atom

abbrev named : ℕ → List ElementList → List ElementList
named n lists = filter (λ list. eqb (listed_atom list) n) lists

own_named : (x : ℕ) (kind : Kind) → named x (kind_lists x kind) ≡ kind_lists x kind
own_named x (Element z) = refl
own_named x (OneOf elements) = rw (eq-eqb x x refl) refl
own_named x (NoneOf elements) = rw (eq-eqb x x refl) refl
own_named x NotHydrogen = refl
own_named x Hetero = refl
own_named x Anything = refl

other_named : (x n : ℕ) (kind : Kind) → x ≢ n → named n (kind_lists x kind) ≡ []
other_named x n (Element z) other = refl
other_named x n (OneOf elements) other = rw (ne_eqb x n other) refl
other_named x n (NoneOf elements) other = rw (ne_eqb x n other) refl
other_named x n NotHydrogen other = refl
other_named x n Hetero other = refl
other_named x n Anything other = refl

parted : (x n : ℕ) (atom : GraphAtom) (atoms : List GraphAtom)
    → named n (symbol_lists (entries_from x (atom ∷ atoms))) ≡ named n (kind_lists x atom.test.kind) ++ named n (symbol_lists (entries_from (x + 1) atoms))
parted x n atom atoms =
    ap (named n) (lists-append (atom_entries x atom.test) (entries_from (x + 1) atoms) ∙ ap (λ (ls : List ElementList). ls ++ symbol_lists (entries_from (x + 1) atoms)) (atom_lists x atom.test))
    ∙ filter-append (λ (list : ElementList). eqb (listed_atom list) n) (kind_lists x atom.test.kind) (symbol_lists (entries_from (x + 1) atoms))

none_before : (x n : ℕ) (atoms : List GraphAtom) → n < x → named n (symbol_lists (entries_from x atoms)) ≡ []
none_before x n [] before = refl
none_before x n (atom ∷ atoms) before =
    parted x n atom atoms
    ∙ ap (λ (ls : List ElementList). ls ++ named n (symbol_lists (entries_from (x + 1) atoms))) (other_named x n atom.test.kind (λ same. omega (arith, same, before)))
    ∙ none_before (x + 1) n atoms (omega (arith, before))

lists_from : (x i : ℕ) (atoms : List GraphAtom) (atom : GraphAtom) → slice_get atoms i ≡ Some atom
    → named (x + i) (symbol_lists (entries_from x atoms)) ≡ kind_lists (x + i) atom.test.kind
lists_from x i [] atom at = absurd cc
lists_from x zero (first ∷ atoms) atom at =
    let same : first ≡ atom = cc in
    let here : x + zero ≡ x = omega arith in
    rw here
    (parted x x first atoms ∙ ap (λ (ls : List ElementList). named x (kind_lists x first.test.kind) ++ ls) (none_before (x + 1) x atoms (omega arith))
    ∙ ap (λ (ls : List ElementList). ls ++ []) (own_named x first.test.kind) ∙ nothing_behind x first.test.kind ∙ ap (λ (a : GraphAtom). kind_lists x a.test.kind) same)
  where
    nothing_behind : (y : ℕ) (kind : Kind) → kind_lists y kind ++ [] ≡ kind_lists y kind
    nothing_behind y (Element z) = refl
    nothing_behind y (OneOf elements) = refl
    nothing_behind y (NoneOf elements) = refl
    nothing_behind y NotHydrogen = refl
    nothing_behind y Hetero = refl
    nothing_behind y Anything = refl
lists_from x (suc i) (first ∷ atoms) atom at =
    let later : x + suc i ≡ x + 1 + i = omega arith in
    rw later
    (parted x (x + 1 + i) first atoms
    ∙ ap (λ (ls : List ElementList). ls ++ named (x + 1 + i) (symbol_lists (entries_from (x + 1) atoms))) (other_named x (x + 1 + i) first.test.kind (λ same. omega (arith, same)))
    ∙ lists_from (x + 1) i atoms atom at)

-- an atom of the table has the list of its kind, and no other
pub lists_there : (graph : GraphView) (i : ℕ) (atom : GraphAtom) → slice_get graph.atoms i ≡ Some atom → lists_at (table_drawn graph) (i + 1) ≡ kind_lists (i + 1) atom.test.kind
lists_there graph i atom at =
    let same : 1 + i ≡ i + 1 = omega arith in
    subst (λ (x : ℕ). named x (symbol_lists (entries_from 1 graph.atoms)) ≡ kind_lists x atom.test.kind) same (lists_from 1 i graph.atoms atom at)
