-- The kinds of atoms, and the lists of elements that tell them.
--     line_tells, property_tells     the kind that the list at a place tells
--     known_at       the members of the list that is in force for an atom are elements
--     kind_is        the kind of an atom by what is noted
use Rattle.std.proofs.Common.{◌≡◌, ◌≤◌, ◌<◌, ◌+◌, ◌-◌, ℕ, suc, List, [], ◌∷◌, ◌++◌, Option, Some, None, refl, ap, sym, subst, ◌∙◌, length, get_or, take, arith, inl, inr, Result, Ok, Err}
use Rattle.std.specs.Prelude.{◌≢◌, ◌⊎◌, All, IfOk, IsSome, codes, slice_get}
use Rattle.std.proofs.lemmas.List.{take_all, take_more}
use Rattle.std.proofs.lemmas.Option.{get_or_from_slice_get}
use Rattle.mk_elements.specs.Symbols.{NamesElement}
use Rattle.mk_props.specs.declared.property.Property.{Property}
use Rattle.mk_props.specs.declared.property.Property.TheVariants as kinds
use Rattle.mk_model.specs.declared.atom_test.Kind.{Kind}
use Rattle.mk_tables.specs.declared.raw.RawAtom.{RawAtom}
use Rattle.mk_tables.specs.declared.raw.RawList.{RawList}
use Rattle.mk_tables.specs.declared.raw.RawTable.{RawTable}
use Rattle.mk_query.specs.declared.list_places.ListPlace.{ListPlace}
use Rattle.mk_query.specs.declared.list_places.ListPlace.TheVariants as place
use Rattle.mk_query.specs.Checks.{IsElementName, IsQueryWord}
use Rattle.mk_query.specs.Compiled.{IsKindOf, NameElements, of_list}
use Rattle.mk_query.specs.Drawn.{ElementList, by_numbers, by_symbols, last_list, list_in_force, lists_at}
use Rattle.mk_query.specs.FirstFault.{element_lists}
use Rattle.mk_query.specs.KindMarks.{AreKnownAt, IsKindAt, IsKindBy, IsKindFor, IsKindIn, IsPlainSymbol, listed, plain}
use Rattle.mk_query.specs.ListMarks.{IsPlaceOf}
use Rattle.mk_query.specs.Passed.{HasPassed}
use Rattle.mk_query.specs.SiteChecks.{HasKnownMembers, IsListed}

-- ---- names

names_push : (symbols : List (List ℕ)) (elements : List ℕ) (symbol : List ℕ) (z : ℕ) → NameElements symbols elements
    → NamesElement symbol z → NameElements (symbols ++ symbol ∷ []) (elements ++ z ∷ [])
names_push [] [] symbol z are is = (is, tt)
names_push [] (y ∷ elements) symbol z are is = absurd are
names_push (s ∷ symbols) [] symbol z are is = absurd are
names_push (s ∷ symbols) (y ∷ elements) symbol z are is = (are.0, names_push symbols elements symbol z are.1 is)

-- one name more
pub names_seen : (symbols : List (List ℕ)) (i : ℕ) (symbol : List ℕ) (elements : List ℕ) (z : ℕ) → i < length symbols
    → symbol ≡ get_or symbols i symbol → NameElements (take i symbols) elements → NamesElement symbol z
    → NameElements (take (i + 1) symbols) (elements ++ z ∷ [])
names_seen symbols i symbol elements z below at are is =
    let next : take (i + 1) symbols ≡ take i symbols ++ symbol ∷ [] = take_more symbols i symbol below ∙ ap (λ (s : List ℕ). take i symbols ++ s ∷ []) (sym at) in
    rw next (names_push (take i symbols) elements symbol z are is)

pub names_all : (symbols : List (List ℕ)) (i : ℕ) (elements : List ℕ) → length symbols ≤ i → NameElements (take i symbols) elements → NameElements symbols elements
names_all symbols i elements all are = subst (λ (l : List (List ℕ)). NameElements l elements) (take_all i symbols all) are

-- ---- the list at a place

-- what is read at a place is the item there
pub read_there : {X : Type 0} (xs items : List X) (i : ℕ) (item there : X) → items ≡ xs → item ≡ get_or items i item → slice_get xs i ≡ Some there → item ≡ there
read_there xs items i item there same is at = is ∙ ap (λ l. get_or l i item) same ∙ get_or_from_slice_get xs i there item at

pub line_tells : {E : Type 0} (answer : Result Kind E) (lists : List RawList) (props : List Property) (i : ℕ) (list : RawList) → slice_get lists i ≡ Some list
    → IfOk answer (IsKindIn (by_numbers list)) → IfOk answer (IsKindAt lists props (place.Line i))
line_tells (Ok kind) lists props i list at is = (list, at, is)
line_tells (Err none) lists props i list at is = tt

pub property_tells : {E : Type 0} (answer : Result Kind E) (lists : List RawList) (props : List Property) (i : ℕ) (property : Property) → slice_get props i ≡ Some property
    → IfOk answer (IsKindBy property) → IfOk answer (IsKindAt lists props (place.Property i))
property_tells (Ok kind) lists props i property at is = (property, at, is)
property_tells (Err none) lists props i property at is = tt

-- ---- the list in force

some_same : (a b : ElementList) → Some a ≡ Some b → a ≡ b
some_same a b e = cc

pub last_all : (P : ElementList → Type 0) (earlier : Option ElementList) (lists : List ElementList) (list : ElementList)
    → ((l : ElementList) → earlier ≡ Some l → P l) → All P lists → last_list earlier lists ≡ Some list → P list
last_all P earlier [] list was all is = was list is
last_all P earlier (l ∷ lists) list was all is =
    last_all P (Some l) lists list (λ m e. subst P (some_same l m e) (all 0 l (omega arith))) (λ k d below. all (suc k) d (omega (arith, below))) is

pub last_some : (l : ElementList) (lists : List ElementList) → (list : ElementList) × (last_list (Some l) lists ≡ Some list)
last_some l [] = (l, refl)
last_some l (m ∷ lists) = last_some m lists

some_last : (lists : List ElementList) → last_list None lists ≡ None → lists ≡ []
some_last [] is = refl
some_last (l ∷ lists) is = (let found = last_some l lists in let e = found.1 in absurd cc)

-- the check of lists at an atom
pub listed_at : (table : RawTable) (i : ℕ) (line : RawAtom) → HasPassed table → slice_get table.atoms i ≡ Some line → IsListed (lists_at table (i + 1)) line
listed_at table i line passed at = (let place : i + 1 - 1 ≡ i = omega arith in (passed.passes element_lists (i + 1)).1 line (omega arith) (rw place at))

-- the members of the list that is in force for an atom are elements
pub known_at : (table : RawTable) (i : ℕ) (line : RawAtom) (found : ListPlace) → HasPassed table
    → slice_get table.atoms i ≡ Some line → IsPlaceOf table.lists table.props found (list_in_force table (i + 1))
    → AreKnownAt table.lists table.props found
known_at table i line place.Nothing passed at is = tt
known_at table i line (place.Line j) passed at is =
    (is.0, is.1, last_all HasKnownMembers None (lists_at table (i + 1)) (by_numbers is.0) (λ l e. absurd cc) (listed_at table i line passed at).members is.2)
known_at table i line (place.Property j) passed at is =
    (kinds.List is.0, is.1, last_all HasKnownMembers None (lists_at table (i + 1)) (by_symbols is.0) (λ l e. absurd cc) (listed_at table i line passed at).members is.2)

-- ---- the kind

one_line : (lists : List RawList) (j : ℕ) (a b : RawList) → slice_get lists j ≡ Some a → slice_get lists j ≡ Some b → a ≡ b
one_line lists j a b is_a is_b = cc

one_property : (props : List Property) (j : ℕ) (a b : Property) → slice_get props j ≡ Some a → slice_get props j ≡ Some b → a ≡ b
one_property props j a b is_a is_b = cc

by_place : (table : RawTable) (found : Option ElementList) (symbol : List ℕ) (put : ListPlace) (kind : Kind)
    → symbol ≡ codes "L" → found ≢ None → IsPlaceOf table.lists table.props put found
    → IsKindAt table.lists table.props put kind
    → IsKindOf found symbol kind
by_place table found symbol place.Nothing kind word some is told = absurd (some is)
by_place table found symbol (place.Line j) kind word some is told =
    let same : told.0 ≡ is.0 = one_line table.lists j told.0 is.0 told.1 is.1 in
    let here : IsKindIn (by_numbers is.0) kind = subst (λ (l : RawList). IsKindIn (by_numbers l) kind) same told.2 in
    of_list word (by_numbers is.0) is.2 here.elements here.has here.is
by_place table found symbol (place.Property j) kind word some is told =
    let same : told.0 ≡ kinds.List is.0 = one_property table.props j told.0 (kinds.List is.0) told.1 is.1 in
    let here : IsKindIn (by_symbols is.0) kind = subst (λ (p : Property). IsKindBy p kind) same told.2 in
    of_list word (by_symbols is.0) is.2 here.elements here.has here.is

-- the kind of an atom by what is noted
pub kind_is : (table : RawTable) (i : ℕ) (line : RawAtom) (put : ListPlace) (kind : Kind) → HasPassed table
    → slice_get table.atoms i ≡ Some line → IsPlaceOf table.lists table.props put (list_in_force table (i + 1))
    → IsKindFor line.symbol table.lists table.props put kind → IsKindOf (list_in_force table (i + 1)) line.symbol kind
kind_is table i line put kind passed at is (listed word told) =
    by_place table (list_in_force table (i + 1)) line.symbol put kind word (λ none. (listed_at table i line passed at).word.0 word (some_last (lists_at table (i + 1)) none)) is told
kind_is table i line put kind passed at is (plain told) = told (list_in_force table (i + 1))

-- ---- symbols

-- what is found is there
pub some_is : (r : Option ℕ) (z : ℕ) → r ≡ Some z → IsSome r
some_is None z e = absurd cc
some_is (Some y) z e = refl

-- the word that is left
pub word_left : (symbol : List ℕ) → IsPlainSymbol symbol → ¬ (symbol ≡ codes "L") → ((z : ℕ) → ¬ (NamesElement symbol z)) → ¬ (symbol ≡ codes "A") → ¬ (symbol ≡ codes "Q") → symbol ≡ codes "*"
word_left symbol known no_list no_name no_a no_q = by_case known.known
  where
    by_case : IsElementName symbol ⊎ IsQueryWord symbol → symbol ≡ codes "*"
    by_case (inl named) = absurd (no_name named.element named.names)
    by_case (inr (inl e)) = absurd (no_list e)
    by_case (inr (inr (inl e))) = absurd (no_a e)
    by_case (inr (inr (inr (inl e)))) = absurd (no_q e)
    by_case (inr (inr (inr (inr (inl e))))) = e
    by_case (inr (inr (inr (inr (inr e))))) = absurd (known.no_site e)
