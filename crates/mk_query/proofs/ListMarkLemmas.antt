-- The lists of elements that are in force, noted one after the other.
use Rattle.std.proofs.Common.{◌≡◌, ◌≤◌, ◌<◌, ◌+◌, ℕ, Bool, true, false, cond, eqb, List, [], ◌∷◌, ◌++◌, Option, Some, None, refl, ap, sym, subst, ◌∙◌, length, get_or, map, replicate, take, arith}
use Rattle.std.specs.Prelude.{slice_get}
use Rattle.std.specs.List.{filter}
use Rattle.std.proofs.lemmas.List.{append-nil, append_assoc, length-replicate, map_more, take_all, take_more}
use Rattle.std.proofs.lemmas.List.Elements.{filter-append}
use Rattle.std.proofs.lemmas.Option.{slice_get-get_or}
use Rattle.mk_props.specs.declared.property.Property.{Property}
use Rattle.mk_props.specs.declared.property.Property.TheVariants as kinds
use Rattle.mk_tables.specs.declared.raw.RawList.{RawList}
use Rattle.mk_tables.specs.declared.raw.RawTable.{RawTable}
use Rattle.mk_demands.specs.Numbers.{natural}
use Rattle.mk_query.specs.declared.list_places.ListPlace.{ListPlace}
use Rattle.mk_query.specs.declared.list_places.ListPlace.TheVariants as place
use Rattle.mk_query.specs.Drawn.{ElementList, all_lists, by_numbers, by_symbols, last_list, listed_atom, symbol_lists}
use Rattle.mk_query.specs.ListMarks.{AreInForce, IsListNoted, IsPlaceAt, IsPlaceOf, in_force}
use Rattle.mk_query.proofs.MarkLemmas.{marks-none}

-- ---- the last list

last_push : (earlier : Option ElementList) (lists : List ElementList) (list : ElementList) → last_list earlier (lists ++ list ∷ []) ≡ Some list
last_push earlier [] list = refl
last_push earlier (l ∷ lists) list = last_push (Some l) lists list

in_force_push : (front : List ElementList) (list : ElementList) (x : ℕ) → in_force (front ++ list ∷ []) x ≡ cond (eqb (listed_atom list) x) (Some list) (in_force front x)
in_force_push front list x =
    ap (last_list None) (filter-append (λ (l : ElementList). eqb (listed_atom l) x) front (list ∷ [])) ∙ by_test (filter (λ (l : ElementList). eqb (listed_atom l) x) front) (eqb (listed_atom list) x)
  where
    by_test : (lists : List ElementList) (b : Bool) → last_list None (lists ++ cond b (list ∷ []) []) ≡ cond b (Some list) (last_list None lists)
    by_test lists true = last_push None lists list
    by_test lists false = ap (last_list None) (append-nil lists)

-- ---- all atoms

pub force_none : (lists : List RawList) (props : List Property) (n : ℕ) (places : List ListPlace) → places ≡ replicate n place.Nothing → AreInForce lists props [] places
force_none lists props n places is = rw is (marks-none (λ (x : ℕ) (found : ListPlace). IsPlaceOf lists props found None) n place.Nothing (λ x. refl))

pub force_none_size : (n : ℕ) (places : List ListPlace) → places ≡ replicate n place.Nothing → length places ≡ n
force_none_size n places is = ap (λ (l : List ListPlace). length l) is ∙ length-replicate n place.Nothing

place_by : (lists : List RawList) (props : List Property) (put old : ListPlace) (found before : Option ElementList) (b : Bool) → IsPlaceOf lists props put found → IsPlaceOf lists props old before
    → IsPlaceOf lists props (cond b put old) (cond b found before)
place_by lists props put old found before true is was = is
place_by lists props put old found before false is was = was

-- one list more
force_more : (lists : List RawList) (props : List Property) (front : List ElementList) (list : ElementList) (n : ℕ)
    (put : ListPlace) (old new : List ListPlace) → n ≡ listed_atom list → IsPlaceOf lists props put (Some list)
    → IsPlaceAt n put old new → AreInForce lists props front old → AreInForce lists props (front ++ list ∷ []) new
force_more lists props front list n put old new names there placed are k d below =
    let inside : k < length old = omega (arith, placed.size) in
    let place_is : get_or new k d ≡ cond (eqb (listed_atom list) (k + 1)) put (get_or old k d) = placed.each k d inside ∙ ap (λ (m : ℕ). cond (eqb m (k + 1)) put (get_or old k d)) names in
    subst (λ (p : ListPlace). IsPlaceOf lists props p (in_force (front ++ list ∷ []) (k + 1))) (sym place_is)
    (subst (λ (f : Option ElementList). IsPlaceOf lists props (cond (eqb (listed_atom list) (k + 1)) put (get_or old k d)) f) (sym (in_force_push front list (k + 1)))
    (place_by lists props put (get_or old k d) (Some list) (in_force front (k + 1)) (eqb (listed_atom list) (k + 1)) there (are k d inside)))

-- one atom-list line more
pub lines_more : (lists : List RawList) (props : List Property) (i n : ℕ) (list : RawList) (old new : List ListPlace) → i < length lists → list ≡ get_or lists i list → n ≡ natural list.atom
    → IsPlaceAt n (place.Line i) old new → AreInForce lists props (map by_numbers (take i lists)) old → AreInForce lists props (map by_numbers (take (i + 1) lists)) new
lines_more lists props i n list old new below is names placed are =
    let next : map by_numbers (take (i + 1) lists) ≡ map by_numbers (take i lists) ++ by_numbers list ∷ [] =
    map_more by_numbers lists i list below ∙ ap (λ (l : RawList). map by_numbers (take i lists) ++ by_numbers l ∷ []) (sym is) in
    let at : slice_get lists i ≡ Some list = slice_get-get_or lists i list below ∙ ap Some (sym is) in
    subst (λ (front : List ElementList). AreInForce lists props front new) (sym next)
    (force_more lists props (map by_numbers (take i lists)) (by_numbers list) n (place.Line i) old new names
    (list, at, refl) placed are)

-- ---- properties

abbrev pub lists_of : Property → List ElementList
lists_of (kinds.List list) = by_symbols list ∷ []
lists_of other = []

pub symbols_first : (p : Property) (ps : List Property) → symbol_lists (p ∷ ps) ≡ lists_of p ++ symbol_lists ps
symbols_first (kinds.List list) ps = refl
symbols_first p ps = refl

symbols_push : (ps : List Property) (p : Property) → symbol_lists (ps ++ p ∷ []) ≡ symbol_lists ps ++ lists_of p
symbols_push [] p = symbols_first p [] ∙ append-nil (lists_of p)
symbols_push (q ∷ ps) p =
    symbols_first q (ps ++ p ∷ []) ∙ ap (λ (l : List ElementList). lists_of q ++ l) (symbols_push ps p) ∙ sym (append_assoc (lists_of q) (symbol_lists ps) (lists_of p))
    ∙ ap (λ (l : List ElementList). l ++ lists_of p) (sym (symbols_first q ps))

noted_more : (lists : List RawList) (props : List Property) (front : List ElementList) (j : ℕ) (p : Property) (old new : List ListPlace) → slice_get props j ≡ Some p → IsListNoted p j old new
    → AreInForce lists props front old → AreInForce lists props (front ++ lists_of p) new
noted_more lists props front j (kinds.List list) old new at noted are = force_more lists props front (by_symbols list) (natural list.atom) (place.Property j) old new refl (list, at, refl) noted are
noted_more lists props front j p old new at noted are = rw (append-nil front, noted) are

-- one property more
pub property_more : (lists : List RawList) (props : List Property) (front : List ElementList) (j : ℕ) (p : Property)
    (old new : List ListPlace) → j < length props → p ≡ get_or props j p → IsListNoted p j old new
    → AreInForce lists props (front ++ symbol_lists (take j props)) old → AreInForce lists props (front ++ symbol_lists (take (j + 1) props)) new
property_more lists props front j p old new below is noted are =
    let at : slice_get props j ≡ Some p = slice_get-get_or props j p below ∙ ap Some (sym is) in
    let taken : take (j + 1) props ≡ take j props ++ p ∷ [] = take_more props j p below ∙ ap (λ (q : Property). take j props ++ q ∷ []) (sym is) in
    let next : front ++ symbol_lists (take (j + 1) props) ≡ (front ++ symbol_lists (take j props)) ++ lists_of p =
    ap (λ (l : List Property). front ++ symbol_lists l) taken
    ∙ ap (λ (l : List ElementList). front ++ l) (symbols_push (take j props) p)
    ∙ sym (append_assoc front (symbol_lists (take j props)) (lists_of p)) in
    subst (λ (l : List ElementList). AreInForce lists props l new) (sym next) (noted_more lists props (front ++ symbol_lists (take j props)) j p old new at noted are)

-- before the first
pub property_none : (lists : List RawList) (props : List Property) (i : ℕ) (places : List ListPlace) → length lists ≤ i → AreInForce lists props (map by_numbers (take i lists)) places
    → AreInForce lists props (map by_numbers lists ++ symbol_lists (take 0 props)) places
property_none lists props i places all are = rw append-nil (subst (λ (l : List RawList). AreInForce lists props (map by_numbers l) places) (take_all i lists all) are)

-- behind the last
pub property_all : (table : RawTable) (j : ℕ) (places : List ListPlace) → length table.props ≤ j
    → AreInForce table.lists table.props (map by_numbers table.lists ++ symbol_lists (take j table.props)) places
    → AreInForce table.lists table.props (all_lists table) places
property_all table j places all are = subst (λ (l : List Property). AreInForce table.lists table.props (map by_numbers table.lists ++ symbol_lists l) places) (take_all j table.props all) are
