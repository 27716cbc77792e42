-- What is held under a name or a number.
--     query_found, search_found, search_none     look-ups of a name and of a number, in the rows
--     if_some, if_none                           what holds of what a look-up gives
--     named_of                                   a name under which a query is found is one of the names
--     search_is_held, place_is_kept              a saved search that is found is among the rows, and its place is short
use Rattle.std.proofs.Common.{◌≡◌, ℕ, ◌≤◌, Bool, true, false, ◌||◌, List, [], ◌∷◌, length, bytes_eq, nat_eq, Option, Some, None, refl, sym, ap, ◌∙◌, subst}
use Rattle.std.specs.Prelude.{IfNone, IfSome}
use Rattle.std.specs.List.{AllByRecursion, list_any}
use Rattle.std.specs.Map.{lookup}
use Rattle.std.specs.Global.{Vec}
use Rattle.std.proofs.lemmas.Bool.{cond_both, eqb-true}
use Rattle.std.proofs.lemmas.Cmp.{nat_list_eq_equiv}
use Rattle.std.proofs.lemmas.Slice.Eq.{bytes_eq-Decides}
use Rattle.mk_rows.specs.declared.by_number.Numbered.{Numbered}
use Rattle.mk_rows.specs.Rows.{holds, item_at}
use Rattle.mk_model.specs.Queries.{QueryView}
use Rattle.mk_outside.specs.declared.tables.CursorRow.{CursorRow}
use Rattle.mk_outside.specs.declared.tables.QueryRow.{QueryRow}
use Rattle.mk_kept.specs.declared.saved.Kept.{Kept}
use Rattle.mk_kept.specs.declared.saved.SavedSearch.{SavedSearch}
use Rattle.mk_kept.specs.Names.{IsName}
use Rattle.mk_kept.specs.Saved.{IsKeptEntry, IsKeptSearch, cursors_of, is_named, longest_place, rows_of}
use Rattle.mk_kept.specs.Named.{IsQueryNamed, search_of, text_named}
use Rattle.mk_kept.proofs.SavedLemmas.{or_left_true}

-- ---- a query by its name

pub some_same : {A : Type 0} (a b : A) → Some a ≡ Some b → a ≡ b
some_same a b is = cc

-- the query that is looked up is the one of the name, which is a name
pub query_found : (name : List ℕ) (es : List (Vec ℕ × Kept)) (kept : Kept) → AllByRecursion IsKeptEntry es → lookup (λ k. bytes_eq name k.items) es ≡ Some kept
    → IsQueryNamed (rows_of es) name kept.query × IsName name
query_found name [] kept all is = cc
query_found name (e ∷ es) kept all is =
    cond_both (bytes_eq name e.0.items) (Some e.1) (lookup (λ k. bytes_eq name k.items) es)
    (λ found. found ≡ Some kept → IsQueryNamed (rows_of (e ∷ es)) name kept.query × IsName name)
    (λ here. λ this.
    let there : bytes_eq e.0.items name ≡ true = nat_list_eq_equiv.symm e.0.items name ∙ here in
    let same : name ≡ e.0.items = (bytes_eq-Decides name e.0.items).0 here in
    let named : IsQueryNamed (rows_of (e ∷ es)) name e.1.query = record { text = e.1.text; held = rw there refl; means = all.0.meant } in
    (subst (λ (k : Kept). IsQueryNamed (rows_of (e ∷ es)) name k.query) (some_same e.1 kept this) named, subst IsName (sym same) all.0.name))
    (λ other. λ later.
    let there : bytes_eq e.0.items name ≡ false = nat_list_eq_equiv.symm e.0.items name ∙ other in
    let rest = query_found name es kept all.1 later in
    (record { text = rest.0.text; held = rw there rest.0.held; means = rest.0.means }, rest.1))
    is

-- a name under which a text stands is one of the names
text_is_named : (name : List ℕ) (rows : List QueryRow) (text : List ℕ) → text_named name rows ≡ Some text → is_named name rows ≡ true
text_is_named name [] text is = cc
text_is_named name (row ∷ rows) text is =
    cond_both (bytes_eq row.name name) (Some row.text) (text_named name rows)
    (λ found. found ≡ Some text → is_named name (row ∷ rows) ≡ true)
    (λ here. λ _. rw here refl)
    (λ other. λ later. rw other (text_is_named name rows text later))
    is

pub named_of : (name : List ℕ) (rows : List QueryRow) (query : QueryView) → IsQueryNamed rows name query → is_named name rows ≡ true
named_of name rows query is = text_is_named name rows is.text is.held

-- ---- a saved search by its number

-- what is known of the search that is looked up
abbrev pub IsSearchFound : ℕ → List QueryRow → List CursorRow → SavedSearch → Type 0
IsSearchFound n queries rows search =
    (search_of n rows ≡ Some (record { number = n; name = search.name; place = search.place })) × (is_named search.name queries ≡ true) × (length search.place ≤ longest_place)

pub search_found : (n next : ℕ) (queries : List QueryRow) (rows : List (Numbered SavedSearch)) (search : SavedSearch)
    → AllByRecursion (IsKeptSearch queries next) (cursors_of rows) → item_at n rows ≡ Some search → IsSearchFound n queries (cursors_of rows) search
search_found n next queries [] search all is = cc
search_found n next queries (row ∷ rows) search all is =
    cond_both (nat_eq row.number n) (Some row.item) (item_at n rows)
    (λ found. found ≡ Some search → IsSearchFound n queries (cursors_of (row ∷ rows)) search)
    (λ here. λ this.
    let number : row.number ≡ n = eqb-true row.number n here in
    let first : IsSearchFound n queries (cursors_of (row ∷ rows)) row.item =
    (rw here (ap (λ (k : ℕ). Some (record { number = k; name = row.item.name; place = row.item.place })) number), all.0.named, all.0.short) in
    subst (IsSearchFound n queries (cursors_of (row ∷ rows))) (some_same row.item search this) first)
    (λ other. λ later.
    let rest = search_found n next queries rows search all.1 later in
    (rw other rest.0, rest.1, rest.2))
    is

or_false : (a b : Bool) → (a || b) ≡ false → (a ≡ false) × (b ≡ false)
or_false true b is = cc
or_false false b is = (refl, is)

pub search_none : (n : ℕ) (rows : List (Numbered SavedSearch)) → holds n rows ≡ false → search_of n (cursors_of rows) ≡ None
search_none n [] none = refl
search_none n (row ∷ rows) none =
    let both = or_false (nat_eq row.number n) (holds n rows) none in
    rw both.0 (search_none n rows both.1)

-- what holds of what is looked up holds of what it gives, and so for none
pub if_some : {A : Type 0} (P Q : A → Type 0) (r : Option A) → ((a : A) → P a → Q a) → IfSome r P → IfSome r Q
if_some P Q None then_so is = tt
if_some P Q (Some a) then_so is = then_so a is

pub if_none : {A P Q : Type 0} (r : Option A) → (P → Q) → IfNone r P → IfNone r Q
if_none None then_so is = then_so is
if_none (Some a) then_so is = tt

-- ---- commands

-- a saved search that is found is among the rows
pub search_is_held : (c : ℕ) (row : CursorRow) (rows : List CursorRow) → search_of c rows ≡ Some row → list_any (λ (x : CursorRow). nat_eq x.number c) rows ≡ true
search_is_held c row [] found = absurd cc
search_is_held c row (x ∷ rows) found =
    cond_both (nat_eq x.number c) (Some x) (search_of c rows) (λ (o : Option CursorRow). o ≡ Some row → (nat_eq x.number c || list_any (λ (y : CursorRow). nat_eq y.number c) rows) ≡ true)
    (λ here. λ _. or_left_true (nat_eq x.number c) (list_any (λ (y : CursorRow). nat_eq y.number c) rows) here)
    (λ other. λ later. rw other (search_is_held c row rows later))
    found

-- and its place is short
pub place_is_kept : (c : ℕ) (row : CursorRow) (rows : List CursorRow)
    → AllByRecursion (λ (x : CursorRow). length x.place ≤ longest_place) rows → search_of c rows ≡ Some row
    → length row.place ≤ longest_place
place_is_kept c row [] all found = absurd cc
place_is_kept c row (x ∷ rows) all found =
    cond_both (nat_eq x.number c) (Some x) (search_of c rows) (λ (o : Option CursorRow). o ≡ Some row → length row.place ≤ longest_place)
    (λ here. λ same. let is : x ≡ row = cc in subst (λ (y : CursorRow). length y.place ≤ longest_place) is all.0)
    (λ other. λ later. place_is_kept c row rows all.1 later)
    found
