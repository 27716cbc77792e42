-- What a query over one table answers, and what is left once the rows that it shows are taken out.
use Rattle.std.proofs.Common.{◌≡◌, ◌&&◌, ◌||◌, ℕ, ℤ, pos, negsuc, ◌⊎◌, inl, inr, Bool, true, false, not, cond, List, [], ◌∷◌, ◌++◌}
use Rattle.std.proofs.Common.{map, filter, flat_map, fold, None, Some, refl, sym, ap, subst, ◌∙◌, Ordering, Less, Equal, Greater, is_eq, IsPermutation, IsTrue, append-nil}
use Rattle.std.specs.List.{AllByRecursion, list_any, list_all}
use Rattle.std.specs.Ordering.{on, ordering_then}
use Rattle.std.proofs.lemmas.Bool.{cases_Bool, cases_eq, not-true, false_from_ne_true}
use Rattle.std.proofs.lemmas.List.Sorted.{IsPermutation-sym, IsPermutation-map}
use Rattle.sqlite_value.specs.declared.value.Value.{Value}
use Rattle.sqlite_value.specs.declared.value.Value.TheVariants.{Null, Int}
use Rattle.sqlite_value.specs.declared.keys.Key.{Key}
use Rattle.sqlite_value.specs.declared.keys.Collation.TheVariants.{Binary}
use Rattle.sqlite_value.specs.Order.{Row, value_cmp}
use Rattle.sqlite_value.specs.Keys.{ascending}
use Rattle.sqlite_trees.specs.Tree.{Trees, rowid, IsAscending, IsTable, has_rowid, without_rowid}
use Rattle.sqlite_trees.specs.View.{is_int, IsShaped}
use Rattle.sqlite_trees.specs.declared.store.Shape.TheVariants.{Table}
use Rattle.sqlite_trees.proofs.ListLemmas.{all-permutation, ascending-map, ascending_weaker, filter_same, map-map}
use Rattle.sqlite_sql.specs.Term.{Term, lit, col, Env, eval_all, holds}
use Rattle.sqlite_sql.specs.Query.{Query, Output, output, output_cmp, inner, end, matches, page, IsAnswer}
use Rattle.sqlite_sql.proofs.QueryLemmas.{output_cmp_total}
use Rattle.sqlite_keyed.proofs.SortLemmas.{sorted_unique}
use Rattle.sqlite_rules.specs.Lists.{Has}
use Rattle.sqlite_rules.specs.Edit.{id_in, without_all}
use Rattle.sqlite_rules.specs.Calls.{ids_of}
use Rattle.sqlite_rules.proofs.ListLemmas.{all_has, all_from, some_has, some_from, has_filtered, has_kept}
use Rattle.sqlite_rules.proofs.ProbeLemmas.{has_mapped, mapped_has}
use Rattle.sqlite_rules.proofs.PlaceLemmas.{tied_same}

-- a query over one table, which shows terms of the rows that pass
abbrev pub over_table : ℕ → List Term → List Term → List (Term × Key) → Query
over_table tree terms project order = record {
  from = inner tree end;
  filter = terms;
  group = None;
  project = project;
  distinct = false;
  collations = [];
  order = order;
  limit = lit (Int (negsuc 0));
  offset = lit (Int (pos 0));
}

-- the row passes the terms
abbrev pub passes : List Term → Row → Row → Bool
passes terms params row = list_all (holds (params ∷ row ∷ [])) terms

-- what is shown of a row
abbrev pub shows : List Term → Row → Row → Row
shows project params row = eval_all project (params ∷ row ∷ [])

matched : {X Y : Type 0} (p : X → Bool) (f : X → Y) (xs : List X) → flat_map (λ x. cond (p x) (f x ∷ []) []) xs ≡ map f (filter p xs)
matched p f [] = refl
matched {X} {Y} p f (x ∷ xs) =
    elim (p x) as (λ b. cond b (f x ∷ []) [] ++ flat_map (λ y. cond (p y) (f y ∷ []) []) xs ≡ map f (cond b (x ∷ filter p xs) (filter p xs)))
    [ true ↦ ap (λ l. f x ∷ l) (matched p f xs) | false ↦ matched p f xs ]

module _ (tree : ℕ) (terms project : List Term) (order : List (Term × Key)) (db : Trees) (params : Row) (rows : List Row) where
  abbrev q : Query
  q = over_table tree terms project order

  abbrev env : Row → Env
  env row = params ∷ row ∷ []

  abbrev met : List Row
  met = filter (passes terms params) (db tree)

  kept_are : (answer : IsAnswer q db params rows) → answer.kept ≡ map (λ r. output q (env r)) met
  kept_are answer =
      answer.distinct ∙ ap (map (output q)) (answer.grouped ∙ matched (passes terms params) env (db tree)) ∙ map-map (output q) env met

  -- the rows that are shown stand in the order of the answer
  pub rows_are : (answer : IsAnswer q db params rows) → rows ≡ map (λ (o : Output). o.1) answer.ordered
  rows_are answer = answer.shown

  -- the answer shows each row that passes
  pub answered : IsAnswer q db params rows → IsPermutation (map (shows project params) met) rows
  answered answer =
      let shown = IsPermutation-map (λ (o : Output). o.1) _ _ (subst (λ l. IsPermutation l answer.ordered) (kept_are answer) answer.same) in
      subst (IsPermutation (map (shows project params) met)) (sym (rows_are answer))
      (subst (λ l. IsPermutation l (map (λ (o : Output). o.1) answer.ordered)) (map-map (λ (o : Output). o.1) (λ r. output q (env r)) met) shown)

-- by rising rowid
abbrev pub by_rowid : List (Term × Key)
by_rowid = (col 1 0, ascending Binary) ∷ []

module _ (tree : ℕ) (project : List Term) (db : Trees) (params : Row) (rows : List Row) where
  all_pass : (xs : List Row) → filter (passes [] params) xs ≡ xs
  all_pass [] = refl
  all_pass (x ∷ xs) = ap (λ l. x ∷ l) (all_pass xs)

  -- by rowid, the answer shows all rows as they stand
  pub answered_in_order : IsTable (db tree) → IsAnswer (over_table tree [] project by_rowid) db params rows → rows ≡ map (shows project params) (db tree)
  answered_in_order up answer =
      let q = over_table tree [] project by_rowid in
      let out = λ (r : Row). output q (params ∷ r ∷ []) in
      let kept = kept_are tree [] project by_rowid db params rows answer ∙ ap (map out) (all_pass (db tree)) in
      let rise = ascending-map (λ (a b : Output). output_cmp q a b ≡ Less) out (db tree) (ascending_weaker (λ a b. value_cmp (rowid a) (rowid b) ≡ Less)
      (λ a b. output_cmp q (out a) (out b) ≡ Less) (λ a b h. rw h) (db tree) up) in
      let ordered = sorted_unique (output_cmp q) (output_cmp_total q) (map out (db tree)) answer.ordered rise (subst (λ l. IsPermutation l answer.ordered) kept answer.same) answer.sorted in
      rows_are tree [] project by_rowid db params rows answer ∙ ap (map (λ (o : Output). o.1)) ordered ∙ map-map (λ (o : Output). o.1) out (db tree)

-- ---- rows that are taken out

has_permuted : {X : Type 0} (xs ys : List X) (x : X) → IsPermutation xs ys → Has ys x → Has xs x
has_permuted xs ys x same = all_has (Has xs) ys x (all-permutation (Has xs) xs ys same (all_from (Has xs) xs (λ e h. h)))

filter_all_true : {X : Type 0} (xs : List X) → filter (λ x. true) xs ≡ xs
filter_all_true [] = refl
filter_all_true (x ∷ xs) = ap (λ l. x ∷ l) (filter_all_true xs)

filter_twice : {X : Type 0} (a b : X → Bool) (xs : List X) → filter (λ x. not (b x)) (filter (λ x. not (a x)) xs) ≡ filter (λ x. not (a x || b x)) xs
filter_twice a b [] = refl
filter_twice {X} a b (x ∷ xs) = go (a x) (b x) refl refl (filter_twice a b xs)
  where
    go : (c d : Bool) → a x ≡ c → b x ≡ d → filter (λ y. not (b y)) (filter (λ y. not (a y)) xs) ≡ filter (λ y. not (a y || b y)) xs
        → filter (λ y. not (b y)) (cond (not c) (x ∷ filter (λ y. not (a y)) xs) (filter (λ y. not (a y)) xs)) ≡ cond (not (c || d)) (x ∷ filter (λ y. not (a y || b y)) xs)
        (filter (λ y. not (a y || b y)) xs)
    go true d p r more = more
    go false true p r more = rw r more
    go false false p r more = rw r (ap (λ l. x ∷ l) more)

abbrev is_among : List ℤ → Row → Bool
is_among ids row = list_any (λ id. has_rowid id row) ids

left_over : (ids : List ℤ) (rows : List Row) → without_all rows ids ≡ filter (λ r. not (is_among ids r)) rows
left_over [] rows = sym (filter_all_true rows)
left_over (id ∷ ids) rows = left_over ids (without_rowid id rows) ∙ filter_twice (has_rowid id) (is_among ids) rows

int_is : (v : Value) → IsTrue (is_int v) → v ≡ Int (id_in v)
int_is (Int n) h = refl
int_is v h = cc

equal_is : (o : Ordering) → is_eq o ≡ true → o ≡ Equal
equal_is Less h = cc
equal_is Equal h = refl
equal_is Greater h = cc

module _ (p : Row → Bool) (rows found : List Row) (shaped : IsShaped Table rows) (same : IsPermutation (map (λ r. rowid r ∷ []) (filter p rows)) found) where
  at_id : (r : Row) → Has rows r → rowid r ≡ Int (id_in (rowid r))
  at_id r h = int_is (rowid r) (all_has (λ s. IsTrue (is_int (rowid s))) rows r shaped.1 h)

  its_own : (r : Row) → Has rows r → has_rowid (id_in (rowid r)) r ≡ true
  its_own r h = let e = at_id r h in rw (← e, tied (rowid r))
    where
      tied : (v : Value) → is_eq (value_cmp v v) ≡ true
      tied v = ap is_eq (Rattle.std.proofs.lemmas.Cmp.tied_itself Rattle.sqlite_value.proofs.OrderLemmas.value_cmp_total v)

  same_test : (r : Row) → Has rows r → is_among (ids_of found) r ≡ p r
  same_test r h = go (p r) refl
    where
      go : (b : Bool) → p r ≡ b → is_among (ids_of found) r ≡ b
      go true is =
          let there = has_permuted found _ (rowid r ∷ []) (IsPermutation-sym _ _ same) (mapped_has (λ s. rowid s ∷ []) (filter p rows) r (has_kept p rows r h is)) in
          some_from (λ id. has_rowid id r) (ids_of found) (id_in (rowid r)) (mapped_has (λ s. id_in (rowid s)) found (rowid r ∷ []) there) (its_own r h)
      go false is = false_from_ne_true _ (λ among.
          let i = some_has (λ id. has_rowid id r) (ids_of found) among in
          let x = has_mapped (λ s. id_in (rowid s)) found i.0 i.1 in
          let s = has_mapped (λ s. rowid s ∷ []) (filter p rows) x.0 (has_permuted _ found x.0 same x.1) in
          let kept = has_filtered p rows s.0 s.1 in
          let id : i.0 ≡ id_in (rowid s.0) = x.2 ∙ ap (λ y. id_in (rowid y)) s.2 in
          let tie : value_cmp (rowid r) (rowid s.0) ≡ Equal = ap (value_cmp (rowid r)) (at_id s.0 kept.0 ∙ ap Int (sym id)) ∙ equal_is _ i.2 in
          let one = tied_same rows r s.0 shaped.0 h kept.0 tie in
          let passed : p r ≡ true = ap p one ∙ kept.1 in
          cc)

  -- what a query showed by rowid is taken out
  pub taken_out : without_all rows (ids_of found) ≡ filter (λ r. not (p r)) rows
  taken_out = left_over (ids_of found) rows ∙ filter_same (λ r. not (is_among (ids_of found) r)) (λ r. not (p r)) rows (all_from _ rows (λ r h. ap not (same_test r h)))
