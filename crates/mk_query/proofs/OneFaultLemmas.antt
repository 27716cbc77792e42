-- A raw query has at most one first fault, and none where its query passes every check.
--     one_first_fault      the law
--     no_fault             and that there is none
use Rattle.std.proofs.Common.{◌≡◌, ◌<◌, ℕ, Bool, List, Some, sym, ap, subst, ◌∙◌, arith, inl, inr}
use Rattle.std.specs.Prelude.{slice_get, ◌==◌, ◌⊎◌}
use Rattle.std.proofs.lemmas.Bool.{cases_order}
use Rattle.mk_text.specs.Items.{IsLeastFailing}
use Rattle.mk_text.proofs.ForCallers.{one_item}
use Rattle.mk_model.specs.Queries.{QueryView}
use Rattle.mk_tables.specs.declared.raw.RawTable.{RawTable}
use Rattle.mk_rgfile.specs.declared.raw_query.RawGroup.{RawGroup}
use Rattle.mk_rgfile.specs.declared.raw_query.RawQuery.{RawQuery}
use Rattle.mk_query.specs.declared.checking.Fault.{Fault}
use Rattle.mk_query.specs.declared.compile_fault.FaultAt.{FaultAt}
use Rattle.mk_query.specs.Compiled.{query_tables}
use Rattle.mk_query.specs.CompileFaults.{FitsAt, FitsTable, IsAcross, IsFirstInTables, IsNoCycle, IsWhole, PassAcross, PassEach, across_tables, in_a_table, points, recursion, size, whole}
use Rattle.mk_query.specs.FirstFault.{QueryCheck, QueryDemands, IsFirstFault, PassesAll}
use Rattle.mk_query.specs.Laws.{NoFaultWhereAllPass, OneFirstFault, OneQuery}
use Rattle.mk_query.proofs.FaultLemmas.{number-once}

-- ---- of one table

-- the first fault of a table is one check and one item
one_in_table : (groups : List RawGroup) (is_root : Bool) (table : RawTable) (f g : Fault)
    → IsFirstFault groups is_root table f → IsFirstFault groups is_root table g → (f.check ≡ g.check)
    × (f.item ≡ g.item)
one_in_table groups is_root table f g p q = by_order (cases_order f.check g.check)
  where
    by_order : (f.check ≡ g.check) ⊎ ((f.check < g.check) ⊎ (g.check < f.check)) → (f.check ≡ g.check) × (f.item ≡ g.item)
    by_order (inl same) =
        let checks : q.check ≡ p.check = number-once q.check p.check (q.numbered ∙ sym same ∙ sym p.numbered) in
        let P : QueryCheck → Type 0 = λ c. IsLeastFailing (QueryDemands groups is_root table c) g.item in
        (same, one_item (QueryDemands groups is_root table p.check) f.item g.item p.least (subst P checks q.least))
    by_order (inr (inl below)) = absurd (p.least.fails (q.before p.check (omega (arith, p.numbered, below)) f.item))
    by_order (inr (inr above)) = absurd (q.least.fails (p.before q.check (omega (arith, q.numbered, above)) g.item))

-- a table with a fault doesn't pass
no_pass : (groups : List RawGroup) (is_root : Bool) (table : RawTable) (f : Fault) → IsFirstFault groups is_root table f → PassesAll groups is_root table → ⊥
no_pass groups is_root table f is passes = is.least.fails (passes is.check f.item)

same_table : (tables : List RawTable) (t : ℕ) (a b : RawTable) → slice_get tables t ≡ Some a → slice_get tables t ≡ Some b → a ≡ b
same_table tables t a b is_a is_b = cc

same_fault : (f g : FaultAt) → f.check ≡ g.check → f.table ≡ g.table → f.item ≡ g.item → f ≡ g
same_fault f g p q r =
    ap (λ (x : ℕ). record { check = x; table = f.table; item = f.item }) p
    ∙ ap (λ (x : ℕ). record { check = g.check; table = x; item = f.item }) q
    ∙ ap (λ (x : ℕ). record { check = g.check; table = g.table; item = x }) r

-- ---- of the tables

-- where each passes there is no first fault in one
none_in_tables : (raw : RawQuery) (f : FaultAt) → IsFirstInTables raw f → PassEach raw → ⊥
none_in_tables raw f is passed = no_pass raw.groups (f.table == 0) is.table (record { check = f.check; item = f.item }) is.here (passed f.table is.table is.at)

one_in_tables : (raw : RawQuery) (f g : FaultAt) → IsFirstInTables raw f → IsFirstInTables raw g → f ≡ g
one_in_tables raw f g p q = by_order (cases_order f.table g.table)
  where
    by_order : (f.table ≡ g.table) ⊎ ((f.table < g.table) ⊎ (g.table < f.table)) → f ≡ g
    by_order (inl same) =
        let at : slice_get (query_tables raw) f.table ≡ Some q.table = ap (slice_get (query_tables raw)) same ∙ q.at in
        let tables : q.table ≡ p.table = same_table (query_tables raw) f.table q.table p.table at p.at in
        let here : IsFirstFault raw.groups (f.table == 0) p.table (record { check = g.check; item = g.item }) =
        subst (λ (t : RawTable). IsFirstFault raw.groups (f.table == 0) t (record { check = g.check; item = g.item })) tables
        (subst (λ (n : ℕ). IsFirstFault raw.groups (n == 0) q.table (record { check = g.check; item = g.item })) (sym same) q.here) in
        let one = one_in_table raw.groups (f.table == 0) p.table (record { check = f.check; item = f.item }) (record { check = g.check; item = g.item }) p.here here in
        same_fault f g one.0 same one.1
    by_order (inr (inl below)) = absurd (no_pass raw.groups (f.table == 0) p.table (record { check = f.check; item = f.item }) p.here (q.before f.table p.table below p.at))
    by_order (inr (inr above)) = absurd (no_pass raw.groups (g.table == 0) q.table (record { check = g.check; item = g.item }) q.here (p.before g.table q.table above q.at))

-- ---- across tables

none_across : (raw : RawQuery) (query : QueryView) (f : FaultAt) → IsAcross raw query f → PassAcross raw query → ⊥
none_across raw query f (recursion check item least) passed = least.fails (passed.no_cycle f.table)
none_across raw query f (points check none table least) passed = table.fails (passed.fits f.table)
none_across raw query f (size check table item none fits large) passed = large passed.small
none_across raw query f (whole check table none fits small least) passed = least.fails (passed.whole f.item)

one_across : (raw : RawQuery) (query : QueryView) (f g : FaultAt) → IsAcross raw query f → IsAcross raw query g → f ≡ g
one_across raw query f g (recursion check item least) (recursion check' item' least') =
    same_fault f g (check ∙ sym check') (one_item (IsNoCycle query) f.table g.table least least') (item ∙ sym item')
one_across raw query f g (recursion check item least) (points check' none table least') = absurd (least.fails (none f.table))
one_across raw query f g (recursion check item least) (size check' table item' none fits large) = absurd (least.fails (none f.table))
one_across raw query f g (recursion check item least) (whole check' table none fits small least') = absurd (least.fails (none f.table))
one_across raw query f g (points check none table least) (recursion check' item least') = absurd (least'.fails (none g.table))
one_across raw query f g (points check none table least) (points check' none' table' least') =
    let tables : f.table ≡ g.table = one_item (FitsTable query) f.table g.table table table' in
    let here : IsLeastFailing (FitsAt query f.table) g.item = subst (λ (t : ℕ). IsLeastFailing (FitsAt query t) g.item) (sym tables) least' in
    same_fault f g (check ∙ sym check') tables (one_item (FitsAt query f.table) f.item g.item least here)
one_across raw query f g (points check none table least) (size check' table' item none' fits large) = absurd (table.fails (fits f.table))
one_across raw query f g (points check none table least) (whole check' table' none' fits small least') = absurd (table.fails (fits f.table))
one_across raw query f g (size check table item none fits large) (recursion check' item' least') = absurd (least'.fails (none g.table))
one_across raw query f g (size check table item none fits large) (points check' none' table' least') = absurd (table'.fails (fits g.table))
one_across raw query f g (size check table item none fits large) (size check' table' item' none' fits' large') =
    same_fault f g (check ∙ sym check') (table ∙ sym table') (item ∙ sym item')
one_across raw query f g (size check table item none fits large) (whole check' table' none' fits' small least) = absurd (large small)
one_across raw query f g (whole check table none fits small least) (recursion check' item least') = absurd (least'.fails (none g.table))
one_across raw query f g (whole check table none fits small least) (points check' none' table' least') = absurd (table'.fails (fits g.table))
one_across raw query f g (whole check table none fits small least) (size check' table' item none' fits' large) = absurd (large small)
one_across raw query f g (whole check table none fits small least) (whole check' table' none' fits' small' least') =
    same_fault f g (check ∙ sym check') (table ∙ sym table') (one_item (IsWhole raw) f.item g.item least least')

-- ---- of the raw query

module _ (one_query : OneQuery) where
  pub one_first_fault : OneFirstFault
  one_first_fault raw f g (in_a_table p) (in_a_table q) = one_in_tables raw f g p q
  one_first_fault raw f g (in_a_table p) (across_tables passed query is q) = absurd (none_in_tables raw f p passed)
  one_first_fault raw f g (across_tables passed query is p) (in_a_table q) = absurd (none_in_tables raw g q passed)
  one_first_fault raw f g (across_tables passed query is p) (across_tables passed' query' is' q) =
      one_across raw query f g p (subst (λ (v : QueryView). IsAcross raw v g) (one_query raw query' query is' is) q)

  pub no_fault : NoFaultWhereAllPass
  no_fault raw query fault is passed (in_a_table p) = none_in_tables raw fault p passed.in_tables
  no_fault raw query fault is passed (across_tables each other is' p) =
      none_across raw query fault (subst (λ (v : QueryView). IsAcross raw v fault) (one_query raw other query is' is) p) passed.across
