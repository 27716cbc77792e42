-- A raw query in range has a query that passes every check, or a first fault.
--     in_tables, across    what is found in the tables, and across them
--     fault_or_query       the law
use Rattle.std.proofs.Common.{◌≡◌, ◌<◌, ◌≤◌, ◌+◌, ℕ, zero, suc, Bool, true, false, List, [], ◌∷◌, Option, Some, None, refl, sym, ap, subst, ◌∙◌, arith, inl, inr, length, get_or, cond, All, ⊎_elim}
use Rattle.std.specs.Prelude.{◌⊎◌, ◌==◌, Contains, slice_get}
use Rattle.std.proofs.lemmas.Bool.{cases_lt, eqb-true}
use Rattle.std.proofs.lemmas.List.Elements.{All-cons, All-contains, All-head, All-tail, Contains-get_or}
use Rattle.std.proofs.lemmas.List.Sums.{sum_by-cons}
use Rattle.std.proofs.lemmas.Option.{slice_get_within}
use Rattle.mk_text.specs.Items.{IsLeastFailing}
use Rattle.mk_model.specs.declared.template.Slot.{Slot}
use Rattle.mk_model.specs.Labels.{PutsIn, members_at}
use Rattle.mk_model.specs.Queries.{QueryView, members_of, slots_of}
use Rattle.mk_model.specs.QueryFits.{FitsPoints}
use Rattle.mk_model.specs.Templates.{TemplateView, neighbour_count, slot_atom}
use Rattle.mk_model.proofs.ForCallers.{sizing_of, size_by_rank}
use Rattle.mk_tables.specs.declared.raw.RawTable.{RawTable}
use Rattle.mk_rgfile.specs.declared.raw_query.RawGroup.{RawGroup}
use Rattle.mk_rgfile.specs.declared.raw_query.RawQuery.{RawQuery}
use Rattle.mk_rgfile.specs.QueryFacts.{member_count}
use Rattle.mk_query.specs.declared.compile_fault.FaultAt.{FaultAt}
use Rattle.mk_query.specs.Compiled.{IsQueryOf, query_tables}
use Rattle.mk_query.specs.CompileFaults.{FitsAt, FitsTable, IsAcross, IsFirstCompileFault, IsFirstInTables, IsNoCycle, IsSmall, IsWhole, PassAcross, PassChecks, PassEach, across_tables, groups_of_number, in_a_table, points, recursion, size, whole}
use Rattle.mk_query.specs.FirstFault.{PassesAll}
use Rattle.mk_query.specs.InRange.{IsGroupInRange, IsQueryInRange}
use Rattle.mk_query.specs.Laws.{FaultOrQuery}
use Rattle.mk_query.specs.Recursion.{MembersWithin, comes_back, leads}
use Rattle.mk_query.proofs.KnownCheckLemmas.{first_in_table}
use Rattle.mk_query.proofs.KnownLemmas.{Known, known_all, known_as, known_both, known_equal, known_if, known_most, known_not, known_some, known_some_below, known_some_items, known_true, least_failing}
use Rattle.mk_query.proofs.QueryLemmas.{count_of, drafted, members_within}
use Rattle.mk_query.proofs.QueryThereLemmas.{query_there}
use Rattle.mk_query.proofs.RecursionLemmas.{HasGroups, all_within, chain_leads, has_groups, leads_chain, rank_of, ranked}
use Rattle.mk_query.proofs.RootSizesLemmas.{one_size}

-- ---- in the tables

module _ (raw : RawQuery) where
  -- the first so many tables pass, or a fault was found
  SoFar : ℕ → Type 0
  SoFar n = ((t : ℕ) (table : RawTable) → t < n → slice_get (query_tables raw) t ≡ Some table → PassesAll raw.groups (t == 0) table) ⊎ ((fault : FaultAt) × IsFirstInTables raw fault)

  one_more : (n : ℕ) → SoFar n → SoFar (suc n)
  unfolding SoFar
  one_more n (inr found) = inr found
  one_more n (inl before) = by_table (slice_get (query_tables raw) n) refl
    where
      last_one : (o : Option RawTable) → slice_get (query_tables raw) n ≡ o → ((table : RawTable) → o ≡ Some table → PassesAll raw.groups (n == 0) table)
          → (t : ℕ) (table : RawTable) → t < suc n → slice_get (query_tables raw) t ≡ Some table → PassesAll raw.groups (t == 0) table
      last_one o is here t table below at =
          ⊎_elim (λ earlier. before t table earlier at)
          (λ last. let same : n ≡ t = omega (arith, last, below)
          in subst (λ (k : ℕ). PassesAll raw.groups (k == 0) table) same
          (here table (sym is ∙ ap (slice_get (query_tables raw)) same ∙ at))) (cases_lt t n)

      by_table : (o : Option RawTable) → slice_get (query_tables raw) n ≡ o → SoFar (suc n)
      by_table None is = inl (last_one None is (λ table e. absurd cc))
      by_table (Some table) is =
          ⊎_elim (λ passes. inl (last_one (Some table) is (λ other e. let same : table ≡ other = cc in subst (PassesAll raw.groups (n == 0)) same passes)))
          (λ found. inr (record { check = found.0.check; table = n; item = found.0.item }, record { table = table; at = is; before = λ t earlier below at. before t earlier below at; here = found.1 }))
          (first_in_table raw.groups (n == 0) table)

  so_far : (n : ℕ) → SoFar n
  unfolding SoFar
  so_far zero = inl (λ t table below at. absurd (omega (arith, below)))
  so_far (suc n) = one_more n (so_far n)

  in_tables : PassEach raw ⊎ ((fault : FaultAt) × IsFirstInTables raw fault)
  unfolding SoFar
  in_tables = ⊎_elim (λ before. inl (λ t table at. before t table (slice_get_within (query_tables raw) t table at) at)) (λ found. inr found) (so_far (length (query_tables raw)))

-- ---- across them

module _ (query : QueryView) where
  -- no site of a table that isn't there puts one in
  no_slots : (t : ℕ) → length query.templates ≤ t → slots_of query t ≡ []
  no_slots t past = by_template (slice_get query.templates t) refl
    where
      by_template : (o : Option TemplateView) → slice_get query.templates t ≡ o → slots_of query t ≡ []
      by_template None is = rw is refl
      by_template (Some template) is = absurd (let within = slice_get_within query.templates t template is in omega (arith, within, past))

  no_puts : (t u : ℕ) → length query.templates ≤ t → PutsIn query t u → ⊥
  no_puts t u past puts = (let at : Contains [] puts.slot = subst (λ (l : List Slot). Contains l puts.slot) (no_slots t past) puts.at in let below = at.1 in omega (arith, below))

  past_cycle : (t : ℕ) → length query.templates ≤ t → IsNoCycle query t
  past_cycle t past [] chain = no_puts t t past chain
  past_cycle t past (v ∷ via) chain = no_puts t v past chain.0

  -- table t is a member of group g, and leads back to it
  Back : ℕ → ℕ → Type 0
  Back t g = (1 ≤ g) × (Contains (members_of query g) t × (comes_back (leads query 32) g (slots_of query t) ≡ true))

  known_held : (xs : List ℕ) (t : ℕ) → Known (Contains xs t)
  known_held xs t =
      known_as (known_some (λ (x : ℕ). x ≡ t) (λ x. known_equal x t) xs) (λ some. subst (Contains xs) some.2 some.1) (λ held. (t, held, refl))

  known_cycle : HasGroups query → MembersWithin query → (t : ℕ) → Known (IsNoCycle query t)
  unfolding Back
  known_cycle has within t =
      known_as (known_not (known_some_below (Back t) (λ g. known_both (known_most 1 g)
      (known_both (known_held (members_of query g) t)
      (known_true (comes_back (leads query 32) g (slots_of query t))))) 33))
      (λ none via chain. let back = chain_leads query 32 (omega arith) has t via t chain in none (back.0, omega (arith, back.2), (back.1, (back.3, back.4))))
      (λ none some. let chain = leads_chain query within 32 t some.0 t some.2.1.0 some.2.1.1 in none chain.0 chain.1)

  -- points
  known_member : (slot : Slot) (u : ℕ) → Known ((template : TemplateView) → slice_get query.templates u ≡ Some template → length template.points ≡ neighbour_count slot)
  known_member slot u = by_template (slice_get query.templates u) refl
    where
      by_template : (o : Option TemplateView) → slice_get query.templates u ≡ o
          → Known ((template : TemplateView) → slice_get query.templates u ≡ Some template
          → length template.points ≡ neighbour_count slot)
      by_template None is = inl (λ template at. absurd (let same : None ≡ Some template = sym is ∙ at in cc))
      by_template (Some found) is =
          known_as (known_equal (length found.points) (neighbour_count slot))
          (λ fits template at. let same : Some found ≡ Some template = sym is ∙ at in let one : found ≡ template = cc
          in subst (λ (x : TemplateView). length x.points ≡ neighbour_count slot) one fits) (λ fits. fits found is)

  known_points : (slot : Slot) → Known (FitsPoints query slot)
  known_points slot =
      known_as
      (known_all (λ u. (template : TemplateView) → slice_get query.templates u ≡ Some template → length template.points ≡ neighbour_count slot) (known_member slot) (members_at query slot))
      (λ all u template held at. All-contains (λ u. (template : TemplateView)
      → slice_get query.templates u ≡ Some template → length template.points ≡ neighbour_count slot)
      (members_at query slot) u all held template at)
      (λ fits k d below template at. fits (get_or (members_at query slot) k d) template (Contains-get_or (members_at query slot) k d below) at)

  -- of the slots at an atom
  known_fits : (t x : ℕ) → Known (FitsAt query t x)
  known_fits t x = by_template (slice_get query.templates t) refl
    where
      by_template : (o : Option TemplateView) → slice_get query.templates t ≡ o → Known (FitsAt query t x)
      by_template None is = inl (λ template slot at. absurd (let same : None ≡ Some template = sym is ∙ at in cc))
      by_template (Some found) is =
          known_as (known_all (λ (slot : Slot). slot_atom slot ≡ x → FitsPoints query slot) (λ slot. known_if (known_equal (slot_atom slot) x) (known_points slot)) found.slots)
          (λ all template slot at held stands.
          let same : Some found ≡ Some template = sym is ∙ at in
          let one : found ≡ template = cc in
          All-contains (λ (s : Slot). slot_atom s ≡ x → FitsPoints query s) found.slots slot all (subst (λ (v : TemplateView). Contains v.slots slot) (sym one) held) stands)
          (λ fits k d below stands. fits found (get_or found.slots k d) is (Contains-get_or found.slots k d below) stands)

  -- all slots of a table stand below a number
  bound : (slots : List Slot) → (n : ℕ) × All (λ (slot : Slot). slot_atom slot < n) slots
  bound [] = (0, λ k d below. absurd (omega (arith, below)))
  bound (slot ∷ slots) =
      let later = bound slots in
      (slot_atom slot + 1 + later.0, All-cons (λ (s : Slot). slot_atom s < slot_atom slot + 1 + later.0) slot slots (omega arith) (λ k d below. let here = later.1 k d below in omega (arith, here)))

  -- the slots of a table fit, or there is a least atom at which one doesn't
  fits_or_least : (t : ℕ) → FitsTable query t ⊎ ((x : ℕ) × IsLeastFailing (FitsAt query t) x)
  fits_or_least t = by_template (slice_get query.templates t) refl
    where
      by_template : (o : Option TemplateView) → slice_get query.templates t ≡ o → FitsTable query t ⊎ ((x : ℕ) × IsLeastFailing (FitsAt query t) x)
      by_template None is = inl (λ x template slot at. absurd (let same : None ≡ Some template = sym is ∙ at in cc))
      by_template (Some found) is =
          let most = bound found.slots in
          least_failing (FitsAt query t) (known_fits t) most.0
          (λ before x past template slot at held stands.
          let same : Some found ≡ Some template = sym is ∙ at in
          let one : found ≡ template = cc in
          let below = All-contains (λ (s : Slot). slot_atom s < most.0) found.slots slot most.1 (subst (λ (v : TemplateView). Contains v.slots slot) (sym one) held) in
          absurd (omega (arith, below, past, stands)))

  known_table : (t : ℕ) → Known (FitsTable query t)
  known_table t = ⊎_elim (λ fits. inl fits) (λ least. inr (λ fits. least.1.fails (fits least.0))) (fits_or_least t)

  past_table : (t : ℕ) → length query.templates ≤ t → FitsTable query t
  past_table t past x template slot at held stands = absurd (let within = slice_get_within query.templates t template at in omega (arith, within, past))

-- the whole
other_number : (k n : ℕ) (b : Bool) → (n == k) ≡ b → n ≤ 32 → 32 < k → ◌≡◌ {A = ℕ} (cond (n == k) 1 0) 0
other_number k n true is most past = absurd (let same = eqb-true n k is in omega (arith, same, most, past))
other_number k n false is most past = rw is refl

numbers_none : (k : ℕ) (groups : List RawGroup) → All IsGroupInRange groups → 32 < k → groups_of_number k groups ≡ 0
numbers_none k [] all past = refl
numbers_none k (group ∷ groups) all past =
    let here = other_number k group.number (group.number == k) refl (All-head IsGroupInRange group groups all).to_32 past in
    let later = numbers_none k groups (All-tail IsGroupInRange group groups all) past in
    omega (arith, here, later, sum_by-cons (λ (g : RawGroup). cond (g.number == k) 1 0) group groups)

module _ (raw : RawQuery) (is : IsQueryInRange raw) (passed : PassEach raw) (query : QueryView) (of : IsQueryOf raw query) where
  known_whole : (item : ℕ) → Known (IsWhole raw item)
  known_whole item =
      known_as
      (known_both (known_if (known_equal item 0) (known_not (known_some_items raw.root.atoms)))
      (known_both (known_if (known_not (known_equal item 0)) (known_most (groups_of_number item raw.groups) 1)) (known_if (known_equal item 4097) (known_most (member_count raw) 4096))))
      (λ all. record { root = all.0; once = all.1.0; few = all.1.1 }) (λ whole. (whole.root, (whole.once, whole.few)))

  past_whole : (k : ℕ) → 4098 ≤ k → IsWhole raw k
  past_whole k past = record {
    root = λ none. absurd (omega (arith, none, past));
    once = λ some. omega (arith, numbers_none k raw.groups is.groups (omega (arith, past)));
    few = λ many. absurd (omega (arith, many, past));
  }

  has : HasGroups query
  has = has_groups query (drafted raw is passed query.templates of.templates)

  inside : MembersWithin query
  inside = all_within query (members_within raw is passed query.templates of.templates query.groups of.groups)

  known_small : ((t : ℕ) → IsNoCycle query t) → Known (IsSmall query)
  known_small none =
      let rank = rank_of query 32 in
      let ranks = ranked query 32 (omega arith) has inside none in
      known_as (known_most (size_by_rank query rank 0) 512) (λ small. record { size = size_by_rank query rank; adds_up = sizing_of query rank ranks; small = small })
      (λ small.
      let some = count_of raw is passed query.templates of.templates in
      let same = one_size query has inside 32 (omega arith) rank ranks small.size small.adds_up (suc (rank 0)) 0 (omega arith) (omega (arith, some)) in
      omega (arith, same, small.small))

  across : PassAcross raw query ⊎ ((fault : FaultAt) × IsAcross raw query fault)
  across = by_cycle (least_failing (IsNoCycle query) (known_cycle query has inside) (length query.templates) (λ before t past. past_cycle query t past))
    where
      by_whole : ((t : ℕ) → IsNoCycle query t) → ((t : ℕ) → FitsTable query t) → IsSmall query
          → ((k : ℕ) → IsWhole raw k) ⊎ ((k : ℕ) × IsLeastFailing (IsWhole raw) k) → PassAcross raw query ⊎ ((fault : FaultAt) × IsAcross raw query fault)
      by_whole none fits small (inl all) = inl (record { no_cycle = none; fits = fits; small = small; whole = all })
      by_whole none fits small (inr (item, least)) = inr (record { check = 14; table = 0; item = item }, whole refl refl none fits small least)

      by_small : ((t : ℕ) → IsNoCycle query t) → ((t : ℕ) → FitsTable query t) → Known (IsSmall query) → PassAcross raw query ⊎ ((fault : FaultAt) × IsAcross raw query fault)
      by_small none fits (inl small) = by_whole none fits small (least_failing (IsWhole raw) known_whole 4098 (λ before k past. past_whole k past))
      by_small none fits (inr large) = inr (record { check = 13; table = 0; item = 0 }, size refl refl refl none fits large)

      by_least : ((t : ℕ) → IsNoCycle query t) → (t : ℕ) → IsLeastFailing (FitsTable query) t → FitsTable query t
          ⊎ ((x : ℕ) × IsLeastFailing (FitsAt query t) x) → PassAcross raw query
          ⊎ ((fault : FaultAt) × IsAcross raw query fault)
      by_least none t least (inl fits) = absurd (least.fails fits)
      by_least none t least (inr (x, here)) = inr (record { check = 12; table = t; item = x }, points refl none least here)

      by_fits : ((t : ℕ) → IsNoCycle query t) → ((t : ℕ) → FitsTable query t) ⊎ ((t : ℕ) × IsLeastFailing (FitsTable query) t) → PassAcross raw query ⊎ ((fault : FaultAt) × IsAcross raw query fault)
      by_fits none (inl fits) = by_small none fits (known_small none)
      by_fits none (inr (t, least)) = by_least none t least (fits_or_least query t)

      by_cycle : ((t : ℕ) → IsNoCycle query t) ⊎ ((t : ℕ) × IsLeastFailing (IsNoCycle query) t) → PassAcross raw query ⊎ ((fault : FaultAt) × IsAcross raw query fault)
      by_cycle (inl none) = by_fits none (least_failing (FitsTable query) (known_table query) (length query.templates) (λ before t past. past_table query t past))
      by_cycle (inr (t, least)) = inr (record { check = 11; table = t; item = 0 }, recursion refl refl least)

-- ---- of the raw query

pub fault_or_query : FaultOrQuery
fault_or_query raw is = by_tables (in_tables raw)
  where
    by_across : (passed : PassEach raw) (query : QueryView) (of : IsQueryOf raw query) → PassAcross raw query ⊎ ((fault : FaultAt) × IsAcross raw query fault)
        → ((fault : FaultAt) × IsFirstCompileFault raw fault) ⊎ ((query : QueryView) × IsQueryOf raw query × PassChecks raw query)
    by_across passed query of (inl across) = inr (query, of, record { in_tables = passed; across = across })
    by_across passed query of (inr (fault, found)) = inl (fault, across_tables passed query of found)

    by_tables : PassEach raw ⊎ ((fault : FaultAt) × IsFirstInTables raw fault)
        → ((fault : FaultAt) × IsFirstCompileFault raw fault)
        ⊎ ((query : QueryView) × IsQueryOf raw query × PassChecks raw query)
    by_tables (inl passed) = (let found = query_there raw passed in by_across passed found.0 found.1 (across raw is passed found.0 found.1))
    by_tables (inr (fault, found)) = inl (fault, in_a_table found)
