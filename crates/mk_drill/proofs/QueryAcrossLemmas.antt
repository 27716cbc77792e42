-- The drill's query passes the checks across its tables, so it has no first fault.
--     IsWritten query              what is known of any query of these tables
--     none_first                   no check fails first
use Rattle.std.proofs.Common.{[], ◌∷◌, ◌≡◌, ℕ, zero, suc, ◌+◌, ◌<◌, ◌≤◌, ◌==◌, ◌||◌, Bool, true, false, cond, not, List, Some, length, Option, None, arith, refl, sym, ap, ◌∙◌, subst, lit<, lit≤}
use Rattle.std.specs.Prelude.{Contains, filter, pos, slice_get, sum_by, count_by}
use Rattle.std.specs.List.{list_any, range_with_len}
use Rattle.mk_model.specs.declared.group.Group.{Group}
use Rattle.mk_model.specs.declared.template.Slot.{Slot}
use Rattle.mk_model.specs.declared.template.Slot.TheVariants.{Site}
use Rattle.mk_model.specs.Labels.{IsChain, PutsIn, is_member_of_one, joint_members, members_at}
use Rattle.mk_model.specs.Queries.{QueryView, members_of, slots_of}
use Rattle.mk_model.specs.QueryFits.{FitsPoints}
use Rattle.mk_model.specs.Sizes.{greatest, size_by, size_of_slot, takes_atom}
use Rattle.mk_model.specs.Templates.{TemplateView}
use Rattle.mk_query.specs.declared.compile_fault.FaultAt.{FaultAt}
use Rattle.mk_query.specs.Compiled.{IsQueryOf, labelled_groups}
use Rattle.mk_query.specs.CompileFaults.{FitsTable, IsAcross, IsFirstCompileFault, IsNoCycle, IsSmall, IsWhole, across_tables, in_a_table, points, recursion, size, whole}
use Rattle.mk_drill.proofs.QueryTables.{methoxy, query_raw, root_table, single}
use Rattle.mk_drill.proofs.QueryCheckLemmas.{tables_pass}

-- the site of the root
abbrev root_slot : Slot
root_slot = Site 7 (1 ∷ []) 1 0

-- its one label is the number of group 1
one_label : labelled_groups (pos 1 ∷ []) ≡ 1 ∷ []
unfolding labelled_groups
one_label = refl

-- what is known of a member: it has no slots and one point, and so many atoms
record IsMember (atoms : ℕ) (template : TemplateView) : Type 0 where
  count : length template.atoms ≡ atoms
  no_slots : template.slots ≡ []
  one_point : length template.points ≡ 1

-- the four templates, and the members of group 1
record IsWritten (query : QueryView) : Type 0 where
  root : TemplateView
  chlorine : TemplateView
  bromine : TemplateView
  methoxy : TemplateView
  templates : query.templates ≡ root ∷ chlorine ∷ bromine ∷ methoxy ∷ []
  root_count : length root.atoms ≡ 7
  root_slots : root.slots ≡ root_slot ∷ []
  is_chlorine : IsMember 1 chlorine
  is_bromine : IsMember 1 bromine
  is_methoxy : IsMember 2 methoxy
  members : members_of query 1 ≡ 1 ∷ 2 ∷ 3 ∷ []

-- ---- any query of the tables

four : (query : QueryView) (ts : List TemplateView) → query.templates ≡ ts → IsQueryOf query_raw query → members_of query 1 ≡ 1 ∷ 2 ∷ 3 ∷ [] → IsWritten query
four query [] same is members = absurd (let n = is.templates.size in omega (arith, n, ap length same))
four query (a ∷ []) same is members = absurd (let n = is.templates.size in omega (arith, n, ap length same))
four query (a ∷ b ∷ []) same is members = absurd (let n = is.templates.size in omega (arith, n, ap length same))
four query (a ∷ b ∷ c ∷ []) same is members = absurd (let n = is.templates.size in omega (arith, n, ap length same))
four query (a ∷ b ∷ c ∷ d ∷ []) same is members =
    let root_is = is.templates.each 0 root_table a refl (ap (λ (ts : List TemplateView). slice_get ts 0) same) in
    let chlorine_is = is.templates.each 1 (single (67 ∷ 108 ∷ [])) b refl (ap (λ (ts : List TemplateView). slice_get ts 1) same) in
    let bromine_is = is.templates.each 2 (single (66 ∷ 114 ∷ [])) c refl (ap (λ (ts : List TemplateView). slice_get ts 2) same) in
    let methoxy_is = is.templates.each 3 methoxy d refl (ap (λ (ts : List TemplateView). slice_get ts 3) same) in
    record {
      root = a;
      chlorine = b;
      bromine = c;
      methoxy = d;
      templates = same;
      root_count = root_is.atoms.size;
      root_slots = root_is.slots ∙ ap (λ (groups : List ℕ). Site 7 groups 1 0 ∷ []) one_label;
      is_chlorine = record { count = chlorine_is.atoms.size; no_slots = chlorine_is.slots; one_point = ap length chlorine_is.points };
      is_bromine = record { count = bromine_is.atoms.size; no_slots = bromine_is.slots; one_point = ap length bromine_is.points };
      is_methoxy = record { count = methoxy_is.atoms.size; no_slots = methoxy_is.slots; one_point = ap length methoxy_is.points };
      members = members;
    }
four query (a ∷ b ∷ c ∷ d ∷ e ∷ ts) same is members = absurd (let n = is.templates.size in omega (arith, n, ap length same))

members_are : (query : QueryView) (groups : List Group) → query.groups ≡ groups → IsQueryOf query_raw query → members_of query 1 ≡ 1 ∷ 2 ∷ 3 ∷ []
members_are query [] same is = absurd (let n = is.groups.size in omega (arith, n, ap length same))
members_are query (group ∷ groups) same is =
    let at : slice_get query.groups 0 ≡ Some group = ap (λ (gs : List Group). slice_get gs 0) same in
    rw at (is.groups.each 0 group at).members

written : (query : QueryView) → IsQueryOf query_raw query → IsWritten query
written query is = four query query.templates refl is (members_are query query.groups refl is)

-- ---- its slots

at_root : (query : QueryView) (is : IsWritten query) → slots_of query 0 ≡ root_slot ∷ []
at_root query is =
    let at : slice_get query.templates 0 ≡ Some is.root = ap (λ (ts : List TemplateView). slice_get ts 0) is.templates in
    rw at is.root_slots

-- a template behind the root has none
at_member : (query : QueryView) (is : IsWritten query) (t : ℕ) (template : TemplateView) → slice_get query.templates (suc t) ≡ Some template → template.slots ≡ []
at_member query is t template at = by_place t (sym (ap (λ (ts : List TemplateView). slice_get ts (suc t)) is.templates) ∙ at)
  where
    by_place : (t : ℕ) → slice_get (is.root ∷ is.chlorine ∷ is.bromine ∷ is.methoxy ∷ []) (suc t) ≡ Some template → template.slots ≡ []
    by_place zero there = (let same : is.chlorine ≡ template = cc in subst (λ (u : TemplateView). u.slots ≡ []) same is.is_chlorine.no_slots)
    by_place (suc zero) there = (let same : is.bromine ≡ template = cc in subst (λ (u : TemplateView). u.slots ≡ []) same is.is_bromine.no_slots)
    by_place (suc (suc zero)) there = (let same : is.methoxy ≡ template = cc in subst (λ (u : TemplateView). u.slots ≡ []) same is.is_methoxy.no_slots)
    by_place (suc (suc (suc t))) there = absurd cc

-- ---- recursion

listed_from_one : (u : ℕ) → Contains (1 ∷ 2 ∷ 3 ∷ []) u → 1 ≤ u
listed_from_one u (zero, below, is) = omega (arith, is)
listed_from_one u (suc zero, below, is) = omega (arith, is)
listed_from_one u (suc (suc zero), below, is) = omega (arith, is)
listed_from_one u (suc (suc (suc k)), below, is) = absurd (omega (arith, below))

one_slot : (slot : Slot) → Contains (root_slot ∷ []) slot → root_slot ≡ slot
one_slot slot (zero, below, is) = is
one_slot slot (suc k, below, is) = absurd (omega (arith, below))

-- the slots of template t
slots_at : (query : QueryView) (is : IsWritten query) (t : ℕ) (slot : Slot) → Contains (slots_of query t) slot → (t ≡ 0) × (root_slot ≡ slot)
slots_at query is zero slot held = (refl, one_slot slot (subst (λ (slots : List Slot). Contains slots slot) (at_root query is) held))
slots_at query is (suc t) slot held = by_option (slice_get query.templates (suc t)) refl held
  where
    by_option : (found : Option TemplateView) → slice_get query.templates (suc t) ≡ found → Contains (slots_of query (suc t)) slot → (suc t ≡ 0) × (root_slot ≡ slot)
    by_option None none held = absurd (let below = (rw none at held).1 in omega (arith, below))
    by_option (Some template) at held = absurd (let below = (subst (λ (slots : List Slot). Contains slots slot) (at_member query is t template at) (rw at at held)).1 in omega (arith, below))

-- the members of the site are those of its one label
joint : (query : QueryView) → IsWritten query → joint_members query (1 ∷ []) ≡ 1 ∷ 2 ∷ 3 ∷ []
unfolding joint_members
joint query is =
    ap (λ (n : ℕ). filter (is_member_of_one query (1 ∷ [])) (range_with_len 0 n)) (ap length is.templates)
    ∙ ap (λ (members : List ℕ). filter (λ u. list_any (λ v. v == u) members || false) (range_with_len 0 4)) is.members

-- only the root puts templates in, and those are others
puts : (query : QueryView) (is : IsWritten query) (t u : ℕ) → PutsIn query t u → (t ≡ 0) × (1 ≤ u)
puts query is t u put =
    let at = slots_at query is t put.slot put.at in
    let filled : Contains (members_at query root_slot) u = subst (λ (slot : Slot). Contains (members_at query slot) u) (sym at.1) put.fills in
    (at.0, listed_from_one u (subst (λ (members : List ℕ). Contains members u) (joint query is) filled))

chain : (query : QueryView) (is : IsWritten query) (t : ℕ) (via : List ℕ) (u : ℕ) → IsChain query t via u → (t ≡ 0) × (1 ≤ u)
chain query is t [] u puts_in = puts query is t u puts_in
chain query is t (v ∷ via) u both =
    let first = puts query is t v both.0 in
    let later = chain query is v via u both.1 in
    absurd (omega (arith, first.1, later.0))

no_cycle : (query : QueryView) → IsWritten query → (t : ℕ) → IsNoCycle query t
no_cycle query is t via around = let ends = chain query is t via t around in omega (arith, ends.0, ends.1)

-- ---- attachment points

-- a member has one point
points_at : (query : QueryView) (is : IsWritten query) (k u : ℕ) (template : TemplateView) → k < 3 → u ≡ suc k → slice_get query.templates u ≡ Some template → length template.points ≡ 1
points_at query is k u template below place at =
    by_place k below (sym (ap (λ (ts : List TemplateView). slice_get ts (suc k)) is.templates) ∙ ap (λ n. slice_get query.templates n) (sym place) ∙ at)
  where
    by_place : (k : ℕ) → k < 3 → slice_get (is.root ∷ is.chlorine ∷ is.bromine ∷ is.methoxy ∷ []) (suc k) ≡ Some template → length template.points ≡ 1
    by_place zero below there = (let same : is.chlorine ≡ template = cc in subst (λ (t : TemplateView). length t.points ≡ 1) same is.is_chlorine.one_point)
    by_place (suc zero) below there = (let same : is.bromine ≡ template = cc in subst (λ (t : TemplateView). length t.points ≡ 1) same is.is_bromine.one_point)
    by_place (suc (suc zero)) below there = (let same : is.methoxy ≡ template = cc in subst (λ (t : TemplateView). length t.points ≡ 1) same is.is_methoxy.one_point)
    by_place (suc (suc (suc k))) below there = absurd (omega (arith, below))

one_point : (query : QueryView) (is : IsWritten query) (u : ℕ) (template : TemplateView) → Contains (1 ∷ 2 ∷ 3 ∷ []) u → slice_get query.templates u ≡ Some template → length template.points ≡ 1
one_point query is u template (zero, below, same) at = points_at query is 0 u template (lit< tt) (sym same) at
one_point query is u template (suc zero, below, same) at = points_at query is 1 u template (lit< tt) (sym same) at
one_point query is u template (suc (suc zero), below, same) at = points_at query is 2 u template (lit< tt) (sym same) at
one_point query is u template (suc (suc (suc k)), below, same) at = absurd (omega (arith, below))

root_fits : (query : QueryView) → IsWritten query → FitsPoints query root_slot
root_fits query is u template member at = one_point query is u template (subst (λ (members : List ℕ). Contains members u) (joint query is) member) at

-- the slots of a template that is there are those of its number
held_slot : (query : QueryView) (t : ℕ) (template : TemplateView) (slot : Slot) → slice_get query.templates t ≡ Some template → Contains template.slots slot → Contains (slots_of query t) slot
held_slot query t template slot at held = rw at held

fits : (query : QueryView) → IsWritten query → (t : ℕ) → FitsTable query t
fits query is t x template slot at held stands =
    subst (FitsPoints query) (slots_at query is t slot (held_slot query t template slot at held)).1 (root_fits query is)

-- ---- sizes

-- 6 atoms, 1 for the site, and 2 for its greatest member; a member has its atoms
abbrev sizes : ℕ → ℕ
sizes zero = 9
sizes (suc zero) = 1
sizes (suc (suc zero)) = 1
sizes (suc (suc (suc t))) = 2

-- what slots and a number of atoms add up to
abbrev added : QueryView → TemplateView → List Slot → ℕ → ℕ
added query template slots n = count_by (λ x. not (list_any (takes_atom template x) slots)) (range_with_len 1 n) + sum_by (size_of_slot query sizes template) slots

member_adds : (query : QueryView) (template : TemplateView) (n : ℕ) → IsMember n template → size_by query sizes template ≡ added query template [] n
member_adds query template n is = ap (λ (slots : List Slot). added query template slots (length template.atoms)) is.no_slots ∙ ap (added query template []) is.count

root_adds : (query : QueryView) (is : IsWritten query) → size_by query sizes is.root ≡ 9
root_adds query is =
    let most : greatest sizes (members_at query root_slot) ≡ 2 = ap (greatest sizes) (joint query is) in
    let nine : added query is.root (root_slot ∷ []) 7 ≡ 9 = omega (arith, most) in
    ap (λ (slots : List Slot). added query is.root slots (length is.root.atoms)) is.root_slots ∙ ap (added query is.root (root_slot ∷ [])) is.root_count ∙ nine

sized : (query : QueryView) (is : IsWritten query) (t : ℕ) (template : TemplateView)
    → slice_get (is.root ∷ is.chlorine ∷ is.bromine ∷ is.methoxy ∷ []) t ≡ Some template
    → sizes t ≡ size_by query sizes template
sized query is zero template at = (let same : is.root ≡ template = cc in subst (λ (u : TemplateView). 9 ≡ size_by query sizes u) same (sym (root_adds query is)))
sized query is (suc zero) template at = (let same : is.chlorine ≡ template = cc in subst (λ (u : TemplateView). 1 ≡ size_by query sizes u) same (sym (member_adds query is.chlorine 1 is.is_chlorine)))
sized query is (suc (suc zero)) template at = (let same : is.bromine ≡ template = cc
    in subst (λ (u : TemplateView). 1 ≡ size_by query sizes u) same
    (sym (member_adds query is.bromine 1 is.is_bromine)))
sized query is (suc (suc (suc zero))) template at = (let same : is.methoxy ≡ template = cc
    in subst (λ (u : TemplateView). 2 ≡ size_by query sizes u) same
    (sym (member_adds query is.methoxy 2 is.is_methoxy)))
sized query is (suc (suc (suc (suc t)))) template at = absurd cc

small : (query : QueryView) → IsWritten query → IsSmall query
small query is = record {
  size = sizes;
  adds_up = λ t template at. sized query is t template (sym (ap (λ (ts : List TemplateView). slice_get ts t) is.templates) ∙ at);
  small = lit≤ tt;
}

-- ---- the whole

one_group : (b : Bool) → (0 + cond b 1 0) ≤ 1
one_group true = lit≤ tt
one_group false = lit≤ tt

as_a_whole : (item : ℕ) → IsWhole query_raw item
as_a_whole item = record { root = λ first none. cc; once = λ other. one_group (1 == item); few = λ last. lit≤ tt }

-- ---- no fault

none_across : (query : QueryView) (fault : FaultAt) → IsWritten query → IsAcross query_raw query fault → ⊥
none_across query fault is (recursion check item least) = least.fails (no_cycle query is fault.table)
none_across query fault is (points check none table item) = table.fails (fits query is fault.table)
none_across query fault is (size check table item none fit large) = large (small query is)
none_across query fault is (whole check table none fit few least) = least.fails (as_a_whole fault.item)

-- no check fails first
pub none_first : (fault : FaultAt) → IsFirstCompileFault query_raw fault → ⊥
none_first fault (in_a_table first) = first.here.least.fails (tables_pass fault.table first.table first.at first.here.check fault.item)
none_first fault (across_tables pass query is across) = none_across query fault (written query is) across
