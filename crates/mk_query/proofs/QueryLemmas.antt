-- What is compiled keeps what a query keeps.
--     all_templates      what holds of the template of each table that passes
--     fits_across        what the checks across tables ask for
--     fits_query         the query keeps its twelve facts
use Rattle.std.proofs.Common.{◌≡◌, ℕ, zero, suc, ◌+◌, ◌-◌, ◌<◌, ◌≤◌, List, [], ◌∷◌, Some, None, Option, refl, sym, subst, arith, length, get_or, All}
use Rattle.std.specs.Prelude.{◌==◌, ◌^◌, AllPairs, Contains, slice_get}
use Rattle.std.proofs.lemmas.List.Elements.{Contains-get_or}
use Rattle.mk_model.specs.declared.group.Group.{Group}
use Rattle.mk_model.specs.Queries.{QueryView, members_of}
use Rattle.mk_model.specs.QueryFits.{HasClosedBlocks, HasFreePoints, HasPairsOnce, HasRisingLabels, HasRisingSlots, HasSitesApart, HasSmallRoot, IsInRange, NamesNeighbours, QueryFits}
use Rattle.mk_model.specs.Templates.{TemplateView, slot_atom}
use Rattle.mk_model.proofs.ForCallers.{all_at, at_place}
use Rattle.mk_tables.specs.declared.raw.RawAtom.{RawAtom}
use Rattle.mk_tables.specs.declared.raw.RawTable.{RawTable}
use Rattle.mk_rgfile.specs.declared.raw_query.RawQuery.{RawQuery}
use Rattle.mk_rgfile.specs.QueryFacts.{member_count}
use Rattle.mk_query.specs.Compiled.{AreGroupsOf, AreTemplatesOf, IsTemplateOf, member_tables, members_from, query_tables}
use Rattle.mk_query.specs.CompileFaults.{PassAcross, PassEach}
use Rattle.mk_query.specs.Draft.{IsDraft, IsDrafted}
use Rattle.mk_query.specs.InRange.{IsQueryInRange, IsTableInRange}
use Rattle.mk_query.specs.Passed.{HasPassed}
use Rattle.mk_query.proofs.FitsLemmas.{blocks_closed, has_groups, in_range, is_sized, labels_rising, names_neighbours, pairs_once, points_free, sites_apart, slots_rising}
use Rattle.mk_query.proofs.MemberLemmas.{member_between, members_rise, members_total, one_group}
use Rattle.mk_query.proofs.TableWalkLemmas.{all_members, members_count}

-- a template of nothing
no_template : TemplateView
no_template = record { atoms = []; bonds = []; slots = []; points = [] }

-- at least one, where not none
some_of : (n : ℕ) → (n ≡ 0 → ⊥) → 1 ≤ n
some_of zero some = absurd (some refl)
some_of (suc n) some = omega arith

no_atoms : (atoms : List RawAtom) → length atoms ≡ 0 → atoms ≡ []
no_atoms [] none = refl
no_atoms (atom ∷ atoms) none = absurd (omega (arith, none))

-- every table is in range
each_in_range : (raw : RawQuery) → IsQueryInRange raw → (t : ℕ) (table : RawTable) → slice_get (query_tables raw) t ≡ Some table → IsTableInRange table
each_in_range raw is zero table at = (let same : raw.root ≡ table = cc in subst IsTableInRange same is.root)
each_in_range raw is (suc t) table at =
    all_at IsTableInRange (member_tables raw.groups) t table (all_members IsTableInRange raw.groups (λ k d below. (is.groups k d below).members)) at

module _ (raw : RawQuery) (is : IsQueryInRange raw) (passed : PassEach raw) (templates : List TemplateView) (are : AreTemplatesOf (query_tables raw) templates) where
  -- what holds of the template of each table that passes
  pub all_templates : (P : TemplateView → Type 0) → ((table : RawTable) (template : TemplateView) → IsTableInRange table → HasPassed table → IsTemplateOf table template → P template) → All P templates
  all_templates P each k d below =
      let at = at_place templates k d below in
      let inside : k < length (query_tables raw) = omega (arith, below, are.size) in
      let table = get_or (query_tables raw) k raw.root in
      let table_at = at_place (query_tables raw) k raw.root inside in
      each table (get_or templates k d) (each_in_range raw is k table table_at)
      (record { groups = raw.groups; is_root = (k == 0); passes = passed k table table_at })
      (are.each k table (get_or templates k d) table_at at)

  pub drafted : All IsDrafted templates
  drafted =
      all_templates IsDrafted (λ table template raw passed of. record { labels = has_groups table template of; rising = slots_rising table template of; sized = is_sized table template raw passed of })

  labels_rise_in : All HasRisingLabels templates
  labels_rise_in = all_templates HasRisingLabels (λ table template raw passed of. labels_rising table template of)

  -- how many templates there are
  pub count_of : length templates ≡ 1 + member_count raw
  count_of = omega (arith, are.size, members_count raw.groups)

  module _ (groups : List Group) (are_groups : AreGroupsOf raw groups) where
    abbrev whole : QueryView
    whole = record { templates = templates; groups = groups }

    -- the members of a group
    members_at : (i : ℕ) (group : Group) → slice_get groups i ≡ Some group → group.members ≡ members_from 1 (i + 1) raw.groups
    members_at i group at = (are_groups.each i group at).members

    between : (i : ℕ) (group : Group) → slice_get groups i ≡ Some group → All (λ u. (1 ≤ u) × (u < length templates)) group.members
    between i group at k d below =
        let same = members_at i group at in
        let is = member_between 1 (i + 1) raw.groups (get_or group.members k d) (subst (λ (l : List ℕ). Contains l (get_or group.members k d)) same (Contains-get_or group.members k d below)) in
        (is.0, omega (arith, is.1, count_of))

    pub members_within : All (λ group. All (λ u. u < length templates) group.members) groups
    members_within i d below k e inside = (between i (get_or groups i d) (at_place groups i d below) k e inside).1

    pub is_draft : member_count raw + 1 < 2 ^ 32 → IsDraft whole
    is_draft few = record { root = omega (arith, count_of); few = omega (arith, few, count_of); templates = drafted; all = are_groups.size; members = members_within }

    -- by number
    of_number : (g u : ℕ) → 1 ≤ g → Contains (members_of whole g) u → Contains (members_from 1 g raw.groups) u
    of_number g u some at = by_group (slice_get groups (g - 1)) refl
      where
        by_group : (o : Option Group) → slice_get groups (g - 1) ≡ o → Contains (members_from 1 g raw.groups) u
        by_group None e = absurd (let none : Contains [] u = rw e at at in (let below = none.1 in omega arith))
        by_group (Some group) e =
            let here : Contains group.members u = rw e at at in
            let number : g - 1 + 1 ≡ g = omega (arith, some) in
            rw number at (subst (λ (l : List ℕ). Contains l u) (members_at (g - 1) group e) here)

    -- the root has an atom, and is small
    root_small : PassAcross raw whole → HasSmallRoot whole
    root_small across =
        let below : 0 < length templates = omega (arith, count_of) in
        let root = get_or templates 0 no_template in
        let at : slice_get templates 0 ≡ Some root = at_place templates 0 no_template below in
        let of = are.each 0 raw.root root refl at in
        record {
          root = root;
          at = at;
          some = some_of (length root.atoms) (λ none. (across.whole 0).root refl (no_atoms raw.root.atoms (omega (arith, of.atoms.size, none))));
          size = across.small.size;
          adds_up = across.small.adds_up;
          small = across.small.small;
        }

    pub fits_query : PassAcross raw whole → QueryFits whole
    fits_query across = record {
      in_range = record { templates = all_templates IsInRange in_range; members = λ i d below. between i (get_or groups i d) (at_place groups i d below) };
      pairs_once = all_templates HasPairsOnce (λ table template raw passed of. pairs_once table template passed of);
      slots_rise = all_templates HasRisingSlots (λ table template raw passed of. slots_rising table template of);
      neighbours = all_templates NamesNeighbours (λ table template raw passed of. names_neighbours table template passed of);
      points_free = all_templates HasFreePoints (λ table template raw passed of. points_free table template passed of);
      sites_apart = all_templates HasSitesApart (λ table template raw passed of. sites_apart table template passed of);
      blocks_closed = all_templates HasClosedBlocks (λ table template raw passed of. blocks_closed table template passed of);
      no_cycle = across.no_cycle;
      points_fit = λ t d below j e inside. across.fits t (slot_atom (get_or (get_or templates t d).slots j e)) (get_or templates t d) (get_or (get_or templates t d).slots j e)
          (at_place templates t d below) (Contains-get_or (get_or templates t d).slots j e inside) refl;
      small_root = root_small across;
      few_members = record { all_groups = are_groups.size; few = omega (arith, members_total raw.groups groups is.groups are_groups.size members_at, (across.whole 4097).few refl) };
      members_once = record {
        rise = λ i d below. subst (λ (l : List ℕ). AllPairs (λ u later. u < later) l) (sym (members_at i (get_or groups i d) (at_place groups i d below))) (members_rise 1 (i + 1) raw.groups);
        one_group = λ g h u some also in_g in_h. one_group 1 raw.groups g h u (of_number g u some in_g) (of_number h u also in_h);
      };
      labels_rise = labels_rise_in;
    }
