-- The members of a site: those of one label, and those of several together.
--     of_one_label        a site of one label has the members of its group, as they stand there
--     member_of_label, is_joint      a member of a site is one of a group of its labels, and the other way round
--     few_members_at      a site has at most 4,096 members
--     held_is, none_held, held_label      of which group a site holds a member with a number
--     greatest_joint      the greatest size of a member, by labels
--     below_more, below_all, below_next, step_is     counts of members below a template, for the code
use Rattle.std.proofs.Common.{◌≡◌, ℕ, zero, suc, ◌+◌, ◌-◌, ◌<◌, ◌≤◌, inl, inr, Bool, true, false, ◌||◌, List, [], ◌∷◌, length, get_or, take, Option, Some, None, refl, sym, ap, subst, ◌∙◌, arith, All}
use Rattle.std.specs.Prelude.{◌==◌, nat_lt, AllPairs, Contains, count_by, filter, slice_get, slice_index}
use Rattle.std.specs.List.{list_any, range_with_len}
use Rattle.std.proofs.lemmas.Bool.{cases_eq, and_parts}
use Rattle.std.proofs.lemmas.Bool.Decides.{nat_tests}
use Rattle.std.proofs.lemmas.List.{get_or-take, length-take, take_more}
use Rattle.std.proofs.lemmas.List.Elements.{All-filter, filter_agree, filter_passes}
use Rattle.std.proofs.lemmas.List.Folds.{list_any-append}
use Rattle.std.proofs.lemmas.List.FromFn.{get_or-range_with_len, length-range_with_len}
use Rattle.std.proofs.lemmas.List.Sums.{count_by-le-length, length-filter}
use Rattle.mk_model.specs.declared.group.Group.{Group}
use Rattle.mk_model.specs.declared.template.Slot.{Slot}
use Rattle.mk_model.specs.declared.template.Slot.TheVariants.{Link, Site}
use Rattle.mk_model.specs.Queries.{QueryView, members_of}
use Rattle.mk_model.specs.Labels.{bears_label, holds_member_of, is_filled_by, is_member_of, is_member_of_one, joint_members, site_labels, member, members_at, template_numbers}
use Rattle.mk_model.specs.JointMembers.{members_below}
use Rattle.mk_model.specs.Sizes.{greatest}
use Rattle.mk_model.specs.QueryFits.{AreRisingLabels, QueryFits}
use Rattle.mk_model.proofs.FewLemmas.{pairs_none}
use Rattle.mk_model.proofs.LogicLemmas.{passes_some, some_passes}
use Rattle.mk_model.proofs.NumbersLemmas.{IsPlaceOf, RisesWithin, contains_has, count_all, count_le, count_next, count_none, count_or, count_rising, count_same, count_some, filter_rising, has, has_contains, nth_of_range, one_if, or_false, place_found, rises_within}
use Rattle.mk_model.proofs.SizesLemmas.{greatest_contains}
use Rattle.mk_model.proofs.PlaceLemmas.{all_at, at_place, place_is, place_past, place_within}

-- ---- members of groups

-- the members of a group that is found
pub members_there : (query : QueryView) (g : ℕ) (groups : List Group) (k : ℕ) (group : Group) → groups ≡ query.groups → k ≡ g - 1
    → k < length groups → group ≡ get_or groups k group → group.members ≡ members_of query g
members_there query g groups k group are is below here =
    let found : slice_get query.groups (g - 1) ≡ Some group = rw (sym are, sym is) (at_place groups k group below ∙ ap (λ (x : Group). Some x) (sym here)) in
    rw found refl

-- and where none is, there are none
pub members_past : (query : QueryView) (g : ℕ) (groups : List Group) (k : ℕ) → groups ≡ query.groups → k ≡ g - 1
    → length groups ≤ k → [] ≡ members_of query g
members_past query g groups k are is past =
    let none : slice_get query.groups (g - 1) ≡ None = rw (sym are, sym is) (place_past groups k past) in
    rw none refl

-- ---- members of labels

-- a label, and a member of its group
pub record IsOfLabel (query : QueryView) (labels : List ℕ) (u : ℕ) : Type 0 where
  pub place : ℕ
  pub label : ℕ
  pub at : slice_get labels place ≡ Some label
  pub has : Contains (members_of query label) u

pub of_label : (query : QueryView) (labels : List ℕ) (u : ℕ) → is_member_of_one query labels u ≡ true → IsOfLabel query labels u
of_label query labels u one =
    let found = some_passes (λ g. is_member_of query g u) labels one in
    record { place = found.place; label = found.item; at = found.at; has = has_contains (members_of query found.item) u found.passes }

pub of_one : (query : QueryView) (labels : List ℕ) (u k g : ℕ) → slice_get labels k ≡ Some g → Contains (members_of query g) u → is_member_of_one query labels u ≡ true
of_one query labels u k g at there = passes_some (λ h. is_member_of query h u) labels k g at (contains_has (members_of query g) u there)

-- each joint member is a template, and a member of one of the groups
pub joint_within : (query : QueryView) (labels : List ℕ) → All (λ u. u < length query.templates) (joint_members query labels)
unfolding joint_members
joint_within query labels =
    All-filter (is_member_of_one query labels) (λ u. u < length query.templates) (template_numbers query)
    (λ k d below. let less : k < length query.templates = omega (arith, below, length-range_with_len 0 (length query.templates)) in
    (let is = get_or-range_with_len 0 (length query.templates) k d less in omega (arith, is, less)))

pub joint_passes : (query : QueryView) (labels : List ℕ) → All (λ u. is_member_of_one query labels u ≡ true) (joint_members query labels)
unfolding joint_members
joint_passes query labels = filter_passes (is_member_of_one query labels) (template_numbers query)

pub member_of_label : (query : QueryView) (labels : List ℕ) (u : ℕ) → Contains (joint_members query labels) u → IsOfLabel query labels u
member_of_label query labels u (k, below, is) =
    of_label query labels u (subst (λ (v : ℕ). is_member_of_one query labels v ≡ true) is (joint_passes query labels k u below))

-- what passes a test is among those that do
filter_contains : (p : ℕ → Bool) (xs : List ℕ) (x : ℕ) → Contains xs x → p x ≡ true → Contains (filter p xs) x
filter_contains p [] x (k, below, is) passes = absurd (omega (arith, below))
filter_contains p (y ∷ xs) x (zero, below, is) passes =
    let same : y ≡ x = is in
    let here : p y ≡ true = ap p same ∙ passes in
    rw here (0, omega arith, same)
filter_contains p (y ∷ xs) x (suc k, below, is) passes = by_test (p y) refl (filter_contains p xs x (k, omega (arith, below), is) passes)
  where
    by_test : (b : Bool) → p y ≡ b → Contains (filter p xs) x → Contains (filter p (y ∷ xs)) x
    by_test true e later = rw e (suc later.0, (let less = later.1 in omega (arith, less)), later.2)
    by_test false e later = rw e later

-- a template that is a member of a label is a joint member
pub is_joint : (query : QueryView) (labels : List ℕ) (u k g : ℕ) → u < length query.templates → slice_get labels k ≡ Some g → Contains (members_of query g) u → Contains (joint_members query labels) u
unfolding joint_members
is_joint query labels u k g less at there =
    filter_contains (is_member_of_one query labels) (template_numbers query) u
    (u, omega (arith, less, length-range_with_len 0 (length query.templates)), (let is = get_or-range_with_len 0 (length query.templates) u u less in omega (arith, is)))
    (of_one query labels u k g at there)

-- ---- counts of members below a template

pub below_of_none : (query : QueryView) (u : ℕ) → members_below query [] u ≡ 0
unfolding members_below
below_of_none query u = count_none (range_with_len 0 u)

pub below_next : (query : QueryView) (labels : List ℕ) (u : ℕ) → members_below query labels (u + 1) ≡ members_below query labels u + one_if (is_member_of_one query labels u)
unfolding members_below
below_next query labels u = count_next (is_member_of_one query labels) u

pub below_most : (query : QueryView) (labels : List ℕ) (u : ℕ) → members_below query labels u ≤ u
unfolding members_below
below_most query labels u = omega (arith, count_by-le-length (is_member_of_one query labels) (range_with_len 0 u), length-range_with_len 0 u)

pub below_all : (query : QueryView) (labels : List ℕ) → length (joint_members query labels) ≡ members_below query labels (length query.templates)
unfolding members_below joint_members
below_all query labels = length-filter (is_member_of_one query labels) (template_numbers query)

pub nth_below : (query : QueryView) (labels : List ℕ) (u j : ℕ) → u < length query.templates → is_member_of_one query labels u ≡ true → members_below query labels u ≡ j
    → slice_index (joint_members query labels) j ≡ u
unfolding members_below joint_members
nth_below query labels u j less one count = rw (sym count) (nth_of_range (is_member_of_one query labels) (length query.templates) u less one)

-- a template with which the count steps over a number is the member behind so many
pub step_is : (query : QueryView) (labels : List ℕ) (u j : ℕ) → u < length query.templates → members_below query labels u ≤ j → j < members_below query labels (u + 1)
    → slice_index (joint_members query labels) j ≡ u
step_is query labels u j less least most = by_test (is_member_of_one query labels u) refl
  where
    by_test : (b : Bool) → is_member_of_one query labels u ≡ b → slice_index (joint_members query labels) j ≡ u
    by_test true e =
        let here : one_if (is_member_of_one query labels u) ≡ 1 = rw e refl in
        nth_below query labels u j less e (omega (arith, below_next query labels u, here, least, most))
    by_test false e =
        let here : one_if (is_member_of_one query labels u) ≡ 0 = rw e refl in
        absurd (omega (arith, below_next query labels u, here, least, most))

-- ---- of a query

module _ (query : QueryView) (fits : QueryFits query) where
  -- the members of a group rise
  pub members_rise : (g : ℕ) → AllPairs (λ u later. u < later) (members_of query g)
  members_rise g = by_group (slice_get query.groups (g - 1)) refl
    where
      by_group : (o : Option Group) → slice_get query.groups (g - 1) ≡ o → AllPairs (λ u later. u < later) (members_of query g)
      by_group None e = rw e (pairs_none (λ u later. u < later))
      by_group (Some group) e = rw e (all_at (λ (one : Group). AllPairs (λ u later. u < later) one.members) query.groups (g - 1) group fits.members_once.rise e)

  -- and are templates other than the root
  pub members_in_range : (g : ℕ) → All (λ u. (1 ≤ u) × (u < length query.templates)) (members_of query g)
  members_in_range g = by_group (slice_get query.groups (g - 1)) refl
    where
      by_group : (o : Option Group) → slice_get query.groups (g - 1) ≡ o → All (λ u. (1 ≤ u) × (u < length query.templates)) (members_of query g)
      by_group None e = rw e (λ k d below. absurd (omega (arith, below)))
      by_group (Some group) e = rw e (all_at (λ (one : Group). All (λ u. (1 ≤ u) × (u < length query.templates)) one.members) query.groups (g - 1) group fits.in_range.members e)

  pub members_rise_within : (g : ℕ) → RisesWithin 0 (length query.templates) (members_of query g)
  members_rise_within g = rises_within (members_of query g) 0 (length query.templates) (members_rise g) (λ k d below. (omega arith, (members_in_range g k d below).1))

  -- a site of one label has the members of its group
  pub of_one_label : (g : ℕ) → joint_members query (g ∷ []) ≡ members_of query g
  unfolding joint_members
  of_one_label g =
      filter_agree (is_member_of_one query (g ∷ [])) (has (members_of query g)) (λ u. or_false (has (members_of query g) u)) (template_numbers query)
      ∙ filter_rising (members_of query g) 0 (length query.templates) (length query.templates) (omega arith) (members_rise_within g)

  -- no template is a member of a label and of one before it
  never_both : (labels : List ℕ) → AreRisingLabels labels → (i : ℕ) → i < length labels → (u : ℕ)
      → is_member_of_one query (take i labels) u ≡ true → is_member_of query (get_or labels i 0) u ≡ true → ⊥
  never_both labels rising i less u earlier here =
      let one = of_label query (take i labels) u earlier in
      let before : one.place < length (take i labels) = place_within (take i labels) one.place one.label one.at in
      let below : one.place < i = omega (arith, before, length-take i labels) in
      let label : get_or labels one.place 0 ≡ one.label = sym (get_or-take i labels one.place 0 below) ∙ place_is (take i labels) one.place one.label 0 one.at in
      let in_range : 1 ≤ one.label = (let least = (rising.in_range one.place 0 (omega (arith, below, less))).0 in omega (arith, least, label)) in
      let same : one.label ≡ get_or labels i 0 =
      fits.members_once.one_group one.label (get_or labels i 0) u in_range (rising.in_range i 0 less).0 one.has (has_contains (members_of query (get_or labels i 0)) u here) in
      let apart = rising.rise one.place i 0 below less in
      omega (arith, same, apart, label)

  -- one label more
  pub below_more : (labels : List ℕ) → AreRisingLabels labels → (i u : ℕ) → i < length labels
      → members_below query (take (i + 1) labels) u ≡ members_below query (take i labels) u + count_by (λ v. nat_lt v u) (members_of query (get_or labels i 0))
  unfolding members_below
  below_more labels rising i u less =
      let g : ℕ = get_or labels i 0 in
      let both : (v : ℕ) → is_member_of_one query (take (i + 1) labels) v ≡ (is_member_of_one query (take i labels) v || is_member_of query (get_or labels i 0) v) =
      λ v. ap (λ (ls : List ℕ). is_member_of_one query ls v) (take_more labels i 0 less)
      ∙ list_any-append (λ h. is_member_of query h v) (take i labels) (get_or labels i 0 ∷ [])
      ∙ ap (λ (b : Bool). is_member_of_one query (take i labels) v || b) (or_false (is_member_of query (get_or labels i 0) v)) in
      count_same (is_member_of_one query (take (i + 1) labels)) (λ v. is_member_of_one query (take i labels) v || is_member_of query (get_or labels i 0) v) (range_with_len 0 u) both
      ∙ count_or (is_member_of_one query (take i labels)) (is_member_of query (get_or labels i 0)) (range_with_len 0 u) (never_both labels rising i less)
      ∙ ap (λ (n : ℕ). count_by (is_member_of_one query (take i labels)) (range_with_len 0 u) + n)
      (count_rising (members_of query (get_or labels i 0)) 0 (length query.templates) u (members_rise_within (get_or labels i 0)))

  -- all members of a group are templates
  pub all_below : (g : ℕ) → count_by (λ v. nat_lt v (length query.templates)) (members_of query g) ≡ length (members_of query g)
  all_below g = count_all (members_of query g) 0 (length query.templates) (members_rise_within g)

  -- a member of a label is a member of one of all groups
  of_group : (labels : List ℕ) (v : ℕ) → is_member_of_one query labels v ≡ true → list_any (λ (group : Group). has group.members v) query.groups ≡ true
  of_group labels v one =
      let found = some_passes (λ g. is_member_of query g v) labels one in
      by_group found.item (slice_get query.groups (found.item - 1)) refl found.passes
    where
      by_group : (g : ℕ) (o : Option Group) → slice_get query.groups (g - 1) ≡ o → is_member_of query g v ≡ true → list_any (λ (group : Group). has group.members v) query.groups ≡ true
      by_group g None e there = (let none : has [] v ≡ true = rw e at there in absurd cc)
      by_group g (Some group) e there = (let here : has group.members v ≡ true = rw e at there in passes_some (λ (one : Group). has one.members v) query.groups (g - 1) group e here)

  -- so there are few
  pub few_below : (labels : List ℕ) (u : ℕ) → members_below query labels u ≤ 4096
  unfolding members_below
  few_below labels u =
      omega (
        arith,
        count_le (is_member_of_one query labels) (λ v. list_any (λ (group : Group). has group.members v) query.groups) (range_with_len 0 u) (of_group labels),
        count_some (λ (group : Group). group.members) query.groups u,
        fits.few_members.few,
      )

  pub few_members_at : (slot : Slot) → length (members_at query slot) ≤ 4096
  few_members_at (Link atom most from to) = omega arith
  few_members_at (Site atom groups first second) = omega (arith, below_all query groups, few_below groups (length query.templates))

  -- ---- what a site holds

  -- a site holds a member of one group
  pub held_is : (slot : Slot) (k r : ℕ) → 1 ≤ r → is_filled_by query slot k ≡ true → is_member_of query r (member query slot k) ≡ true
      → (g : ℕ) → 1 ≤ g → holds_member_of query slot k g ≡ (g == r)
  held_is slot k r least fills here g least' =
      elim (cases_eq g r) [
        | inl same ↦ (let test : (g == r) ≡ true = grind (arith, nat_tests) in
            let there : is_member_of query g (member query slot k) ≡ true = subst (λ (h : ℕ). is_member_of query h (member query slot k) ≡ true) (sym same) here in
            rw (fills, test) there)
        | inr other ↦ (let test : (g == r) ≡ false = grind (arith, nat_tests) in rw (fills, test) (not_there other (is_member_of query g (member query slot k)) refl))
      ]
    where
      not_there : (g ≡ r → ⊥) → (b : Bool) → is_member_of query g (member query slot k) ≡ b → is_member_of query g (member query slot k) ≡ false
      not_there other false e = e
      not_there other true e =
          absurd (other (fits.members_once.one_group g r (member query slot k) least' least
          (has_contains (members_of query g) (member query slot k) e) (has_contains (members_of query r) (member query slot k) here)))

-- a number that leaves a site unfilled holds no member
pub none_held : (query : QueryView) (slot : Slot) (k : ℕ) → is_filled_by query slot k ≡ false → (g : ℕ) → 1 ≤ g → holds_member_of query slot k g ≡ (g == 0)
none_held query slot k fails g least = (let test : (g == 0) ≡ false = grind (arith, nat_tests) in rw (fails, test) refl)

-- ---- for the code

-- what passes nothing
none_pass : (xs : List ℕ) → filter (λ u. false) xs ≡ []
none_pass [] = refl
none_pass (x ∷ xs) = none_pass xs

joint_none : (query : QueryView) → joint_members query [] ≡ []
unfolding joint_members
joint_none query = none_pass (template_numbers query)

-- the members of any slot are those of its labels
pub members_are : (query : QueryView) (slot : Slot) → members_at query slot ≡ joint_members query (site_labels slot)
members_are query (Link atom most from to) = sym (joint_none query)
members_are query (Site atom groups first second) = refl

-- a member of a slot is a template
pub member_within : (query : QueryView) (slot : Slot) (k : ℕ) → 1 ≤ k → k ≤ length (members_at query slot) → member query slot k < length query.templates
member_within query slot k least most =
    let below : k - 1 < length (joint_members query (site_labels slot)) = omega (arith, least, most, ap length (members_are query slot)) in
    rw (members_are query slot) (joint_within query (site_labels slot) (k - 1) 0 below)

-- and a member of one of its labels
pub member_of_one : (query : QueryView) (slot : Slot) (k : ℕ) → 1 ≤ k → k ≤ length (members_at query slot) → is_member_of_one query (site_labels slot) (member query slot k) ≡ true
member_of_one query slot k least most =
    let below : k - 1 < length (joint_members query (site_labels slot)) = omega (arith, least, most, ap length (members_are query slot)) in
    rw (members_are query slot) (joint_passes query (site_labels slot) (k - 1) 0 below)

-- a list of one
pub one_only : (labels : List ℕ) → 1 ≤ length labels → length labels < 2 → labels ≡ get_or labels 0 0 ∷ []
one_only [] least most = absurd (omega (arith, least))
one_only (g ∷ []) least most = refl
one_only (g ∷ h ∷ labels) least most = absurd (omega (arith, most))

module _ (query : QueryView) (fits : QueryFits query) where
  -- the members of a slot of one label
  pub members_of_one : (slot : Slot) (labels : List ℕ) → labels ≡ site_labels slot → 1 ≤ length labels → length labels < 2 → members_at query slot ≡ members_of query (get_or labels 0 0)
  members_of_one slot labels are least most =
      members_are query slot ∙ ap (joint_members query) (sym are ∙ one_only labels least most) ∙ of_one_label query fits (get_or labels 0 0)

  -- the group of a member is the one that the site holds a member of
  pub held_by : (slot : Slot) (k r u : ℕ) → AreRisingLabels (site_labels slot) → k ≤ length (members_at query slot) → u ≡ member query slot k
      → is_member_of query r u ≡ true → Contains (site_labels slot) r → (g : ℕ) → 1 ≤ g → holds_member_of query slot k g ≡ (g == r)
  held_by slot k r u rising most is here among g least =
      let at = rising.in_range among.0 r among.1 in
      let label : 1 ≤ r = subst (λ (h : ℕ). 1 ≤ h) among.2 at.0 in
      held_is query fits slot k r label (grind (arith, nat_tests)) (subst (λ (v : ℕ). is_member_of query r v ≡ true) is here) g least

  -- of one label it is that label
  pub held_by_only : (slot : Slot) (labels : List ℕ) (k : ℕ) → AreRisingLabels (site_labels slot) → labels ≡ site_labels slot → 1 ≤ length labels → length labels < 2
      → 1 ≤ k → k ≤ length (members_at query slot) → (g : ℕ) → 1 ≤ g → holds_member_of query slot k g ≡ (g == get_or labels 0 0)
  held_by_only slot labels k rising are least most least' most' =
      let only : site_labels slot ≡ get_or labels 0 0 ∷ [] = sym are ∙ one_only labels least most in
      let one : is_member_of_one query (get_or labels 0 0 ∷ []) (member query slot k) ≡ true =
      subst (λ (ls : List ℕ). is_member_of_one query ls (member query slot k) ≡ true) only (member_of_one query slot k least' most') in
      let here : is_member_of query (get_or labels 0 0) (member query slot k) ≡ true = sym (or_false (is_member_of query (get_or labels 0 0) (member query slot k))) ∙ one in
      held_by slot k (get_or labels 0 0) (member query slot k) rising most' refl here (subst (λ (ls : List ℕ). Contains ls (get_or labels 0 0)) (sym only) (0, omega arith, refl))

  -- a site bears the label of a group of which it holds a member
  pub held_label : (slot : Slot) (k g : ℕ) → AreRisingLabels (site_labels slot) → 1 ≤ k → 1 ≤ g → holds_member_of query slot k g ≡ true → bears_label slot g ≡ true
  held_label slot k g rising least least' holds =
      let both = and_parts (is_filled_by query slot k) (is_member_of query g (member query slot k)) holds in
      let most : k ≤ length (members_at query slot) = (let test = both.0 in grind (arith, nat_tests)) in
      let one = of_label query (site_labels slot) (member query slot k) (member_of_one query slot k least most) in
      let in_range = all_at (λ (h : ℕ). (1 ≤ h) × (h ≤ 32)) (site_labels slot) one.place one.label rising.in_range one.at in
      let same : one.label ≡ g = fits.members_once.one_group one.label g (member query slot k) in_range.0 least' one.has (has_contains (members_of query g) (member query slot k) both.1) in
      passes_some (λ h. h == g) (site_labels slot) one.place one.label one.at (let test : (one.label == g) ≡ true = grind (arith, nat_tests) in test)

  -- whether a template is a member of a group shows behind the members below it
  pub there_is : (g u : ℕ) (xs : List ℕ) (i : ℕ) → xs ≡ members_of query g → i ≡ count_by (λ v. nat_lt v u) xs → i < length xs → (get_or xs i 0 == u) ≡ is_member_of query g u
  there_is g u xs i are count less =
      let rises : RisesWithin 0 (length query.templates) xs = rw are (members_rise_within query fits g) in
      let place : IsPlaceOf xs u i = rw count (place_found xs 0 (length query.templates) u rises) in
      place.there less ∙ ap (λ (ys : List ℕ). has ys u) are

  pub past_is : (g u : ℕ) (xs : List ℕ) (i : ℕ) → xs ≡ members_of query g → i ≡ count_by (λ v. nat_lt v u) xs → length xs ≤ i → is_member_of query g u ≡ false
  past_is g u xs i are count le =
      let rises : RisesWithin 0 (length query.templates) xs = rw are (members_rise_within query fits g) in
      let place : IsPlaceOf xs u i = rw count (place_found xs 0 (length query.templates) u rises) in
      ap (λ (ys : List ℕ). has ys u) (sym are) ∙ place.past le

-- where a template is a member of one of some groups, not all of them are without it
pub none_left : (query : QueryView) (labels : List ℕ) (u : ℕ) → is_member_of_one query labels u ≡ true
    → ((k : ℕ) → k < length labels → is_member_of query (get_or labels k 0) u ≡ false) → ⊥
none_left query labels u one none =
    let found = of_label query labels u one in
    let here : is_member_of query found.label u ≡ true = contains_has (members_of query found.label) u found.has in
    let label : get_or labels found.place 0 ≡ found.label = place_is labels found.place found.label 0 found.at in
    let not_here : is_member_of query found.label u ≡ false =
    subst (λ (g : ℕ). is_member_of query g u ≡ false) label (none found.place (place_within labels found.place found.label found.at)) in
    absurd cc

-- ---- sizes

-- what no size is above
greatest_le : (size : ℕ → ℕ) (ts : List ℕ) (n : ℕ) → ((t : ℕ) → Contains ts t → size t ≤ n) → greatest size ts ≤ n
greatest_le size [] n each = omega arith
greatest_le size (t ∷ ts) n each =
    omega (arith, each t (0, omega arith, refl), greatest_le size ts n (λ u at. each u (suc at.0, (let below = at.1 in omega arith), at.2)))

-- the greatest size of a member of a site is the greatest of those of its labels
pub greatest_joint : (query : QueryView) (size : ℕ → ℕ) (labels : List ℕ)
    → ((g u : ℕ) → Contains labels g → Contains (members_of query g) u → u < length query.templates)
    → greatest size (joint_members query labels) ≡ greatest (λ g. greatest size (members_of query g)) labels
greatest_joint query size labels within = omega (arith, most, least)
  where
    most : greatest size (joint_members query labels) ≤ greatest (λ g. greatest size (members_of query g)) labels
    most =
        greatest_le size (joint_members query labels) (greatest (λ g. greatest size (members_of query g)) labels)
        (λ u at. let one = member_of_label query labels u at in
        omega (
          arith,
          greatest_contains size (members_of query one.label) u one.has,
          greatest_contains (λ g. greatest size (members_of query g)) labels one.label
              (one.place, place_within labels one.place one.label one.at, place_is labels one.place one.label one.label one.at),
        ))

    least : greatest (λ g. greatest size (members_of query g)) labels ≤ greatest size (joint_members query labels)
    least =
        greatest_le (λ g. greatest size (members_of query g)) labels (greatest size (joint_members query labels))
        (λ g at. greatest_le size (members_of query g) (greatest size (joint_members query labels))
        (λ u there. greatest_contains size (joint_members query labels) u
        (is_joint query labels u at.0 g (within g u at there) (at_place labels at.0 g at.1 ∙ ap (λ (h : ℕ). Some h) at.2) there)))
