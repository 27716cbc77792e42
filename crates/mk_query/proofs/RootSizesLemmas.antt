-- The size of the root, as far as it is told apart.
--     greatest_more        one table more
--     none_first           without members every greatest size is 0
--     size_is              the size by the lists is that of the template, capped
--     greatest_next        the greatest sizes where chains may be longer by one
--     is_small, small_is   the root is small exactly where its capped size is
use Rattle.std.proofs.Common.{◌≡◌, ℕ, zero, suc, ◌+◌, ◌-◌, ◌<◌, ◌≤◌, Bool, true, false, cond, max, List, [], ◌∷◌, ◌++◌, Option, Some, None, refl, sym, ap, subst, ◌∙◌, arith, length, get_or, take, sum_by}
use Rattle.std.specs.Prelude.{◌==◌, count_by, replicate, Contains, slice_get, slice_index_or}
use Rattle.std.proofs.lemmas.List.{get_or-replicate, length-replicate, take_more}
use Rattle.std.proofs.lemmas.List.Sums.{sum_by-cons}
use Rattle.mk_model.specs.declared.template.Slot.{Slot}
use Rattle.mk_model.specs.declared.template.Slot.TheVariants.{Link, Site}
use Rattle.mk_model.specs.Labels.{PutsIn}
use Rattle.mk_model.specs.Queries.{QueryView, members_of}
use Rattle.mk_model.specs.Sizes.{IsSizing, atom_numbers, greatest, is_fixed, size_of_slot}
use Rattle.mk_model.specs.SizesWithin.{size_within}
use Rattle.mk_model.specs.Templates.{TemplateView, neighbour_count}
use Rattle.mk_model.proofs.ForCallers.{IsRanked, at_place, greatest_joint, size_by_rank, size_same, sizing_of, within_same}
use Rattle.mk_query.specs.CompileFaults.{IsNoCycle, IsSmall}
use Rattle.mk_query.specs.Recursion.{MembersWithin, NamesGroups}
use Rattle.mk_query.specs.RootSizes.{AreGreatest, AreOwnSizes, capped, greatest_at, link_size, of_group, own_size, site_size, sites_size, size_by_lists}
use Rattle.mk_query.proofs.CapLemmas.{cap_both, cap_max, cap_site, cap_small, cap_whole, plus_none}
use Rattle.mk_query.proofs.RecursionLemmas.{HasGroups, few_ranks, puts_leads, rank_of, ranked}

-- ---- the greatest of some

pub greatest_push : (f : ℕ → ℕ) (xs : List ℕ) (x : ℕ) → greatest f (xs ++ x ∷ []) ≡ max (greatest f xs) (f x)
greatest_push f [] x = omega arith
greatest_push f (y ∷ xs) x = (let later = greatest_push f xs x in omega (arith, later))

pub greatest_more : (f : ℕ → ℕ) (xs : List ℕ) (i : ℕ) → i < length xs → greatest f (take (i + 1) xs) ≡ max (greatest f (take i xs)) (f (get_or xs i 0))
greatest_more f xs i below = ap (greatest f) (take_more xs i 0 below) ∙ greatest_push f (take i xs) (get_or xs i 0)

-- of sizes that agree, the second ones capped
greatest_agree : (f h : ℕ → ℕ) (xs : List ℕ) → ((x : ℕ) → Contains xs x → f x ≡ capped (h x)) → greatest f xs ≡ capped (greatest h xs)
greatest_agree f h [] same = omega arith
greatest_agree f h (x ∷ xs) same =
    let here = same x (0, omega arith, refl) in
    let later = greatest_agree f h xs (λ y at. same y (suc at.0, (let below = at.1 in omega arith), at.2)) in
    rw (here, later) (cap_max (h x) (greatest h xs))

greatest_none : (f : ℕ → ℕ) (xs : List ℕ) → ((x : ℕ) → f x ≡ 0) → greatest f xs ≡ 0
greatest_none f [] none = refl
greatest_none f (x ∷ xs) none = omega (arith, none x, greatest_none f xs none)

pub none_first : (query : QueryView) (g : ℕ) → capped (greatest_at query 0 g) ≡ 0
none_first query g = rw (greatest_none (size_within 0 query) (members_of query g) (λ x. refl)) (omega arith)

-- ---- what sites add

few_neighbours : (atom : ℕ) (groups : List ℕ) (first second : ℕ) → neighbour_count (Site atom groups first second) ≤ 2
few_neighbours atom groups first second = by_test (second == 0)
  where
    by_test : (b : Bool) → cond b 1 2 ≤ 2
    by_test true = omega arith
    by_test false = omega arith

-- by sizes of which the first are capped
sites_agree : (f h : ℕ → ℕ) (slots : List Slot) → ((g : ℕ) → 1 ≤ g → g ≤ 32 → f g ≡ capped (h g)) → ((slot : Slot) → Contains slots slot → NamesGroups slot)
    → capped (sites_size f slots) ≡ capped (sites_size h slots)
sites_agree f h [] same has = refl
sites_agree f h (slot ∷ slots) same has =
    let later = sites_agree f h slots same (λ s at. has s (suc at.0, (let below = at.1 in omega arith), at.2)) in
    let here = one slot (has slot (0, omega arith, refl)) in
    rw (sum_by-cons (site_size f) slot slots, sum_by-cons (site_size h) slot slots) (cap_both (site_size f slot) (site_size h slot) (sites_size f slots) (sites_size h slots) here later)
  where
    one : (slot : Slot) → NamesGroups slot → capped (site_size f slot) ≡ capped (site_size h slot)
    one (Link atom most from to) label = refl
    one (Site atom groups first second) known =
        let agree : greatest f groups ≡ capped (greatest h groups) =
        greatest_agree f h groups (λ g at. (let range = known at.0 g at.1 in subst (λ (x : ℕ). f x ≡ capped (h x)) at.2 (same (get_or groups at.0 g) range.0 range.1))) in
        rw agree (cap_site (greatest h groups) (neighbour_count (Site atom groups first second)) (few_neighbours atom groups first second))

-- the slots of a template by their two kinds
slots_split : (query : QueryView) → MembersWithin query → (size : ℕ → ℕ) (template : TemplateView) (slots : List Slot)
    → sum_by (size_of_slot query size template) slots ≡ sum_by (link_size template) slots + sites_size (λ g. greatest size (members_of query g)) slots
slots_split query within size template [] = refl
slots_split query within size template (slot ∷ slots) =
    let later = slots_split query within size template slots in
    let here = one slot in
    omega (
      arith,
      later,
      here,
      sum_by-cons (size_of_slot query size template) slot slots,
      sum_by-cons (link_size template) slot slots,
      sum_by-cons (site_size (λ g. greatest size (members_of query g)))
          slot slots,
    )
  where
    one : (slot : Slot) → size_of_slot query size template slot ≡ link_size template slot + site_size (λ g. greatest size (members_of query g)) slot
    one (Link atom most from to) = omega arith
    one (Site atom groups first second) =
        ap (λ (m : ℕ). 1 + max m (neighbour_count (Site atom groups first second))) (greatest_joint query size groups (λ g u at. within g u))
        ∙ plus_none (site_size (λ g. greatest size (members_of query g)) (Site atom groups first second))

-- ---- one table

module _ (query : QueryView) (has : HasGroups query) (within : MembersWithin query) where
  pub size_is : (own list : List ℕ) (n u : ℕ) → AreOwnSizes query.templates own → AreGreatest query n list → u < length query.templates
      → size_by_lists query own list u ≡ capped (size_within (suc n) query u)
  size_is own list n u sizes are below = by_template (slice_get query.templates u) refl
    where
      by_template : (o : Option TemplateView) → slice_get query.templates u ≡ o → size_by_lists query own list u ≡ capped (size_within (suc n) query u)
      by_template None e = absurd (let at = at_place query.templates u (get_or query.templates u (record { atoms = []; bonds = []; slots = []; points = [] })) below in let none = sym e ∙ at in cc)
      by_template (Some template) e =
          let f : ℕ → ℕ = greatest_at query n in
          let own_is : slice_index_or own u 0 ≡ capped (own_size template) = sizes.each u template e in
          let sites : capped (sites_size (of_group list) template.slots) ≡ capped (sites_size f template.slots) =
          sites_agree (of_group list) f template.slots (λ g some few. of_group_is g some few) (λ slot at. has u slot (rw e at)) in
          rw e (cap_whole (slice_index_or own u 0) (count_by (is_fixed template) (atom_numbers template)) (sum_by (link_size template) template.slots)
          (sum_by (size_of_slot query (size_within n query) template) template.slots) (sites_size (of_group list) template.slots) (sites_size f template.slots)
          own_is sites (slots_split query within (size_within n query) template template.slots))
        where
          of_group_is : (g : ℕ) → 1 ≤ g → g ≤ 32 → of_group list g ≡ capped (greatest_at query n g)
          of_group_is g some few = (let place : g - 1 + 1 ≡ g = omega arith in rw place at (are.each (g - 1) (omega arith)))

  -- ---- rounds

  -- before the first, all are 0
  pub zeros_greatest : (list : List ℕ) → list ≡ replicate 32 0 → AreGreatest query 0 list
  zeros_greatest list zeros = record {
    size = ap length zeros ∙ length-replicate {A = ℕ} 32 0;
    each = λ g below. ap (λ (l : List ℕ). get_or l g 0) zeros ∙ get_or-replicate {A = ℕ} 32 g 0 0 below ∙ sym (none_first query (g + 1));
  }

  -- one round more
  pub greatest_next : (own list next : List ℕ) (n : ℕ) → AreOwnSizes query.templates own → AreGreatest query n list → length next ≡ 32
      → ((g : ℕ) → g < 32 → slice_index_or next g 0 ≡ greatest (size_by_lists query own list) (members_of query (g + 1))) → AreGreatest query (n + 1) next
  greatest_next own list next n sizes are size each = record {
    size = size;
    each = λ g below.
        let number : n + 1 ≡ suc n = omega arith in
        rw number (each g below ∙ greatest_agree (size_by_lists query own list) (size_within (suc n) query) (members_of query (g + 1))
        (λ u at. size_is own list n u sizes are (within (g + 1) u at)));
  }

  -- ---- the root

  -- a sizing is the one by rank, on the tables
  pub one_size : (k : ℕ) → 32 ≤ k → (rank : ℕ → ℕ) → IsRanked query rank
      → (size : ℕ → ℕ) → IsSizing query size → (n t : ℕ) → rank t < n → t < length query.templates → size t ≡ size_by_rank query rank t
  one_size k enough rank ranks size is zero t below inside = absurd (omega (arith, below))
  one_size k enough rank ranks size is (suc n) t below inside =
      by_template (slice_get query.templates t) refl
      (λ u puts. one_size k enough rank ranks size is n u (omega (arith, below, ranks t u puts))
      (let leads = puts_leads query k enough has t u puts in within leads.group u leads.member))
    where
      by_template : (o : Option TemplateView) → slice_get query.templates t ≡ o → ((u : ℕ) → PutsIn query t u → size u ≡ size_by_rank query rank u) → size t ≡ size_by_rank query rank t
      by_template None e same = absurd (let at = at_place query.templates t (record { atoms = []; bonds = []; slots = []; points = [] }) inside in let none = sym e ∙ at in cc)
      by_template (Some template) e same =
          is t template e ∙ size_same query size (size_by_rank query rank) t template e same ∙ sym (sizing_of query rank ranks t template e)

  module _ (k : ℕ) (enough : 32 ≤ k) (none : (t : ℕ) → IsNoCycle query t) (own list : List ℕ) (n : ℕ) (rounds : 33 ≤ n) (some : 0 < length query.templates)
      (sizes : AreOwnSizes query.templates own) (are : AreGreatest query n list) where
    -- the groups to which a table leads rank it
    abbrev ranks : IsRanked query (rank_of query k)
    ranks = ranked query k enough has within none

    -- the size by the lists is that by rank, capped
    root_is : size_by_lists query own list 0 ≡ capped (size_by_rank query (rank_of query k) 0)
    root_is =
        size_is own list n 0 sizes are some
        ∙ ap capped (within_same query (rank_of query k) ranks (suc n) (suc (rank_of query k 0)) 0 (omega (arith, rounds, few_ranks query k 0)) (omega arith))

    pub is_small : size_by_lists query own list 0 ≤ 512 → IsSmall query
    is_small small = record {
      size = size_by_rank query (rank_of query k);
      adds_up = sizing_of query (rank_of query k) ranks;
      small = cap_small (size_by_rank query (rank_of query k) 0) (omega (arith, root_is, small));
    }

    pub small_is : IsSmall query → size_by_lists query own list 0 ≤ 512
    small_is is =
        let same = one_size k enough (rank_of query k) ranks is.size is.adds_up (suc (rank_of query k 0)) 0 (omega arith) some in
        omega (arith, root_is, same, is.small)
