-- What is chosen at some slots fills a group at most as often as the bounds say.
use Rattle.std.proofs.Common.{◌≡◌, ℕ, ◌+◌, ◌<◌, ◌≤◌, Bool, true, false, cond, List, [], ◌∷◌, ◌++◌, length, refl, ap, subst, arith, All}
use Rattle.std.specs.Prelude.{◌==◌, Contains}
use Rattle.std.proofs.lemmas.Bool.Decides.{nat_tests}
use Rattle.std.proofs.lemmas.List.Sums.{sum_by-append, sum_by-cons}
use Rattle.mk_model.specs.declared.template.Slot.{Slot}
use Rattle.mk_model.specs.Queries.{QueryView, members_of, slots_of}
use Rattle.mk_model.specs.QueryFits.{QueryFits}
use Rattle.mk_model.specs.Labels.{holds_member_of, is_filled_by, is_member_of, site_labels, member, members_at}
use Rattle.mk_model.specs.Logic.{filled_of}
use Rattle.mk_model.specs.OpenSlots.{opened, standing_at, standing_by, Chooses}
use Rattle.mk_model.proofs.ForCallers.{contains_has, greatest_contains, has_contains, member_of_one, of_label, place_is, place_within}
use Rattle.mk_choice.proofs.CountLemmas.{filled_both, holds_at}
use Rattle.mk_choice.proofs.LabelLemmas.{opened_none, opened_some}
use Rattle.mk_choice.proofs.SlotLemmas.{known_first, known_next, opened_known}
use Rattle.mk_choice.specs.Bounds.{IsBound, most_filled, most_filled_at}
use Rattle.mk_choice.specs.Search.{IsKnown}

-- a number that fills a site puts in a member of one of its labels, which fills each group, with all
-- it opens, at most as often as that label's bound says
pub record FilledBy (query : QueryView) (bound : ℕ → ℕ → ℕ) (slot : Slot) (k : ℕ) : Type 0 where
  pub label : ℕ
  pub low : 1 ≤ label
  pub high : label ≤ 32
  pub among : Contains (site_labels slot) label
  pub once : filled_of query (standing_at slot k) label ≡ 1
  pub within : (g : ℕ) → 1 ≤ g → g ≤ 32 → bound label g ≤ 512 → filled_of query (standing_at slot k) g + most_filled bound (opened query slot k) g ≤ bound label g

-- one number fills the group, with all it opens, at most as often as the slot's bound says
module _ (query : QueryView) (fits : QueryFits query) (bound : ℕ → ℕ → ℕ) (bounds : IsBound query bound) (g : ℕ) (low : 1 ≤ g) (high : g ≤ 32) where
  -- a member of a label fills the group as often as that label's bound says
  by_member : (h u : ℕ) → 1 ≤ h → Contains (members_of query h) u → bound h g ≤ 512
      → cond (is_member_of query g u) 1 0 + most_filled bound (slots_of query u) g ≤ bound h g
  by_member h u least has small = by_group (is_member_of query g u) refl
    where
      within : cond (h == g) 1 0 + most_filled bound (slots_of query u) g ≤ bound h g
      within = bounds h g u low high small has

      by_group : (b : Bool) → is_member_of query g u ≡ b → cond b 1 0 + most_filled bound (slots_of query u) g ≤ bound h g
      by_group true e =
          let same : h ≡ g = fits.members_once.one_group h g u least low has (has_contains (members_of query g) u e) in
          let test : (h == g) ≡ true = grind (arith, nat_tests) in
          rw test at within
      by_group false e = omega (arith, within)

  number_within : (slot : Slot) (k : ℕ) → IsKnown slot → 1 ≤ k → most_filled_at bound g slot ≤ 512
      → filled_of query (standing_at slot k) g + most_filled bound (opened query slot k) g ≤ most_filled_at bound g slot
  number_within slot k known least small = by_number (is_filled_by query slot k) refl
    where
      holds : ◌≡◌ {A = ℕ} (filled_of query (standing_at slot k) g) (cond (holds_member_of query slot k g) 1 0)
      holds = holds_at query slot k g least

      by_number : (b : Bool) → is_filled_by query slot k ≡ b → filled_of query (standing_at slot k) g + most_filled bound (opened query slot k) g ≤ most_filled_at bound g slot
      by_number true fills =
          let within : k ≤ length (members_at query slot) = grind (arith, nat_tests) in
          let u : ℕ = member query slot k in
          let one = of_label query (site_labels slot) u (member_of_one query slot k least within) in
          let among : Contains (site_labels slot) one.label =
          (one.place, place_within (site_labels slot) one.place one.label one.at, place_is (site_labels slot) one.place one.label one.label one.at) in
          let below : bound one.label g ≤ most_filled_at bound g slot = greatest_contains (λ h. bound h g) (site_labels slot) one.label among in
          let label : 1 ≤ one.label = subst (λ (h : ℕ). 1 ≤ h) among.2 (known.labels.in_range one.place one.label among.1).0 in
          let here = by_member one.label u label one.has (omega (arith, below, small)) in
          let held : ◌≡◌ {A = ℕ} (cond (holds_member_of query slot k g) 1 0) (cond (is_member_of query g u) 1 0) = rw fills refl in
          omega (arith, holds, held, here, below, ap (λ (slots : List Slot). most_filled bound slots g) (opened_some query slot k least within))
      by_number false fails =
          let past : length (members_at query slot) < k = grind (arith, nat_tests) in
          let none : ◌≡◌ {A = ℕ} (cond (holds_member_of query slot k g) 1 0) 0 = rw fails refl in
          omega (arith, holds, none, ap (λ (slots : List Slot). most_filled bound slots g) (opened_none query slot k past))

  -- what is chosen at some slots fills the group at most as often as their bounds say
  pub filled_within : (slots : List Slot) → All IsKnown slots → (code : List ℕ) → Chooses query slots code → most_filled bound slots g ≤ 512
      → filled_of query (standing_by query slots code) g ≤ most_filled bound slots g
  filled_within [] known [] chooses small = omega arith
  filled_within (slot ∷ slots) known [] chooses small = absurd chooses
  filled_within [] known (k ∷ code) chooses small = absurd chooses
  filled_within (slot ∷ slots) known (k ∷ code) chooses small =
      let all = sum_by-cons (most_filled_at bound g) slot slots in
      let here = number_within slot k (known_first slot slots known) chooses.0 (omega (arith, all, small)) in
      let both = sum_by-append (most_filled_at bound g) (opened query slot k) slots in
      let inside = known_next slot slots (opened query slot k) (opened_known query fits slot k) known in
      let there = filled_within (opened query slot k ++ slots) inside code chooses.2 (omega (arith, all, small, here, both)) in
      omega (arith, all, here, both, there, filled_both query (standing_at slot k) (standing_by query (opened query slot k ++ slots) code) g)

pub filled_by : (query : QueryView) → QueryFits query → (bound : ℕ → ℕ → ℕ) → IsBound query bound → (slot : Slot) (k : ℕ) → IsKnown slot → 1 ≤ k → is_filled_by query slot k ≡ true
    → FilledBy query bound slot k
filled_by query fits bound bounds slot k known least fills =
    let within : k ≤ length (members_at query slot) = grind (arith, nat_tests) in
    let u : ℕ = member query slot k in
    let one = of_label query (site_labels slot) u (member_of_one query slot k least within) in
    let among : Contains (site_labels slot) one.label =
    (one.place, place_within (site_labels slot) one.place one.label one.at, place_is (site_labels slot) one.place one.label one.label one.at) in
    let in_range : (1 ≤ one.label) × (one.label ≤ 32) = subst (λ (h : ℕ). (1 ≤ h) × (h ≤ 32)) among.2 (known.labels.in_range one.place one.label among.1) in
    let held : ◌≡◌ {A = ℕ} (cond (holds_member_of query slot k one.label) 1 0) 1 = rw (fills, contains_has (members_of query one.label) u one.has) refl in
    record {
      label = one.label;
      low = in_range.0;
      high = in_range.1;
      among = among;
      once = omega (arith, held, holds_at query slot k one.label least);
      within = λ g low high small.
          let here = by_member query fits bound bounds g low high one.label u in_range.0 one.has small in
          let same : ◌≡◌ {A = ℕ} (cond (holds_member_of query slot k g) 1 0) (cond (is_member_of query g u) 1 0) = rw fills refl in
          omega (arith, holds_at query slot k g least, same, here, ap (λ (slots : List Slot). most_filled bound slots g) (opened_some query slot k least within));
    }
