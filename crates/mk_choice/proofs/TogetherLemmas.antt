-- What is chosen at some slots fills several groups together at most as often as the slots serve them.
--     total_add, total_le, total_has      sums
--     served_within       what is chosen serves no more than the slots do
--     lost_together       where less is served than is wanted, nothing keeps to it
use Rattle.std.proofs.Common.{◌≡◌, ℕ, zero, suc, ◌+◌, ◌-◌, ◌*◌, ◌<◌, ◌≤◌, Bool, true, false, cond, List, [], ◌∷◌, ◌++◌, length, refl, ap, arith, All}
use native.Mathlib.Nat.{add-mul}
use Rattle.std.specs.Prelude.{◌==◌, slice_index}
use Rattle.std.proofs.lemmas.Nat.{mul-le}
use Rattle.std.proofs.lemmas.Bool.Decides.{nat_tests}
use Rattle.std.proofs.lemmas.List.Sums.{sum_by-append, sum_by-cons}
use Rattle.mk_model.specs.declared.template.Slot.{Slot}
use Rattle.mk_model.specs.Queries.{QueryView}
use Rattle.mk_model.specs.QueryFits.{QueryFits}
use Rattle.mk_model.specs.Labels.{holds_member_of, is_filled_by, site_labels, members_at}
use Rattle.mk_model.specs.Logic.{filled_of}
use Rattle.mk_model.specs.OpenSlots.{opened, standing_at, standing_by, Chooses}
use Rattle.mk_model.specs.Sizes.{greatest}
use Rattle.mk_model.proofs.ForCallers.{greatest_contains}
use Rattle.mk_choice.proofs.BoundLemmas.{FilledBy, filled_by}
use Rattle.mk_choice.proofs.CountLemmas.{filled_both, holds_at}
use Rattle.mk_choice.proofs.LabelLemmas.{opened_none}
use Rattle.mk_choice.proofs.SlotLemmas.{known_first, known_next, known_others, opened_known}
use Rattle.mk_choice.specs.Bounds.{IsBound, most_filled, most_filled_at}
use Rattle.mk_choice.specs.Search.{IsKnown}
use Rattle.mk_choice.specs.Together.{IsFree, KeepsTo, MissTogether, is_capped, is_wanting, served_at, served_by, served_to_ends, total}

-- ---- sums

total_zero : (f : ℕ → ℕ) → total f 0 ≡ 0
unfolding total
total_zero f = refl

total_next : (f : ℕ → ℕ) (n : ℕ) → total f (suc n) ≡ total f n + f n
unfolding total
total_next f n = refl

pub total_add : (f g k : ℕ → ℕ) (n : ℕ) → ((i : ℕ) → i < n → k i ≡ f i + g i) → total k n ≡ total f n + total g n
total_add f g k zero each = omega (arith, total_zero f, total_zero g, total_zero k)
total_add f g k (suc n) each =
    omega (arith, total_next f n, total_next g n, total_next k n, each n (omega arith), total_add f g k n (λ i below. each i (omega (arith, below))))

pub total_le : (f g : ℕ → ℕ) (n : ℕ) → ((i : ℕ) → i < n → f i ≤ g i) → total f n ≤ total g n
total_le f g zero each = omega (arith, total_zero f)
total_le f g (suc n) each = omega (arith, total_next f n, total_next g n, each n (omega arith), total_le f g n (λ i below. each i (omega (arith, below))))

pub total_has : (f : ℕ → ℕ) (n i : ℕ) → i < n → f i ≤ total f n
total_has f zero i below = absurd (omega (arith, below))
total_has f (suc n) i below = by_place (i == n) refl (total_has f n i)
  where
    by_place : (b : Bool) → (i == n) ≡ b → (i < n → f i ≤ total f n) → f i ≤ total f (suc n)
    by_place true e before = (let same : i ≡ n = grind (arith, nat_tests) in omega (arith, total_next f n, ap f same))
    by_place false e before = (let other : i < n = grind (arith, nat_tests, below) in omega (arith, total_next f n, before other))

pub total_none : (f : ℕ → ℕ) (n : ℕ) → ((i : ℕ) → i < n → f i ≡ 0) → total f n ≡ 0
total_none f zero each = total_zero f
total_none f (suc n) each = omega (arith, total_next f n, each n (omega arith), total_none f n (λ i below. each i (omega (arith, below))))

-- ---- products

times_more : (a b w : ℕ) → (a + b) * w ≡ a * w + b * w
times_more a b w = add-mul a b w

times_le : (a b w : ℕ) → a ≤ b → a * w ≤ b * w
times_le a b w le = mul-le a w b w le (omega arith)

-- ---- where a test passes

cond_add : (b : Bool) (x y z : ℕ) → z ≡ x + y → ◌≡◌ {A = ℕ} (cond b z 0) (cond b x 0 + cond b y 0)
cond_add true x y z is = is
cond_add false x y z is = refl

cond_le : (b : Bool) (x y : ℕ) → (b ≡ true → x ≤ y) → cond b x 0 ≤ cond b y 0
cond_le true x y le = le refl
cond_le false x y le = omega arith

cond_none : (b : Bool) (x : ℕ) → x ≡ 0 → ◌≡◌ {A = ℕ} (cond b x 0) 0
cond_none true x is = is
cond_none false x is = refl

-- ---- what is served

module _ (query : QueryView) (fits : QueryFits query) (bound : ℕ → ℕ → ℕ) (bounds : IsBound query bound) (wants caps : List ℕ)
    (free : ℕ → ℕ) (is_free : IsFree bound wants caps free) where
  -- how often those that want more are filled
  abbrev wanted : (ℕ → ℕ) → ℕ
  wanted more = total (λ i. cond (is_wanting wants i) (more (i + 1)) 0) 32

  -- and what those with an end serve
  abbrev paid : (ℕ → ℕ) → ℕ
  paid more = total (λ i. cond (is_capped caps i) (more (i + 1) * served_by bound wants (i + 1)) 0) 32

  wanted_add : (f g k : ℕ → ℕ) → ((n : ℕ) → k n ≡ f n + g n) → wanted k ≡ wanted f + wanted g
  wanted_add f g k each =
      total_add (λ i. cond (is_wanting wants i) (f (i + 1)) 0) (λ i. cond (is_wanting wants i) (g (i + 1)) 0) (λ i. cond (is_wanting wants i) (k (i + 1)) 0) 32
      (λ i below. cond_add (is_wanting wants i) (f (i + 1)) (g (i + 1)) (k (i + 1)) (each (i + 1)))

  paid_add : (f g k : ℕ → ℕ) → ((n : ℕ) → k n ≡ f n + g n) → paid k ≡ paid f + paid g
  paid_add f g k each =
      total_add (λ i. cond (is_capped caps i) (f (i + 1) * served_by bound wants (i + 1)) 0) (λ i. cond (is_capped caps i) (g (i + 1) * served_by bound wants (i + 1)) 0)
      (λ i. cond (is_capped caps i) (k (i + 1) * served_by bound wants (i + 1)) 0) 32
      (λ i below.
      cond_add (is_capped caps i) (f (i + 1) * served_by bound wants (i + 1)) (g (i + 1) * served_by bound wants (i + 1)) (k (i + 1) * served_by bound wants (i + 1))
      (omega (arith, ap (λ (n : ℕ). n * served_by bound wants (i + 1)) (each (i + 1)), times_more (f (i + 1)) (g (i + 1)) (served_by bound wants (i + 1)))))

  -- an open site of a label serves no more than a filled one of its group
  free_le : (h : ℕ) → 1 ≤ h → h ≤ 32 → free h ≤ served_by bound wants h
  free_le h low high = by_cap (is_capped caps (h - 1)) (is_free h low high)
    where
      by_cap : (b : Bool) → ◌≡◌ {A = ℕ} (free h) (cond b 0 (served_by bound wants h)) → free h ≤ served_by bound wants h
      by_cap true is = omega (arith, is)
      by_cap false is = omega (arith, is)

  -- at labels: the greatest sum is no more than the sum of the greatest
  labels_below : (labels : List ℕ) → All (λ h. (1 ≤ h) × (h ≤ 32)) labels → greatest free labels ≤ wanted (λ g. greatest (λ h. bound h g) labels)
  labels_below [] in_range = omega arith
  labels_below (h ∷ labels) in_range =
      let here = in_range 0 h (omega arith) in
      let first : served_by bound wants h ≤ wanted (λ g. greatest (λ h. bound h g) (h ∷ labels)) =
      total_le (λ i. cond (is_wanting wants i) (bound h (i + 1)) 0) (λ i. cond (is_wanting wants i) (greatest (λ h. bound h (i + 1)) (h ∷ labels)) 0) 32
      (λ i below. cond_le (is_wanting wants i) (bound h (i + 1)) (greatest (λ h. bound h (i + 1)) (h ∷ labels)) (λ _. omega arith)) in
      let others : wanted (λ g. greatest (λ h. bound h g) labels) ≤ wanted (λ g. greatest (λ h. bound h g) (h ∷ labels)) =
      total_le (λ i. cond (is_wanting wants i) (greatest (λ h. bound h (i + 1)) labels) 0) (λ i. cond (is_wanting wants i) (greatest (λ h. bound h (i + 1)) (h ∷ labels)) 0) 32
      (λ i below. cond_le (is_wanting wants i) (greatest (λ h. bound h (i + 1)) labels) (greatest (λ h. bound h (i + 1)) (h ∷ labels)) (λ _. omega arith)) in
      omega (arith, free_le h here.0 here.1, first, others, labels_below labels (λ k d below. in_range (suc k) d (omega (arith, below))))

  -- and at slots
  slots_below : (slots : List Slot) → All IsKnown slots → served_at free slots ≤ wanted (λ g. most_filled bound slots g)
  slots_below [] known = omega arith
  slots_below (slot ∷ slots) known =
      let here = labels_below (site_labels slot) (known_first slot slots known).labels.in_range in
      let there = slots_below slots (known_others slot slots known) in
      let all = sum_by-cons (λ s. greatest free (site_labels s)) slot slots in
      let both = wanted_add (λ g. most_filled_at bound g slot) (λ g. most_filled bound slots g) (λ g. most_filled bound (slot ∷ slots) g) (λ g. sum_by-cons (most_filled_at bound g) slot slots) in
      omega (arith, here, there, all, both)

  -- ---- one number

  -- how often it fills each group
  abbrev fills : Slot → ℕ → ℕ → ℕ
  fills slot k g = filled_of query (standing_at slot k) g

  -- a number that fills nothing serves nothing
  serves_none : (slot : Slot) (k : ℕ) → 1 ≤ k → is_filled_by query slot k ≡ false
      → wanted (fills slot k) + served_at free (opened query slot k) ≤ paid (fills slot k) + greatest free (site_labels slot)
  serves_none slot k least fails =
      let past : length (members_at query slot) < k = grind (arith, nat_tests) in
      let none : (g : ℕ) → fills slot k g ≡ 0 = λ g. (let held : ◌≡◌ {A = ℕ} (cond (holds_member_of query slot k g) 1 0) 0 = rw fails refl in omega (arith, holds_at query slot k g least, held)) in
      let wants_none : wanted (fills slot k) ≡ 0 =
      total_none (λ i. cond (is_wanting wants i) (fills slot k (i + 1)) 0) 32 (λ i below. cond_none (is_wanting wants i) (fills slot k (i + 1)) (none (i + 1))) in
      let opens = ap (served_at free) (opened_none query slot k past) in
      omega (arith, wants_none, opens)

  -- a number that fills the site with a member of a label serves what that label does
  serves_some : (slot : Slot) (k : ℕ) → IsKnown slot → FilledBy query bound slot k
      → paid (fills slot k) + greatest free (site_labels slot) ≤ 512
      → wanted (fills slot k) + served_at free (opened query slot k) ≤ paid (fills slot k) + greatest free (site_labels slot)
  serves_some slot k known by small =
      omega (arith, enough, all)
    where
      h : ℕ
      h = by.label

      place : h - 1 + 1 ≡ h
      place = omega (arith, by.low)

      -- paid by its end, or served by the site
      enough : served_by bound wants h ≤ paid (fills slot k) + greatest free (site_labels slot)
      enough = by_cap (is_capped caps (h - 1)) refl (is_free h by.low by.high)
        where
          by_cap : (b : Bool) → is_capped caps (h - 1) ≡ b → ◌≡◌ {A = ℕ} (free h) (cond b 0 (served_by bound wants h))
              → served_by bound wants h ≤ paid (fills slot k) + greatest free (site_labels slot)
          by_cap true e is =
              let has = total_has (λ i. cond (is_capped caps i) (fills slot k (i + 1) * served_by bound wants (i + 1)) 0) 32 (h - 1) (omega (arith, by.low, by.high)) in
              let term : ◌≡◌ {A = ℕ} (cond (is_capped caps (h - 1)) (fills slot k (h - 1 + 1) * served_by bound wants (h - 1 + 1)) 0) (fills slot k h * served_by bound wants h) = rw (e, place) refl in
              let once : fills slot k h * served_by bound wants h ≡ served_by bound wants h = rw by.once (omega arith) in
              omega (arith, has, term, once)
          by_cap false e is = omega (arith, is, greatest_contains free (site_labels slot) h by.among)

      -- each bound that is asked is one
      each : (i : ℕ) → i < 32 → is_wanting wants i ≡ true → fills slot k (i + 1) + most_filled bound (opened query slot k) (i + 1) ≤ bound h (i + 1)
      each i below wanting =
          let has = total_has (λ i. cond (is_wanting wants i) (bound h (i + 1)) 0) 32 i below in
          let term : ◌≡◌ {A = ℕ} (cond (is_wanting wants i) (bound h (i + 1)) 0) (bound h (i + 1)) = rw wanting refl in
          by.within (i + 1) (omega arith) (omega (arith, below)) (omega (arith, has, term, enough, small))

      all : wanted (fills slot k) + served_at free (opened query slot k) ≤ served_by bound wants h
      all =
          let inside = slots_below (opened query slot k) (opened_known query fits slot k) in
          let both = wanted_add (fills slot k) (λ g. most_filled bound (opened query slot k) g) (λ g. fills slot k g + most_filled bound (opened query slot k) g) (λ g. refl) in
          let below =
          total_le (λ i. cond (is_wanting wants i) (fills slot k (i + 1) + most_filled bound (opened query slot k) (i + 1)) 0) (λ i. cond (is_wanting wants i) (bound h (i + 1)) 0) 32
          (λ i within. cond_le (is_wanting wants i) (fills slot k (i + 1) + most_filled bound (opened query slot k) (i + 1)) (bound h (i + 1)) (each i within)) in
          omega (arith, inside, both, below)

  serves : (slot : Slot) (k : ℕ) → IsKnown slot → 1 ≤ k → paid (fills slot k) + greatest free (site_labels slot) ≤ 512
      → wanted (fills slot k) + served_at free (opened query slot k) ≤ paid (fills slot k) + greatest free (site_labels slot)
  serves slot k known least small = by_number (is_filled_by query slot k) refl
    where
      by_number : (b : Bool) → is_filled_by query slot k ≡ b → wanted (fills slot k) + served_at free (opened query slot k) ≤ paid (fills slot k) + greatest free (site_labels slot)
      by_number true e = serves_some slot k known (filled_by query fits bound bounds slot k known least e) small
      by_number false e = serves_none slot k least e

  -- ---- all numbers

  -- what is chosen at some slots serves no more than the slots, and those with an end
  pub served_within : (slots : List Slot) → All IsKnown slots → (code : List ℕ) → Chooses query slots code
      → paid (filled_of query (standing_by query slots code)) + served_at free slots ≤ 512
      → wanted (filled_of query (standing_by query slots code)) ≤ paid (filled_of query (standing_by query slots code)) + served_at free slots
  served_within [] known [] chooses small =
      omega (arith, total_none (λ i. cond (is_wanting wants i) 0 0) 32 (λ i below. cond_none (is_wanting wants i) 0 refl))
  served_within (slot ∷ slots) known [] chooses small = absurd chooses
  served_within [] known (k ∷ code) chooses small = absurd chooses
  served_within (slot ∷ slots) known (k ∷ code) chooses small =
      let behind = filled_of query (standing_by query (opened query slot k ++ slots) code) in
      let whole = filled_of query (standing_by query (slot ∷ slots) (k ∷ code)) in
      let each : (g : ℕ) → whole g ≡ fills slot k g + behind g = λ g. filled_both query (standing_at slot k) (standing_by query (opened query slot k ++ slots) code) g in
      let wanted_all = wanted_add (fills slot k) behind whole each in
      let paid_all = paid_add (fills slot k) behind whole each in
      let slots_all = sum_by-cons (λ s. greatest free (site_labels s)) slot slots in
      let inside_all = sum_by-append (λ s. greatest free (site_labels s)) (opened query slot k) slots in
      let here = serves slot k (known_first slot slots known) chooses.0 (omega (arith, small, paid_all, slots_all)) in
      let inside = known_next slot slots (opened query slot k) (opened_known query fits slot k) known in
      let there = served_within (opened query slot k ++ slots) inside code chooses.2 (omega (arith, small, paid_all, slots_all, inside_all, here)) in
      omega (arith, wanted_all, paid_all, slots_all, inside_all, here, there)

-- ---- less is served than is wanted

module _ (query : QueryView) (fits : QueryFits query) (bound : ℕ → ℕ → ℕ) (bounds : IsBound query bound) (wants caps : List ℕ) where
  pub lost_together : (slots : List Slot) → All IsKnown slots → MissTogether bound wants caps slots → (code : List ℕ) → Chooses query slots code
      → KeepsTo wants caps (filled_of query (standing_by query slots code)) → ⊥
  lost_together slots known miss code chooses keeps =
      let more = filled_of query (standing_by query slots code) in
      let ends : paid query fits bound bounds wants caps miss.free miss.is_free more ≤ served_to_ends bound wants caps =
      total_le (λ i. cond (is_capped caps i) (more (i + 1) * served_by bound wants (i + 1)) 0) (λ i. cond (is_capped caps i) (slice_index caps i * served_by bound wants (i + 1)) 0) 32
      (λ i below.
      cond_le (is_capped caps i) (more (i + 1) * served_by bound wants (i + 1)) (slice_index caps i * served_by bound wants (i + 1))
      (λ capped. times_le (more (i + 1)) (slice_index caps i) (served_by bound wants (i + 1)) (keeps.most i below (grind (arith, nat_tests, capped))))) in
      let within = served_within query fits bound bounds wants caps miss.free miss.is_free slots known code chooses (omega (arith, ends, miss.small)) in
      let needs : total (slice_index wants) 32 ≤ total (λ i. cond (is_wanting wants i) (more (i + 1)) 0) 32 =
      total_le (slice_index wants) (λ i. cond (is_wanting wants i) (more (i + 1)) 0) 32 (λ i below. by_want i (is_wanting wants i) refl (keeps.least i below)) in
      omega (arith, ends, within, needs, miss.less)
    where
      by_want : (i : ℕ) (b : Bool) → is_wanting wants i ≡ b → slice_index wants i ≤ filled_of query (standing_by query slots code) (i + 1)
          → slice_index wants i ≤ cond b (filled_of query (standing_by query slots code) (i + 1)) 0
      by_want i true e least = least
      by_want i false e least = (let none : slice_index wants i ≡ 0 = grind (arith, nat_tests) in omega (arith, none))
