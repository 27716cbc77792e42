-- What each group still needs and may get, group by group, and open slots one after another.
--     no_limit, limit_next, keeps_some    limits of none, of one group more, of some of them
--     asked_now, asked_named      a range that is surely asked for
--     served_drop, known_drop     one slot less
--     misses                      less is served than is wanted, as it is counted
use Rattle.std.proofs.Common.{◌≡◌, ℕ, zero, suc, ◌+◌, ◌-◌, ◌*◌, ◌<◌, ◌≤◌, inr, Bool, true, false, cond, List, [], ◌∷◌, drop, length, replicate, set, Some, refl, ap, ◌∙◌, arith, All}
use Rattle.std.specs.Prelude.{◌==◌, IsTrue, slice_get, slice_index}
use Rattle.std.proofs.lemmas.Bool.Decides.{nat_tests}
use Rattle.std.proofs.lemmas.Grind.{get_or-set_at}
use Rattle.std.proofs.lemmas.List.{get_or-set_other}
use Rattle.std.proofs.lemmas.List.Sums.{sum_by-cons}
use Rattle.mk_model.specs.declared.group.Group.{Group}
use Rattle.mk_model.specs.declared.query.Count.{Count}
use Rattle.mk_model.specs.declared.template.Slot.{Slot}
use Rattle.mk_model.specs.Labels.{site_labels}
use Rattle.mk_model.specs.Logic.{filled_of, is_in_range}
use Rattle.mk_model.specs.OpenSlots.{standing_by}
use Rattle.mk_model.specs.Queries.{QueryView}
use Rattle.mk_model.specs.Sizes.{greatest}
use Rattle.mk_logic.specs.Counts.{filled_at, is_asked, sites_at}
use Rattle.mk_logic.proofs.ForCallers.{asked_found, group_at}
use Rattle.mk_choice.specs.declared.pending.Ahead.{Ahead}
use Rattle.mk_choice.specs.Search.{IsKnown, sites_with}
use Rattle.mk_choice.specs.Together.{AsksFor, InEach, KeepsTo, MissTogether, free_in, is_capped, served_at, served_by, served_to_ends, total}
use Rattle.mk_choice.proofs.LostLemmas.{asked_more, sites_stand}
use Rattle.mk_choice.proofs.SlotLemmas.{known_others}
use Rattle.mk_choice.proofs.TogetherLemmas.{total_le}

-- ---- limits

at_all : (x n i : ℕ) → i < n → slice_index (replicate n x) i ≡ x
at_all x zero i below = absurd (omega (arith, below))
at_all x (suc n) zero below = refl
at_all x (suc n) (suc i) below = at_all x n i (omega (arith, below))

pub no_limit : (more : ℕ → ℕ) → KeepsTo (replicate 32 0) (replicate 32 513) more
no_limit more = record {
  least = λ i below. omega (arith, at_all 0 32 i below);
  most = λ i below small. absurd (omega (arith, at_all 513 32 i below, small));
}

-- of one group more
keeps_set : (wants caps : List ℕ) (i n m : ℕ) (more : ℕ → ℕ) → length wants ≡ 32 → length caps ≡ 32 → i < 32 → n ≤ more (i + 1) → more (i + 1) ≤ m
    → KeepsTo wants caps more → KeepsTo (set wants i n) (set caps i m) more
keeps_set wants caps i n m more wants_size caps_size within least most keeps = record {
  least = λ j below. by_least j below (i == j) refl;
  most = λ j below small. by_most j below small (i == j) refl;
}
  where
    by_least : (j : ℕ) → j < 32 → (b : Bool) → (i == j) ≡ b → slice_index (set wants i n) j ≤ more (j + 1)
    by_least j below true e =
        let same : j ≡ i = grind (arith, nat_tests) in
        omega (arith, get_or-set_at wants i j n 0 same (omega (arith, wants_size, within)), least, ap (λ (k : ℕ). more (k + 1)) same)
    by_least j below false e =
        let other : ◌≡◌ j i → ⊥ = λ same. (let test : (i == j) ≡ true = grind (arith, nat_tests) in absurd cc) in
        omega (arith, get_or-set_other wants i j n 0 other, keeps.least j below)

    by_most : (j : ℕ) → j < 32 → slice_index (set caps i m) j ≤ 512 → (b : Bool) → (i == j) ≡ b → more (j + 1) ≤ slice_index (set caps i m) j
    by_most j below small true e =
        let same : j ≡ i = grind (arith, nat_tests) in
        omega (arith, get_or-set_at caps i j m 0 same (omega (arith, caps_size, within)), most, ap (λ (k : ℕ). more (k + 1)) same)
    by_most j below small false e =
        let other : ◌≡◌ j i → ⊥ = λ same. (let test : (i == j) ≡ true = grind (arith, nat_tests) in absurd cc) in
        let here = get_or-set_other caps i j m 0 other in
        omega (arith, here, keeps.most j below (omega (arith, here, small)))

-- of some of them
pub keeps_some : (wants caps wants' caps' : List ℕ) → ((i : ℕ) → i < 32 → slice_index wants' i ≤ slice_index wants i)
    → ((i : ℕ) → i < 32 → slice_index caps' i ≤ 512 → slice_index caps' i ≡ slice_index caps i)
    → (more : ℕ → ℕ) → KeepsTo wants caps more → KeepsTo wants' caps' more
keeps_some wants caps wants' caps' less same more keeps = record {
  least = λ i below. omega (arith, less i below, keeps.least i below);
  most = λ i below small. (let is = same i below small in omega (arith, is, keeps.most i below (omega (arith, is, small))));
}

module _ (query : QueryView) (counts : List Count) (ahead : Ahead) where
  -- ---- what is surely asked for

  pub asked_now : (g : ℕ) → is_asked query.groups counts g ≡ true → InEach query counts ahead (AsksFor query counts g)
  asked_now g asked slots others opens completes =
      asked_more query (filled_at counts) (λ h. filled_at counts h + filled_of query (standing_by query slots others) h) g (λ h. omega arith) (asked_found query counts g asked)

  pub asked_named : (wants caps : List ℕ) (h g : ℕ) (group : Group) → h < 32 → slice_get query.groups h ≡ Some group → group.then_group ≡ g → 1 ≤ slice_index wants h
      → InEach query counts ahead (KeepsTo wants caps) → InEach query counts ahead (AsksFor query counts g)
  asked_named wants caps h g group below at names some each slots others opens completes =
      inr (h + 1, (group, group_at query counts h group at, names), omega (arith, some, (each slots others opens completes).least h below))

  -- ---- one group more

  pub limit_next : (wants caps wants' caps' : List ℕ) (i least most : ℕ) (group : Group) → i < 32 → slice_get query.groups i ≡ Some group
      → length wants ≡ 32 → length caps ≡ 32 → 0 < sites_at counts (i + 1) + slice_index ahead.sites i
      → ((n : ℕ) → filled_at counts (i + 1) ≤ n → IsTrue (is_in_range group.range n) → filled_at counts (i + 1) + least ≤ n)
      → ((n : ℕ) → filled_at counts (i + 1) ≤ n → IsTrue (is_in_range group.range n) → n ≤ filled_at counts (i + 1) + most)
      → wants' ≡ set wants i least → caps' ≡ set caps i most
      → InEach query counts ahead (AsksFor query counts (i + 1)) → InEach query counts ahead (KeepsTo wants caps) → InEach query counts ahead (KeepsTo wants' caps')
  limit_next wants caps wants' caps' i least most group below at wants_size caps_size stands from to is_wants is_caps asked each slots others opens completes =
      let more = filled_of query (standing_by query slots others) in
      let some : 0 < sites_with counts (standing_by query slots others) (i + 1) = omega (arith, stands, opens i below, sites_stand query (i + 1) slots others completes.chooses) in
      let within : IsTrue (is_in_range group.range (filled_at counts (i + 1) + more (i + 1))) =
      completes.logic (i + 1) group (group_at query counts i group at) some (asked slots others opens completes) in
      let low = from (filled_at counts (i + 1) + more (i + 1)) (omega arith) within in
      let high = to (filled_at counts (i + 1) + more (i + 1)) (omega arith) within in
      rw (is_wants, is_caps)
      (keeps_set wants caps i least most more wants_size caps_size below (omega (arith, low)) (omega (arith, high)) (each slots others opens completes))

-- ---- one slot less

pub served_drop : (free : ℕ → ℕ) (slots : List Slot) (i : ℕ) (slot : Slot) → slice_get slots i ≡ Some slot
    → served_at free (drop i slots) ≡ greatest free (site_labels slot) + served_at free (drop (i + 1) slots)
served_drop free [] i slot is = absurd cc
served_drop free (first ∷ slots) zero slot is =
    let same : first ≡ slot = cc in
    omega (arith, sum_by-cons (λ s. greatest free (site_labels s)) first slots, ap (λ (s : Slot). greatest free (site_labels s)) same)
served_drop free (first ∷ slots) (suc i) slot is =
    let next : suc i + 1 ≡ suc (i + 1) = omega arith in
    rw next (served_drop free slots i slot is)

pub known_drop : (slots : List Slot) (i : ℕ) (slot : Slot) → slice_get slots i ≡ Some slot → All IsKnown (drop i slots) → All IsKnown (drop (i + 1) slots)
known_drop [] i slot is known = absurd cc
known_drop (first ∷ slots) zero slot is known = known_others first slots known
known_drop (first ∷ slots) (suc i) slot is known = (let next : suc i + 1 ≡ suc (i + 1) = omega arith in rw next (known_drop slots i slot is known))

-- ---- as it is counted

pub misses : (bound : ℕ → ℕ → ℕ) (wants caps served free : List ℕ) (slots : List Slot) (ends at sum : ℕ)
    → ((i : ℕ) → i < 32 → slice_index served i ≡ served_by bound wants (i + 1))
    → ((i : ℕ) → i < 32 → slice_index free i ≡ cond (is_capped caps i) 0 (slice_index served i))
    → (ends ≤ 512 → total (λ i. cond (is_capped caps i) (slice_index caps i * slice_index served i) 0) 32 ≤ ends)
    → (at ≤ 512 → served_at (free_in free) slots ≤ at) → ends + at ≤ 512 → sum ≤ total (slice_index wants) 32 → ends + at < sum → MissTogether bound wants caps slots
misses bound wants caps served free slots ends at sum each free_is ends_is at_is small sum_is less = record {
  free = free_in free;
  is_free = λ h low high.
      let place : h - 1 + 1 ≡ h = omega (arith, low) in
      let is = each (h - 1) (omega (arith, low, high)) in
      free_is (h - 1) (omega (arith, low, high)) ∙ ap (cond (is_capped caps (h - 1)) 0) (is ∙ ap (served_by bound wants) place);
  small = omega (arith, all_ends, all_at, small);
  less = omega (arith, all_ends, all_at, sum_is, less);
}
  where
    all_at : served_at (free_in free) slots ≤ at
    all_at = at_is (omega (arith, small))

    one_end : (i : ℕ) → i < 32 → cond (is_capped caps i) (slice_index caps i * served_by bound wants (i + 1)) 0 ≤ cond (is_capped caps i) (slice_index caps i * slice_index served i) 0
    one_end i below =
        let same = ap (λ (n : ℕ). cond (is_capped caps i) (slice_index caps i * n) 0) (each i below) in
        omega (arith, same)

    all_ends : served_to_ends bound wants caps ≤ ends
    all_ends =
        let le =
        total_le (λ i. cond (is_capped caps i) (slice_index caps i * served_by bound wants (i + 1)) 0)
        (λ i. cond (is_capped caps i) (slice_index caps i * slice_index served i) 0) 32 one_end in
        omega (arith, le, ends_is (omega (arith, small)))
