-- Which group's range is asked for.
--     asked_is        the test and the words
--     meets_by        what the group of one number has to meet
use Rattle.std.proofs.Common.{◌≡◌, ℕ, zero, suc, ◌+◌, ◌-◌, ◌<◌, ◌≤◌, Bool, true, false, not, ◌&&◌, ◌||◌, inl, inr, List, [], ◌∷◌, length, Option, Some, None, refl, sym, ap, subst, ◌∙◌, arith}
use Rattle.std.specs.Prelude.{◌==◌, ◌↔◌, nat_lt, slice_get, IsTrue, zip}
use Rattle.std.specs.List.{list_any}
use Rattle.std.proofs.lemmas.Bool.Decides.{nat_tests}
use Rattle.mk_text.proofs.ForCallers.{both, and_true, or_left, or_right}
use Rattle.mk_model.specs.declared.group.Group.{Group}
use Rattle.mk_model.specs.declared.query.Count.{Count}
use Rattle.mk_model.specs.Queries.{QueryView}
use Rattle.mk_model.specs.Logic.{IsAllowed, IsAsked, IsGroupAt, MeetsRange, Names, is_in_range}
use Rattle.mk_model.proofs.ForCallers.{IsPassed, passes_some, place_within, some_passes}
use Rattle.mk_logic.specs.Counts.{filled_at, is_asked, sites_at}

-- ---- two lists side by side

-- what stands in both at a place
pub beside : {X Y : Type 0} (xs : List X) (ys : List Y) (k : ℕ) (x : X) (y : Y) → slice_get xs k ≡ Some x → slice_get ys k ≡ Some y → slice_get (zip xs ys) k ≡ Some (x, y)
beside [] ys k x y at at' = absurd cc
beside (x' ∷ xs) [] k x y at at' = absurd cc
beside (x' ∷ xs) (y' ∷ ys) zero x y at at' = (let one : x' ≡ x = cc in let other : y' ≡ y = cc in cc)
beside (x' ∷ xs) (y' ∷ ys) (suc k) x y at at' = beside xs ys k x y at at'

-- and what stands at a place of the two, in each
pub from_both : {X Y : Type 0} (xs : List X) (ys : List Y) (k : ℕ) (p : X × Y) → slice_get (zip xs ys) k ≡ Some p → (slice_get xs k ≡ Some p.0) × (slice_get ys k ≡ Some p.1)
from_both [] ys k p at = absurd cc
from_both (x ∷ xs) [] k p at = absurd cc
from_both {X = X} {Y = Y} (x ∷ xs) (y ∷ ys) zero p at = (let same : (x, y) ≡ p = cc in (ap (λ (q : X × Y). Some q.0) same, ap (λ (q : X × Y). Some q.1) same))
from_both (x ∷ xs) (y ∷ ys) (suc k) p at = from_both xs ys k p at

-- ---- what is asked

module _ (query : QueryView) (counts : List Count) where
  -- the group of the number behind a place
  pub group_at : (k : ℕ) (group : Group) → slice_get query.groups k ≡ Some group → IsGroupAt query (k + 1) group
  group_at k group at = (let place : k + 1 - 1 ≡ k = omega arith in (omega arith, rw place at))

  -- the count of the group of that number
  pub filled_is : (k : ℕ) (count : Count) → slice_get counts k ≡ Some count → filled_at counts (k + 1) ≡ count.filled
  filled_is k count at = (let place : k + 1 - 1 ≡ k = omega arith in rw (place, at) refl)

  -- a group that is named by none
  unnamed : (g : ℕ) → list_any (λ group. group.then_group == g) query.groups ≡ false → (h : ℕ) → Names query h g → ⊥
  unnamed g none h (group, at, names) =
      let some : list_any (λ group. group.then_group == g) query.groups ≡ true = passes_some (λ group. group.then_group == g) query.groups (h - 1) group at.1 (grind (arith, nat_tests)) in
      absurd cc

  -- whether a group names group g
  abbrev names_it : ℕ → Group → Bool
  names_it g group = group.then_group == g

  -- and whether a site of it is filled
  abbrev wants_it : ℕ → Group × Count → Bool
  wants_it g (group, count) = (group.then_group == g) && nat_lt 0 count.filled

  -- one that does both
  wanted : (g : ℕ) → IsPassed (wants_it g) (zip query.groups counts) → (h : ℕ) × Names query h g × (0 < filled_at counts h)
  wanted g found =
      let at = from_both query.groups counts found.place found.item found.at in
      let tests = both (found.item.0.then_group == g) (nat_lt 0 found.item.1.filled) found.passes in
      let names : found.item.0.then_group ≡ g = (let test = tests.0 in grind (arith, nat_tests)) in
      let filled : 0 < found.item.1.filled = (let test = tests.1 in grind (arith, nat_tests)) in
      (found.place + 1, (found.item.0, group_at found.place found.item.0 at.0, names), rw (filled_is found.place found.item.1 at.1) filled)

  -- the test, and the words
  pub asked_found : (g : ℕ) → is_asked query.groups counts g ≡ true → IsAsked query (filled_at counts) g
  asked_found g asked = by_names (list_any (names_it g) query.groups) refl asked
    where
      by_names : (b : Bool) → list_any (names_it g) query.groups ≡ b → (not b || list_any (wants_it g) (zip query.groups counts)) ≡ true → IsAsked query (filled_at counts) g
      by_names false e asked = inl (unnamed g e)
      by_names true e asked = inr (wanted g (some_passes (wants_it g) (zip query.groups counts) asked))

  pub asked_given : (g : ℕ) → IsAsked query (filled_at counts) g → is_asked query.groups counts g ≡ true
  asked_given g (inl none) = by_names (list_any (names_it g) query.groups) refl
    where
      by_names : (b : Bool) → list_any (names_it g) query.groups ≡ b → (not b || list_any (wants_it g) (zip query.groups counts)) ≡ true
      by_names false e = refl
      by_names true e =
          let found = some_passes (names_it g) query.groups e in
          let names : found.item.then_group ≡ g = (let test = found.passes in grind (arith, nat_tests)) in
          absurd (none (found.place + 1) (found.item, group_at found.place found.item found.at, names))
  asked_given g (inr (h, named, some)) = or_right (not (list_any (names_it g) query.groups)) _ (by_count (slice_get counts (h - 1)) refl)
    where
      by_count : (o : Option Count) → slice_get counts (h - 1) ≡ o → list_any (wants_it g) (zip query.groups counts) ≡ true
      by_count None e = absurd (let zero_at : filled_at counts h ≡ 0 = rw e refl in omega (arith, some))
      by_count (Some count) e =
          let filled : filled_at counts h ≡ count.filled = rw e refl in
          let names : (named.0.then_group == g) ≡ true = (let same = named.2 in grind (arith, nat_tests)) in
          let test : nat_lt 0 count.filled ≡ true = (let less = some in grind (arith, nat_tests)) in
          passes_some (wants_it g) (zip query.groups counts) (h - 1) (named.0, count) (beside query.groups counts (h - 1) named.0 count named.1.1 e)
          (and_true (named.0.then_group == g) (nat_lt 0 count.filled) names test)

  -- ---- what a group has to meet

  -- nothing where its range isn't asked for
  pub meets_unasked : (g : ℕ) → is_asked query.groups counts g ≡ false → MeetsRange query (sites_at counts) (filled_at counts) g
  meets_unasked g not group at some asked = (let is = asked_given g asked in absurd cc)

  -- and its range where it is
  pub meets_asked : (k : ℕ) (group : Group) (count : Count) (b : Bool) → slice_get query.groups k ≡ Some group → slice_get counts k ≡ Some count
      → 0 < count.sites → is_asked query.groups counts (k + 1) ≡ true → b ≡ is_in_range group.range count.filled → IsTrue b ↔ MeetsRange query (sites_at counts) (filled_at counts) (k + 1)
  meets_asked k group count b at at' some asked is = (to, from)
    where
      place : k + 1 - 1 ≡ k
      place = omega arith

      to : b ≡ true → MeetsRange query (sites_at counts) (filled_at counts) (k + 1)
      to holds other other_at other_some other_asked =
          let there : slice_get query.groups (k + 1 - 1) ≡ Some other = other_at.1 in
          let same : group ≡ other = (let here = rw place at there in cc) in
          rw (filled_is k count at') (subst (λ (g : Group). is_in_range g.range count.filled ≡ true) same (sym is ∙ holds))

      from : MeetsRange query (sites_at counts) (filled_at counts) (k + 1) → b ≡ true
      from meets =
          let sites : 0 < sites_at counts (k + 1) = rw (place, at') some in
          is ∙ (rw (filled_is k count at') at (meets group (group_at k group at) sites (asked_found (k + 1) asked)))

  -- ---- all groups

  -- where some group doesn't, they aren't allowed
  pub not_allowed : (k : ℕ) (b : Bool) → (IsTrue b ↔ MeetsRange query (sites_at counts) (filled_at counts) (k + 1)) → b ≡ false → IsAllowed query (sites_at counts) (filled_at counts) → ⊥
  not_allowed k b is fails all = (let holds = is.1 (all (k + 1)) in absurd cc)

  -- where each does, they are
  pub all_allowed : (n : ℕ) → length query.groups ≤ n → ((k : ℕ) → k < n → MeetsRange query (sites_at counts) (filled_at counts) (k + 1)) → IsAllowed query (sites_at counts) (filled_at counts)
  all_allowed n enough each g group at =
      let below = place_within query.groups (g - 1) group at.1 in
      let place : g - 1 + 1 ≡ g = omega (arith, at.0) in
      rw place at (each (g - 1) (omega (arith, below))) group at

  -- the count of the sites of the group of a number
  pub sites_is : (k : ℕ) (count : Count) → slice_get counts k ≡ Some count → sites_at counts (k + 1) ≡ count.sites
  sites_is k count at = (let place : k + 1 - 1 ≡ k = omega arith in rw (place, at) refl)
