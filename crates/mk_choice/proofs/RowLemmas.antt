-- Bounds, row by row.
--     rows_all        where each row is one of bounds, all are bounds
--     are_bounds      all that is kept of bounds
--     nothing_said    numbers that say nothing are bounds
use Rattle.std.proofs.Common.{◌≡◌, ℕ, zero, suc, ◌+◌, ◌-◌, ◌*◌, ◌<◌, ◌≤◌, inl, inr, Bool, true, false, cond, List, [], length, replicate, Option, Some, None, refl, sym, arith}
use Rattle.std.specs.Prelude.{◌==◌, Contains, slice_get, slice_index}
use Rattle.std.proofs.lemmas.Bool.{cases_lt}
use Rattle.std.proofs.lemmas.List.{get_or_past}
use Rattle.std.proofs.lemmas.Bool.Decides.{nat_tests}
use Rattle.mk_model.specs.declared.group.Group.{Group}
use Rattle.mk_model.specs.Queries.{QueryView, slots_of, members_of}
use Rattle.mk_model.proofs.ForCallers.{place_within}
use Rattle.mk_choice.specs.Bounds.{AreBounds, IsBound, IsRowOfBounds, bound_in, most_filled}

-- a group beyond the last has no member
no_members : (query : QueryView) (h u : ℕ) → length query.groups ≤ h - 1 → Contains (members_of query h) u → ⊥
no_members query h u beyond at = by_group (slice_get query.groups (h - 1)) refl
  where
    by_group : (o : Option Group) → slice_get query.groups (h - 1) ≡ o → ⊥
    by_group None e = (let at' : Contains [] u = rw e at at in omega (arith, at'.1))
    by_group (Some group) e = omega (arith, beyond, place_within query.groups (h - 1) group e)

module _ (query : QueryView) (most : List ℕ) where
  -- the bound of a row and a column
  in_row : (k : ℕ) → IsRowOfBounds query most k → (g u : ℕ) → 1 ≤ g → g ≤ 32 → slice_index most (k * 32 + (g - 1)) ≤ 512 → Contains (members_of query (k + 1)) u
      → cond (k + 1 == g) 1 0 + most_filled (bound_in most) (slots_of query u) g ≤ slice_index most (k * 32 + (g - 1))
  in_row k row g u low high small within =
      let back : g - 1 + 1 ≡ g = omega (arith, low) in
      rw back at (row (g - 1) (omega (arith, low, high)) u small within)

  -- a group's own number counts, or it doesn't
  less_own : (g n m : ℕ) → 1 ≤ g → cond (1 == g) 1 0 + n ≤ m → cond (0 == g) 1 0 + n ≤ m
  less_own g n m low le = by_test (0 == g) refl
    where
      by_test : (b : Bool) → (0 == g) ≡ b → cond b 1 0 + n ≤ m
      by_test true e = absurd (let same : 0 ≡ g = grind (arith, nat_tests) in omega (arith, same, low))
      by_test false e = omega (arith, le)

  pub rows_all : length query.groups ≡ 32 → (n : ℕ) → length query.groups ≤ n → ((k : ℕ) → k < n → IsRowOfBounds query most k) → IsBound query (bound_in most)
  rows_all all n enough rows zero g u low high small within = less_own g _ _ low (in_row 0 (rows 0 (omega (arith, all, enough))) g u low high small within)
  rows_all all n enough rows (suc h) g u low high small within =
      let place : suc h - 1 ≡ h = omega arith in
      let next : h + 1 ≡ suc h = omega arith in
      elim (cases_lt h n) [
        | inl below ↦ rw (place, sym next) (in_row h (rows h below) g u low high (rw place at small) (rw (sym next) at within))
        | inr beyond ↦ absurd (no_members query (suc h) u (omega (arith, beyond, enough)) within)
      ]

  -- bounds that say nothing
  none_bounds : length query.groups ≡ 32 → ((i : ℕ) → i < 1024 → slice_index most i ≡ 513) → IsBound query (bound_in most)
  none_bounds all none h g u low high small within =
      elim (cases_lt (h - 1) 32) [
        | inl below ↦ absurd (omega (arith, none ((h - 1) * 32 + (g - 1)) (omega (arith, below, low, high)), small))
        | inr beyond ↦ absurd (no_members query h u (omega (arith, all, beyond)) within)
      ]

  -- ---- all that is kept of them

  pub are_bounds : length most ≡ 1024 → ((i : ℕ) → slice_index most i ≤ 513) → IsBound query (bound_in most) → AreBounds query most
  are_bounds rows capped bounds = record { rows = rows; bounds = bounds; capped = capped }

  pub nothing_said : length query.groups ≡ 32 → length most ≡ 1024 → ((i : ℕ) → i < 1024 → slice_index most i ≡ 513) → AreBounds query most
  nothing_said all rows none = record { rows = rows; bounds = none_bounds all none; capped = λ i. by_place i }
    where
      by_place : (i : ℕ) → slice_index most i ≤ 513
      by_place i =
          elim (cases_lt i 1024) [
            | inl below ↦ omega (arith, none i below)
            | inr beyond ↦ omega (arith, get_or_past most i 0 (omega (arith, rows, beyond)))
          ]

-- no bound is above 513 where all are 0
pub none_at : (n i : ℕ) → slice_index (replicate n 0) i ≤ 513
none_at zero i = omega arith
none_at (suc n) zero = omega arith
none_at (suc n) (suc i) = none_at n i
