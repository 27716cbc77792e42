-- For the code: looks at screens by their places.
--     IsPostedAt screens need i       the screen at place i has each bit of the need
--     NoneCovers screens need low high      none from one place up to another does
--     IsFirstFrom screens need low i  the first from a place on that does
--     LooksTo screens need low high old new      looks at screens between two places, each at most
--                                                once, that have each bit of the need
--     IsOpen screens need low base rows      which of 64 screens have each bit of the need
use Rattle.std.specs.Prelude.{◌≡◌, ◌≤◌, ◌<◌, ◌+◌, ℕ, List, Option, Some, None, length, slice_index_or, IsTrue}
use Rattle.std.specs.Int.{bit_at}
use Rattle.mk_model.specs.declared.screen.Screen.{Screen}
use Rattle.mk_model.specs.Screens.{Covers, has_bit}
use Rattle.mk_index.specs.Postings.{CountsEach}

-- the screen has each bit of the need
abbrev pub HasBits : Screen → Screen → Type 0
HasBits held need = (b : ℕ) → b < 512 → IsTrue (has_bit need.bits b) → IsTrue (has_bit held.bits b)

-- the screen at place i has each bit of the need
abbrev pub IsPostedAt : List Screen → Screen → ℕ → Type 0
IsPostedAt screens need i = (i < length screens) × ((d : Screen) → HasBits (slice_index_or screens i d) need)

-- no screen from one place up to another covers the need
abbrev pub NoneCovers : List Screen → Screen → ℕ → ℕ → Type 0
NoneCovers screens need low high =
    (i : ℕ) (d : Screen) → low ≤ i → i < high → i < length screens → Covers (slice_index_or screens i d) need → ⊥

-- the screen at place i covers the need, and none before it does, from a place on
pub record IsFirstFrom (screens : List Screen) (need : Screen) (low i : ℕ) : Type 0 where
  pub not_below : low ≤ i
  pub within : i < length screens
  pub covers : (d : Screen) → Covers (slice_index_or screens i d) need
  pub none : NoneCovers screens need low i

-- between two places and with each bit of the need
abbrev pub IsLookedAt : List Screen → Screen → ℕ → ℕ → ℕ → Type 0
IsLookedAt screens need low high i = (low ≤ i) × (i < high) × IsPostedAt screens need i

-- the looks were at such screens, at each at most once
abbrev pub LooksTo : List Screen → Screen → ℕ → ℕ → ℕ → ℕ → Type 0
LooksTo screens need low high old new = CountsEach (IsLookedAt screens need low high) old new

-- behind the place that was found, or this one where none was
abbrev pub end_of : Option ℕ → ℕ → ℕ
end_of None all = all
end_of (Some i) all = i + 1

-- of the 64 screens from a place on, the word has those that aren't below `low` and have each bit
-- of the need
pub record IsOpen (screens : List Screen) (need : Screen) (low base rows : ℕ) : Type 0 where
  pub have : (k : ℕ) → k < 64 → base + k < length screens → bit_at rows k ≡ 1 → (low ≤ base + k) × IsPostedAt screens need (base + k)
  pub all : (k : ℕ) → k < 64 → base + k < length screens → low ≤ base + k → IsPostedAt screens need (base + k) → bit_at rows k ≡ 1
