-- For the code: how often a group can be filled at most at some slots, whatever is chosen there.
--     bound_in most h g           the bound for groups h and g in a list of 32 rows of 32 numbers
--     most_filled bound slots g   at these slots group g is filled at most so often
--     IsBound query bound         a filled site of group h fills group g at most so often, with all
--                                 that stands inside
--     AreBounds query most        the list holds such bounds
--     Misses range filled more    the range holds no number from what is filled to what can be
use Rattle.std.specs.Prelude.{◌≡◌, ◌≤◌, ◌<◌, ◌+◌, ◌-◌, ◌*◌, ◌==◌, ◌||◌, ◌⊎◌, nat_lt, ℕ, Bool, List, length, sum_by, Contains, slice_index, IsTrue, if◌then◌else◌}
use Rattle.std.specs.List.{list_all}
use Rattle.mk_model.specs.declared.group.Interval.{Interval}
use Rattle.mk_model.specs.declared.template.Slot.{Slot}
use Rattle.mk_model.specs.Labels.{site_labels}
use Rattle.mk_model.specs.Queries.{QueryView, slots_of, members_of}
use Rattle.mk_model.specs.Sizes.{greatest}

-- the bound for groups h and g
abbrev pub bound_in : List ℕ → ℕ → ℕ → ℕ
bound_in most h g = slice_index most ((h - 1) * 32 + (g - 1))

-- at one slot group g is filled at most so often: as often as by a member of that label by which
-- it is filled most often
abbrev pub most_filled_at : (ℕ → ℕ → ℕ) → ℕ → Slot → ℕ
most_filled_at bound g slot = greatest (λ h. bound h g) (site_labels slot)

-- at these slots group g is filled at most so often
abbrev pub most_filled : (ℕ → ℕ → ℕ) → List Slot → ℕ → ℕ
most_filled bound slots g = sum_by (most_filled_at bound g) slots

-- A filled site of group h fills group g at most so often: once where h is g, and as often as the
-- slots of the member do. A bound above 512 says nothing.
abbrev pub IsBound : QueryView → (ℕ → ℕ → ℕ) → Type 0
IsBound query bound =
    (h g u : ℕ) → 1 ≤ g → g ≤ 32 → bound h g ≤ 512 → Contains (members_of query h) u
    → (if h == g then 1 else 0) + most_filled bound (slots_of query u) g ≤ bound h g

-- the bound for groups h + 1 and g + 1 is as great as each member of group h + 1 asks for
abbrev pub IsBoundFor : QueryView → List ℕ → ℕ → ℕ → Type 0
IsBoundFor query most h g =
    (u : ℕ) → slice_index most (h * 32 + g) ≤ 512 → Contains (members_of query (h + 1)) u
    → (if h + 1 == g + 1 then 1 else 0) + most_filled (bound_in most) (slots_of query u) (g + 1) ≤ slice_index most (h * 32 + g)

-- the bounds for group h + 1 and each other group are
abbrev pub IsRowOfBounds : QueryView → List ℕ → ℕ → Type 0
IsRowOfBounds query most h = (g : ℕ) → g < 32 → IsBoundFor query most h g

-- 32 rows of 32 numbers, none above 513, are bounds of the query
pub record AreBounds (query : QueryView) (most : List ℕ) : Type 0 where
  pub rows : length most ≡ 1024
  pub bounds : IsBound query (bound_in most)
  pub capped : (i : ℕ) → slice_index most i ≤ 513

-- the interval ends below these two numbers, or begins above them
abbrev pub lies_apart : ℕ → ℕ → Interval → Bool
lies_apart low high interval = nat_lt interval.most low || nat_lt high interval.least

-- Where so many sites are filled and so many more can be, the range is missed: each interval ends
-- below what is filled, or it begins above all that can be. A number above 512 of what can be says
-- nothing.
abbrev pub Misses : List Interval → ℕ → ℕ → Type 0
Misses range filled more =
    IsTrue (list_all (λ interval. nat_lt interval.most filled) range)
    ⊎ ((more ≤ 512) × IsTrue (list_all (lies_apart filled (filled + more)) range))
