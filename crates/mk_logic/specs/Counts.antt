-- The counts of the groups as a list, from group 1 on.
--     sites_at counts g       the sites of group g
--     filled_at counts g      those of them that are filled
--     is_asked groups counts g    no group names group g, or one that does has a filled site
use Rattle.std.specs.Prelude.{◌-◌, ◌==◌, ◌&&◌, ◌||◌, nat_lt, ℕ, Bool, not, List, Option, Some, None, slice_get, zip}
use Rattle.std.specs.List.{list_any}
use Rattle.mk_model.specs.declared.group.Group.{Group}
use Rattle.mk_model.specs.declared.query.Count.{Count}

-- the sites of group g
abbrev pub sites_at : List Count → ℕ → ℕ
sites_at counts g = sites (slice_get counts (g - 1))
  where
    sites : Option Count → ℕ
    sites None = 0
    sites (Some count) = count.sites

-- the filled sites of group g
abbrev pub filled_at : List Count → ℕ → ℕ
filled_at counts g = filled (slice_get counts (g - 1))
  where
    filled : Option Count → ℕ
    filled None = 0
    filled (Some count) = count.filled

-- no group names group g, or one that does has a filled site
abbrev pub is_asked : List Group → List Count → ℕ → Bool
is_asked groups counts g =
    not (list_any (λ group. group.then_group == g) groups)
    || list_any (λ (group, count). (group.then_group == g) && nat_lt 0 count.filled) (zip groups counts)
