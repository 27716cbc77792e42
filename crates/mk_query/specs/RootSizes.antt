-- For code alone: sizes up to 512, told apart from all that are greater.
--     capped n                     n, or 513 where it is above 512
--     own_size template            what a template adds by itself: its fixed atoms and its links
--     site_size f slot             what a site adds, where f g is the greatest size in group g
--     greatest_at query n g        the greatest size in group g, where no chain is longer than n
--     AreGreatest query n list     the list has them, capped
use Rattle.std.specs.Prelude.{◌≡◌, ◌<◌, ◌+◌, ◌-◌, ◌*◌, ℕ, max, min, List, length, slice_index_or, count_by, sum_by, slice_get, Some}
use Rattle.mk_model.specs.declared.template.Slot.{Slot}
use Rattle.mk_model.specs.declared.template.Slot.TheVariants.{Link, Site}
use Rattle.mk_model.specs.Queries.{QueryView, members_of, slots_of}
use Rattle.mk_model.specs.Sizes.{atom_numbers, greatest, is_fixed}
use Rattle.mk_model.specs.SizesWithin.{size_within}
use Rattle.mk_model.specs.Templates.{TemplateView, is_in_block, neighbour_count}

-- n, or 513 where it is above 512
abbrev pub capped : ℕ → ℕ
capped n = min n 513

-- what a link adds: 1, and its greatest length for each atom of its block
abbrev pub link_size : TemplateView → Slot → ℕ
link_size template (Link atom most from to) = 1 + most * count_by (is_in_block template (Link atom most from to)) (atom_numbers template)
link_size template (Site atom groups first second) = 0

-- what a template adds by itself: its fixed atoms and its links
abbrev pub own_size : TemplateView → ℕ
own_size template = count_by (is_fixed template) (atom_numbers template) + sum_by (link_size template) template.slots

-- what a site adds: 1, and the greatest size in a group of its labels or the number of its
-- neighbours
abbrev pub site_size : (ℕ → ℕ) → Slot → ℕ
site_size f (Link atom most from to) = 0
site_size f (Site atom groups first second) = 1 + max (greatest f groups) (neighbour_count (Site atom groups first second))

-- what the sites add
abbrev pub sites_size : (ℕ → ℕ) → List Slot → ℕ
sites_size f slots = sum_by (site_size f) slots

-- the greatest size in group g, where no chain is longer than n
abbrev pub greatest_at : QueryView → ℕ → ℕ → ℕ
greatest_at query n g = greatest (size_within n query) (members_of query g)

-- the number of group g in a list from group 1 on
abbrev pub of_group : List ℕ → ℕ → ℕ
of_group list g = slice_index_or list (g - 1) 0

-- the greatest sizes in the groups, capped
pub record AreGreatest (query : QueryView) (n : ℕ) (list : List ℕ) : Type 0 where
  pub size : length list ≡ 32
  pub each : (g : ℕ) → g < 32 → slice_index_or list g 0 ≡ capped (greatest_at query n (g + 1))

-- the own sizes of templates, capped
pub record AreOwnSizes (templates : List TemplateView) (list : List ℕ) : Type 0 where
  pub size : length list ≡ length templates
  pub each : (t : ℕ) (template : TemplateView) → slice_get templates t ≡ Some template → slice_index_or list t 0 ≡ capped (own_size template)

-- the size of table u by these lists, capped
abbrev pub size_by_lists : QueryView → List ℕ → List ℕ → ℕ → ℕ
size_by_lists query own greatest u = capped (slice_index_or own u 0 + capped (sites_size (of_group greatest) (slots_of query u)))
