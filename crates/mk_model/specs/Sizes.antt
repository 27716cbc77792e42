-- The size of a template: how many atoms and slots there can be where it stands.
--     is_fixed template x         no slot takes the atom: it stands once, whatever is chosen
--     size_of_slot query size template slot     what a slot adds, where the templates have these
--                                               sizes
--     IsSizing query size         each template has the size that its atoms and slots add up to
use Rattle.std.specs.Prelude.{◌≡◌, ◌+◌, ◌*◌, ◌==◌, ◌||◌, ℕ, Bool, not, max, List, [], ◌∷◌, Some, length, count_by, sum_by, slice_get}
use Rattle.std.specs.List.{list_any, range_with_len}
use Rattle.mk_model.specs.declared.template.Slot.{Slot}
use Rattle.mk_model.specs.declared.template.Slot.TheVariants.{Link, Site}
use Rattle.mk_model.specs.Templates.{TemplateView, slot_atom, neighbour_count, is_in_block}
use Rattle.mk_model.specs.Queries.{QueryView}
use Rattle.mk_model.specs.Labels.{members_at}

-- the numbers of a template's atoms
abbrev pub atom_numbers : TemplateView → List ℕ
atom_numbers template = range_with_len 1 (length template.atoms)

-- the slot stands at the atom, or is a link in whose block it is
abbrev pub takes_atom : TemplateView → ℕ → Slot → Bool
takes_atom template x slot = (slot_atom slot == x) || is_in_block template slot x

-- a fixed atom: no slot takes it, so it stands once, whatever is chosen
abbrev pub is_fixed : TemplateView → ℕ → Bool
is_fixed template x = not (list_any (takes_atom template x) template.slots)

-- the greatest of the sizes of some templates, 0 where there are none
abbrev pub greatest : (ℕ → ℕ) → List ℕ → ℕ
greatest size [] = 0
greatest size (t ∷ others) = max (size t) (greatest size others)

-- A slot adds 1, and more: a link its greatest length for each atom of its block, a site the
-- greatest size of a member or the number of its own neighbours, whichever is greater.
abbrev pub size_of_slot : QueryView → (ℕ → ℕ) → TemplateView → Slot → ℕ
size_of_slot query size template (Link atom most from to) =
    1 + most * count_by (is_in_block template (Link atom most from to)) (atom_numbers template)
size_of_slot query size template (Site atom groups first second) =
    1 + max (greatest size (members_at query (Site atom groups first second))) (neighbour_count (Site atom groups first second))

-- the size of a template: 1 for each fixed atom, and what its slots add
abbrev pub size_by : QueryView → (ℕ → ℕ) → TemplateView → ℕ
size_by query size template = count_by (is_fixed template) (atom_numbers template) + sum_by (size_of_slot query size template) template.slots

-- Each template has the size that its atoms and slots add up to. Where no template uses itself
-- there is just one sizing.
abbrev pub IsSizing : QueryView → (ℕ → ℕ) → Type 0
IsSizing query size = (t : ℕ) (template : TemplateView) → slice_get query.templates t ≡ Some template → size t ≡ size_by query size template
