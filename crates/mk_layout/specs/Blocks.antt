-- For the code: the blocks of all links at once, by labels of atoms.
--     stays slot bond           the bond stays where those from a link to the two neighbours that
--                               it names are taken away
--     stay slots bond           it stays where those of all links are
--     merged old new label      the label where `new` takes the place of `old`
--     AreLabels bonds labels    two atoms have one label exactly where they hang together
--     takes labels slot x       the slot takes atom x, by the labels
--     taken_by number taker t   the slot that takes an atom, after one slot more
use Rattle.std.specs.Prelude.{◌≡◌, ◌<◌, ◌-◌, ◌+◌, ◌==◌, ◌&&◌, ◌||◌, not, ℕ, Bool, true, List, length, slice_index, if◌then◌else◌}
use Rattle.std.specs.List.{list_all}
use Rattle.mk_model.specs.declared.template.QueryBond.{QueryBond}
use Rattle.mk_model.specs.declared.template.Slot.{Slot}
use Rattle.mk_model.specs.declared.template.Slot.TheVariants.{Link, Site}
use Rattle.mk_model.specs.Templates.{hang_together, joins}

-- the bond stays where those from a link to the two neighbours that it names are taken away
abbrev pub stays : Slot → QueryBond → Bool
stays (Link atom most from to) bond = not (joins atom from bond || joins atom to bond)
stays (Site atom groups first second) bond = true

-- the bond stays where those of all links are taken away
abbrev pub stay : List Slot → QueryBond → Bool
stay slots bond = list_all (λ slot. stays slot bond) slots

-- the label where `new` takes the place of `old`
abbrev pub merged : ℕ → ℕ → ℕ → ℕ
merged old new label = if label == old then new else label

-- two atoms have one label exactly where they hang together
abbrev pub AreLabels : List QueryBond → List ℕ → Type 0
AreLabels bonds labels =
    (i j : ℕ) → i < length labels → j < length labels → (slice_index labels i == slice_index labels j) ≡ hang_together bonds (i + 1) (j + 1)

-- the slot takes atom x: it stands there, or it is a link with the label of x
abbrev pub takes : List ℕ → Slot → ℕ → Bool
takes labels (Link atom most from to) x = (atom == x) || (slice_index labels (atom - 1) == slice_index labels (x - 1))
takes labels (Site atom groups first second) x = atom == x

-- the slot that takes an atom, where it was `taker` so far and the slot of this number takes it or
-- doesn't
abbrev pub taken_by : ℕ → ℕ → Bool → ℕ
taken_by number taker takes = if (taker == 0) && takes then number else taker
