-- For the code: slots that are lent, as they are.
--     slot_put place      the slot that stands at a place of a list
use Rattle.std.specs.Prelude.{Option, Some, None}
use Rattle.std.specs.Borrow.{Bor}
use Rattle.mk_model.specs.declared.template.Slot.{Slot}
use Rattle.mk_model.specs.declared.template.Slot.TheVariants.{Link}

-- the slot that stands at a place; where nothing was put yet, a link that may not stand
abbrev pub slot_put : Option (Bor Slot) → Slot
slot_put None = Link 0 0 0 0
slot_put (Some slot) = slot.now
