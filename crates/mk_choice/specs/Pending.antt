-- For the code: the slots that are still open, as one list.
--     open_slots pending     these slots, in the order in which numbers are chosen for them
use Rattle.std.specs.Prelude.{List, [], ◌++◌}
use Rattle.mk_model.specs.declared.template.Slot.{Slot}
use Rattle.mk_choice.specs.declared.pending.Pending.{Pending, Nothing, Slots'}

-- the open slots, in the order in which numbers are chosen for them
abbrev pub open_slots : Pending → List Slot
open_slots Nothing = []
open_slots (Slots' slots p behind) = slots.now ++ open_slots behind
