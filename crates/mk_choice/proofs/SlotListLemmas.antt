-- Lists of slots that are lent.
--     put_is      a slot that is put at a place
use Rattle.std.proofs.Common.{◌≡◌, ℕ, List, map, set, Option, Some}
use Rattle.std.specs.Borrow.{Bor}
use Rattle.std.proofs.lemmas.List.{map-set}
use Rattle.mk_model.specs.declared.template.Slot.{Slot}
use Rattle.mk_choice.specs.SlotLists.{slot_put}

-- a slot that is put at a place
pub put_is : (items : List (Option (Bor Slot))) (i : ℕ) (slot : Bor Slot) → map slot_put (set items i (Some slot)) ≡ set (map slot_put items) i slot.now
put_is items i slot = map-set slot_put items i (Some slot)
