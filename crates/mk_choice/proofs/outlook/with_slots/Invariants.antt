use Rattle.std.proofs.Common.{◌≤◌, ◌++◌, List, length, take}
use Rattle.mk_model.specs.declared.template.Slot.{Slot}
use Rattle.mk_choice.specs.Ahead.{HasRows, IsAhead}
use Rattle.mk_choice.proofs.outlook.with_slots.Given as goal

abbrev pub invariant-loop-slot : goal.invariant-loop-slot
invariant-loop-slot l = record {
  rows : HasRows l.ahead;
  ahead : (behind : List Slot) → length (l.slots ++ behind) ≤ 512 → IsAhead l.most behind l.fn.ahead → IsAhead l.most (take l.slot-index l.slots ++ behind) l.ahead;
}
