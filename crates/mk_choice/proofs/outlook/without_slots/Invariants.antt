use Rattle.std.proofs.Common.{◌++◌, List, drop}
use Rattle.mk_model.specs.declared.template.Slot.{Slot}
use Rattle.mk_choice.specs.Ahead.{HasRows, IsAhead}
use Rattle.mk_choice.proofs.outlook.without_slots.Given as goal

abbrev pub invariant-loop-slot : goal.invariant-loop-slot
invariant-loop-slot l = record {
  rows : HasRows l.ahead;
  ahead : (behind : List Slot) → IsAhead l.most (l.slots ++ behind) l.fn.ahead → IsAhead l.most (drop l.slot-index l.slots ++ behind) l.ahead;
}
