use Rattle.std.proofs.Common.{◌+◌, ◌-◌, ◌*◌, ◌≤◌, length, take}
use Rattle.mk_model.specs.Queries.{slots_of}
use Rattle.mk_open_codes.specs.Passing.{PassesBy}
use Rattle.mk_open_codes.proofs.slots.+passing.Given as goal

abbrev pub decreases-behind_template : goal.decreases-behind_template
decreases-behind_template l = 2 * (length l.front.now - l.at) + 1

abbrev pub decreases-behind_slot : goal.decreases-behind_slot
decreases-behind_slot l = 2 * (length l.front.now - l.at)

abbrev pub invariant-behind_template-loop-slot : goal.invariant-behind_template-loop-slot
invariant-behind_template-loop-slot l = (l.at ≤ l.next) × PassesBy l.query (take l.slot-index (slots_of l.query l.t)) l.front l.at l.next
