use Rattle.std.proofs.Common.{◌≡◌, ◌≤◌, ◌++◌, drop, length}
use Rattle.mk_choice.proofs.slot_list.SlotList.put_in_front.Given as goal

abbrev pub invariant-loop-left : goal.invariant-loop-left
invariant-loop-left l = record {
  size : length l.self ≡ length l.fn.self;
  left : l.left ≤ length l.slots;
  at : l.left ≤ l.at;
  within : l.at ≤ length l.self;
  put : drop l.at l.self ≡ drop l.left l.slots ++ drop l.first l.fn.self;
}

abbrev pub decreases-loop-left : goal.decreases-loop-left
decreases-loop-left l = l.left
