use Rattle.std.proofs.Common.{◌+◌, ◌-◌, ◌*◌, ◌≤◌, length, drop}
use Rattle.mk_model.specs.Queries.{slots_of}
use Rattle.mk_expand.proofs.ChosenLemmas.{Left}
use Rattle.mk_expand.proofs.choosing.+opening.Given as goal

abbrev pub decreases-opened_by : goal.decreases-opened_by
decreases-opened_by l = 3 * (length l.code.now - l.at) + 2

abbrev pub decreases-open_chosen : goal.decreases-open_chosen
decreases-open_chosen l = 3 * (length l.code.now - l.at) + 1

abbrev pub decreases-open_chosen_at : goal.decreases-open_chosen_at
decreases-open_chosen_at l = 3 * (length l.code.now - l.at)

abbrev pub invariant-open_chosen-loop-slot : goal.invariant-open_chosen-loop-slot
invariant-open_chosen-loop-slot l = (l.at ≤ l.next) × (l.next ≤ length l.code) × Left l.query (slots_of l.query l.t) l.slot-index (drop l.at l.code) (drop l.next l.code) l.pieces.items l.one_ended
