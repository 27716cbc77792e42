use Rattle.std.specs.Prelude.{◌≤◌, length, take, slice_index, IfSome}
use Rattle.mk_walk.specs.Outlook.{IsBeside}
use Rattle.mk_walk.proofs.OutlookLemmas.{IsLooking}
use Rattle.mk_walk.proofs.outlook.has_none.Given as goal

abbrev pub invariant-look : goal.invariant-look
invariant-look l =
    IsLooking l.graph l.mol l.first l.order l.chosen.items l.d l.above
    × IfSome l.anchor (λ a. (1 ≤ a) × (a ≤ length l.mol.atoms))
    × IfSome l.anchor (IsBeside l.graph l.mol l.first l.order (take l.d l.chosen.items) (slice_index l.order l.d))

abbrev pub decreases-look : goal.decreases-look
decreases-look l = l.left
