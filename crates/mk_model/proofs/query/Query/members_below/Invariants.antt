use Rattle.std.proofs.Common.{◌≡◌, take}
use Rattle.mk_model.specs.JointMembers.{members_below}
use Rattle.mk_model.proofs.query.Query.members_below.Given as goal

abbrev pub invariant-loop-g : goal.invariant-loop-g
invariant-loop-g l = l.count ≡ members_below l.self (take l.g-index l.labels) l.u
