use Rattle.std.proofs.Common.{◌-◌, ◌<◌, ◌≤◌, length}
use Rattle.mk_model.specs.JointMembers.{members_below}
use Rattle.mk_model.proofs.query.Query.joint_member.Given as goal

abbrev pub invariant-loop-high : goal.invariant-loop-high
invariant-loop-high l = record {
  order : l.low < l.high;
  within : l.high ≤ length l.self.templates;
  least : members_below l.self l.labels l.low ≤ l.j;
  most : l.j < members_below l.self l.labels l.high;
}

abbrev pub decreases-loop-high : goal.decreases-loop-high
decreases-loop-high l = l.high - l.low
