use Rattle.std.proofs.Common.{◌≡◌, drop}
use Rattle.mk_query.specs.Compiled.{logic_for}
use Rattle.mk_query.proofs.query_groups.group_of.Given as goal

abbrev pub invariant-loop-i : goal.invariant-loop-i
invariant-loop-i l = logic_for l.g (drop l.i l.props) ≡ logic_for l.g l.props
