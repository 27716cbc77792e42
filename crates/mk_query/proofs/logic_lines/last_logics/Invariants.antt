use Rattle.mk_query.specs.LogicSearch.{AreLastLogics}
use Rattle.mk_query.proofs.logic_lines.last_logics.Given as goal

abbrev pub invariant-loop-i : goal.invariant-loop-i
invariant-loop-i l = AreLastLogics l.props l.i l.last.items
