use Rattle.mk_query.proofs.GroupLemmas.{AreGroupsTo}
use Rattle.mk_query.proofs.query_groups.groups_of.Given as goal

abbrev pub invariant-loop-i : goal.invariant-loop-i
invariant-loop-i l = AreGroupsTo l.raw l.i l.groups.items
