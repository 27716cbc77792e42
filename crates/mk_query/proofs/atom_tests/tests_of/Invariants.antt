use Rattle.mk_query.specs.TestMarks.{AreTestsTo}
use Rattle.mk_query.proofs.atom_tests.tests_of.Given as goal

abbrev pub invariant-loop-i : goal.invariant-loop-i
invariant-loop-i l = AreTestsTo l.table l.i l.tests.items
