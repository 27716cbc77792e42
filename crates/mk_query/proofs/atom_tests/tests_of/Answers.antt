use Rattle.std.proofs.Common.{ap, arith, length}
use Rattle.mk_query.proofs.TestLemmas.{tests_all, tests_more, tests_none}
use Rattle.mk_query.proofs.atom_tests.tests_of.Goals as goal

pub loop-i-preserved : goal.loop-i-preserved
loop-i-preserved c = rw c.in_ok-push.ensures.items (tests_more c.args.table.now c.loop-i.i c.loop-i.tests.items c.in_ok-test.test c.in_ok-test.ensures c.loop-i.invariant)

pub loop-i-init : goal.loop-i-init
loop-i-init c = tests_none c.args.table.now c.in_ok-tests.tests.items c.in_ok-tests.ensures.items

pub returns : goal.returns
returns c = tests_all c.args.table.now c.loop-i.i c.loop-i.tests.items (omega (arith, ap length c.as_slice-atoms.ensures)) c.loop-i.invariant
