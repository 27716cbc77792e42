use Rattle.std.proofs.Common.{◌<◌, ℕ, get_or}
use Rattle.mk_model.specs.declared.graph.GraphAtom.{GraphAtom}
use Rattle.mk_model.specs.Tests.{IsTestInRange}
use Rattle.mk_fixtures.proofs.building.have_tests.Given as goal

abbrev pub invariant-loop-atom : goal.invariant-loop-atom
invariant-loop-atom l = (k : ℕ) (d : GraphAtom) → k < l.atom-index → IsTestInRange (get_or l.atoms k d).test
