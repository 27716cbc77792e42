use Rattle.std.proofs.Common.{◌<◌, ℕ, get_or}
use Rattle.mk_model.specs.declared.graph.GraphBond.{GraphBond}
use Rattle.mk_model.specs.Tests.{IsBondInRange}
use Rattle.mk_fixtures.proofs.building.have_bond_tests.Given as goal

abbrev pub invariant-loop-bond : goal.invariant-loop-bond
invariant-loop-bond l = (k : ℕ) (d : GraphBond) → k < l.bond-index → IsBondInRange (get_or l.bonds k d).kind (get_or l.bonds k d).topology
