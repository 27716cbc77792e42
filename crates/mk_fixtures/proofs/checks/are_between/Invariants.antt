use Rattle.std.proofs.Common.{take}
use Rattle.mk_model.specs.Edges.{AreBetween}
use Rattle.mk_fixtures.proofs.checks.are_between.Given as goal

abbrev pub invariant-loop-bond : goal.invariant-loop-bond
invariant-loop-bond l = AreBetween l.atoms (take l.bond-index l.bonds)
