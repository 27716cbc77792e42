use Rattle.std.proofs.Common.{take}
use Rattle.mk_demands.specs.Values.{AreForAtoms}
use Rattle.mk_demands.proofs.values.are_for_atoms.Given as goal

abbrev pub invariant-loop-pair : goal.invariant-loop-pair
invariant-loop-pair l = AreForAtoms l.atoms (take l.pair-index l.pairs)
