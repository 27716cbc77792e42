use Rattle.std.proofs.Common.{false}
use Rattle.mk_rings.proofs.RoundLemmas.{AreDoneFrom}
use Rattle.mk_rings.proofs.rounds.is_open.Given as goal

abbrev pub invariant-loop-i : goal.invariant-loop-i
invariant-loop-i l = AreDoneFrom l.bonds l.marks l.start l.kind l.numbers l.i false
