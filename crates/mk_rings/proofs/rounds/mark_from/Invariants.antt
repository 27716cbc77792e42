use Rattle.mk_rings.specs.Rounds.{Grows}
use Rattle.mk_rings.proofs.RoundLemmas.{AreDoneFrom}
use Rattle.mk_rings.proofs.rounds.mark_from.Given as goal

abbrev pub invariant-loop-i : goal.invariant-loop-i
invariant-loop-i l = record {
  grows : Grows l.bonds l.fn.marks l.marks l.some_marked;
  done : AreDoneFrom l.bonds l.marks l.start l.kind l.numbers l.i l.some_marked;
}
