use Rattle.std.proofs.Common.{◌+◌, ◌*◌}
use Rattle.mk_rings.specs.Rounds.{AllBelow, Grows}
use Rattle.mk_rings.proofs.RoundLemmas.{AreDone}
use Rattle.mk_rings.proofs.rounds.mark_round.Given as goal

abbrev pub invariant-loop-before : goal.invariant-loop-before
invariant-loop-before l = record {
  grows : Grows l.bonds l.fn.marks l.marks l.found;
  done : AreDone l.bonds l.marks l.before l.found;
  below_two : AllBelow (2 * l.before + 1) l.two;
  below_three : AllBelow (2 * l.before + 1) l.three;
}
