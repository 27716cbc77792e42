use Rattle.std.proofs.Common.{All, take}
use Rattle.mk_spelling.specs.TableSpelling.{FitsThree}
use Rattle.mk_ground_trials.proofs.writing_checks.numbers_fit.Given as goal

abbrev pub invariant-loop-number : goal.invariant-loop-number
invariant-loop-number l = All FitsThree (take l.number-index l.numbers)
