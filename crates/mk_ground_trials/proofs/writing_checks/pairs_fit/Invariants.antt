use Rattle.std.proofs.Common.{All, take}
use Rattle.mk_spelling.specs.TableSpelling.{PairFits}
use Rattle.mk_ground_trials.proofs.writing_checks.pairs_fit.Given as goal

abbrev pub invariant-loop-pair : goal.invariant-loop-pair
invariant-loop-pair l = All PairFits (take l.pair-index l.pairs)
