use Rattle.std.proofs.Common.{All, take}
use Rattle.mk_spelling.specs.TableSpelling.{ListFits}
use Rattle.mk_ground_trials.proofs.writing_checks.lists_fit.Given as goal

abbrev pub invariant-loop-list : goal.invariant-loop-list
invariant-loop-list l = All ListFits (take l.list-index l.lists)
