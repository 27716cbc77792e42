use Rattle.std.proofs.Common.{take}
use Rattle.mk_spelling.proofs.GraphicLemmas.{AllFit}
use Rattle.mk_ground_trials.proofs.writing_checks.properties_fit.Given as goal

abbrev pub invariant-loop-property : goal.invariant-loop-property
invariant-loop-property l = AllFit (take l.property-index l.properties)
