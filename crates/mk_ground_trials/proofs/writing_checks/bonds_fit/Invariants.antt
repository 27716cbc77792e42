use Rattle.std.proofs.Common.{All, take}
use Rattle.mk_spelling.specs.TableSpelling.{BondFits}
use Rattle.mk_ground_trials.proofs.writing_checks.bonds_fit.Given as goal

abbrev pub invariant-loop-bond : goal.invariant-loop-bond
invariant-loop-bond l = All BondFits (take l.bond-index l.bonds)
