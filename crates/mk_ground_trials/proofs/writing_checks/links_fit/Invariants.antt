use Rattle.std.proofs.Common.{All, take}
use Rattle.mk_spelling.specs.TableSpelling.{LinkFits}
use Rattle.mk_ground_trials.proofs.writing_checks.links_fit.Given as goal

abbrev pub invariant-loop-link : goal.invariant-loop-link
invariant-loop-link l = All LinkFits (take l.link-index l.links)
