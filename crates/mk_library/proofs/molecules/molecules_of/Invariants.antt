use Rattle.std.proofs.Common.{length}
use Rattle.mk_library.proofs.StepsLemmas.{IsPart}
use Rattle.mk_library.proofs.molecules.molecules_of.Given as goal

abbrev pub invariant-loop-raw : goal.invariant-loop-raw
invariant-loop-raw l = IsPart l.initial.records.rest.items l.records.rest.items l.number l.texts.items l.mols.items

abbrev pub decreases-loop-raw : goal.decreases-loop-raw
decreases-loop-raw l = length l.records.rest.items
