use Rattle.mk_drill.proofs.LibraryLemmas.{AreLoaded}
use Rattle.mk_drill.proofs.drilled_records.drilled_library.Given as goal

abbrev pub invariant-loop-n : goal.invariant-loop-n
invariant-loop-n l = AreLoaded l.start l.n l.library l.draws.state
