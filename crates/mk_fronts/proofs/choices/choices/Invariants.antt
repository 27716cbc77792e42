use Rattle.mk_fronts.proofs.ToldLemmas.{AreChoicesTo}
use Rattle.mk_fronts.proofs.choices.choices.Given as goal

abbrev pub invariant-loop-slot : goal.invariant-loop-slot
invariant-loop-slot l = AreChoicesTo l.query l.slot l.most.items
