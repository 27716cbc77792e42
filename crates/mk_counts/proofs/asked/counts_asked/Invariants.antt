use Rattle.std.specs.Prelude.{All}
use Rattle.mk_counts.specs.Asked.{IsAsked}
use Rattle.mk_counts.proofs.asked.counts_asked.Given as goal

abbrev pub invariant-loop-atom : goal.invariant-loop-atom
invariant-loop-atom l = All (IsAsked l.graph) l.elements.items
