use Rattle.mk_layout.proofs.BlockLemmas.{TakersLeft}
use Rattle.mk_layout.proofs.blocks.takers_of.Given as goal

abbrev pub invariant-loop-k : goal.invariant-loop-k
invariant-loop-k l = TakersLeft l.template l.k l.takers.items
