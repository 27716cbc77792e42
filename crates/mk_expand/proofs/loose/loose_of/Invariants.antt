use Rattle.mk_expand.proofs.LooseLemmas.{LooseLeft}
use Rattle.mk_expand.proofs.loose.loose_of.Given as goal

abbrev pub invariant-loop-bond : goal.invariant-loop-bond
invariant-loop-bond l = LooseLeft l.layout.template l.layout.pieces l.bond-index l.loose.items
