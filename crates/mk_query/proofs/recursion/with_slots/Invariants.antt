use Rattle.mk_model.specs.Labels.{bears_label}
use Rattle.mk_query.proofs.RecursionLemmas.{HaveAlso}
use Rattle.mk_query.proofs.recursion.with_slots.Given as goal

abbrev pub invariant-loop-i : goal.invariant-loop-i
invariant-loop-i l = HaveAlso (λ h slot. bears_label slot h) l.slots l.groups l.i l.all
