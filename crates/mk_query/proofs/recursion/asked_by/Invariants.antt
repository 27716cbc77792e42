use Rattle.std.specs.List.{list_any}
use Rattle.mk_model.specs.Labels.{bears_label}
use Rattle.mk_model.specs.Queries.{slots_of}
use Rattle.mk_query.proofs.RecursionLemmas.{HaveAlso}
use Rattle.mk_query.proofs.recursion.asked_by.Given as goal

abbrev pub invariant-loop-i : goal.invariant-loop-i
invariant-loop-i l = HaveAlso (λ h u. list_any (λ slot. bears_label slot h) (slots_of l.draft u)) l.members 0 l.i l.all
