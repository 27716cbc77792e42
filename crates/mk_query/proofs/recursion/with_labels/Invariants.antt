use Rattle.std.specs.Prelude.{◌==◌}
use Rattle.mk_query.proofs.RecursionLemmas.{HaveAlso}
use Rattle.mk_query.proofs.recursion.with_labels.Given as goal

abbrev pub invariant-loop-i : goal.invariant-loop-i
invariant-loop-i l = HaveAlso (λ h x. x == h) l.labels l.groups l.i l.all
