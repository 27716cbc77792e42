use Rattle.std.proofs.Common.{◌≡◌, ◌++◌, ◌+◌, length, replicate}
use Rattle.mk_expand.specs.OpenGraphs.{loosened}
use Rattle.mk_expand.proofs.joining.put_copies.Given as goal

abbrev pub invariant-loop-j : goal.invariant-loop-j
invariant-loop-j l = l.out.items ≡ l.initial.out.items ++ loosened l.template l.pieces (length l.initial.out.items + 1) (replicate l._j (record { test = l.test; free = 0 }))
