use Rattle.std.proofs.Common.{◌≡◌, ◌++◌, ◌+◌, length, take}
use Rattle.mk_expand.specs.OpenGraphs.{loosened}
use Rattle.mk_expand.proofs.joining.put_part.Given as goal

abbrev pub invariant-loop-atom : goal.invariant-loop-atom
invariant-loop-atom l = l.out.items ≡ l.initial.out.items ++ loosened l.template l.pieces (length l.initial.out.items + 1) (take l.atom-index l.atoms)
