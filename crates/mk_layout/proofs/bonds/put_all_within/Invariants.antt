use Rattle.std.proofs.Common.{◌≡◌, ◌++◌, drop}
use Rattle.mk_model.specs.Expansions.{all_within}
use Rattle.mk_layout.proofs.bonds.put_all_within.Given as goal

abbrev pub invariant-loop-k : goal.invariant-loop-k
invariant-loop-k l =
    l.out.items ++ all_within l.layout.template l.layout.pieces (drop l.k l.layout.template.slots) (drop l.k l.layout.pieces)
    ≡ l.initial.out.items ++ all_within l.layout.template l.layout.pieces l.layout.template.slots l.layout.pieces
