use Rattle.std.proofs.Common.{◌≡◌, take}
use Rattle.mk_query.specs.Drawn.{query_bonds}
use Rattle.mk_query.proofs.drawn_bonds.query_bonds_of.Given as goal

abbrev pub invariant-loop-bond : goal.invariant-loop-bond
invariant-loop-bond l = l.list.items ≡ query_bonds (take l.bond-index l.bonds)
