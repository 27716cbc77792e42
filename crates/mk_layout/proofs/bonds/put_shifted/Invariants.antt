use Rattle.std.proofs.Common.{◌≡◌, ◌++◌, map, take}
use Rattle.mk_model.specs.Expansions.{shifted}
use Rattle.mk_layout.proofs.bonds.put_shifted.Given as goal

abbrev pub invariant-loop-bond : goal.invariant-loop-bond
invariant-loop-bond l = l.out.items ≡ l.initial.out.items ++ map (shifted l.before) (take l.bond-index l.bonds)
