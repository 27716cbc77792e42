use Rattle.std.proofs.Common.{◌≡◌, ◌++◌, take}
use Rattle.std.specs.List.{flat_map}
use Rattle.mk_model.specs.Expansions.{drawn}
use Rattle.mk_layout.proofs.bonds.put_template_bonds.Given as goal

abbrev pub invariant-loop-bond : goal.invariant-loop-bond
invariant-loop-bond l = l.out.items ≡ l.initial.out.items ++ flat_map (drawn l.layout.template l.layout.pieces) (take l.bond-index l.layout.template.bonds)
