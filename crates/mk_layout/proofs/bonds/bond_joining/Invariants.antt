use Rattle.std.proofs.Common.{◌≡◌, drop}
use Rattle.mk_model.specs.Expansions.{bond_joining}
use Rattle.mk_layout.proofs.bonds.bond_joining.Given as goal

abbrev pub invariant-loop-bond : goal.invariant-loop-bond
invariant-loop-bond l = bond_joining (drop l.bond-index l.bonds) l.x l.y ≡ bond_joining l.bonds l.x l.y
