use Rattle.std.proofs.Common.{◌≡◌, ◌++◌, take}
use Rattle.std.specs.List.{flat_map}
use Rattle.mk_text.specs.Lines.{ended}
use Rattle.mk_spelling.specs.TableSpelling.{bond_line}
use Rattle.mk_spelling.proofs.writing.put_bonds.Given as goal

abbrev pub invariant-loop-bond : goal.invariant-loop-bond
invariant-loop-bond l = l.out.items ≡ l.initial.out.items ++ flat_map (λ bond. ended (bond_line bond)) (take l.bond-index l.bonds)
