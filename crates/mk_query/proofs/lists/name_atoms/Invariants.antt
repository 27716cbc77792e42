use Rattle.std.proofs.Common.{take, All}
use Rattle.mk_tables.specs.declared.raw.RawList.{RawList}
use Rattle.mk_demands.specs.Numbers.{IsAtom}
use Rattle.mk_query.proofs.lists.name_atoms.Given as goal

abbrev pub invariant-loop-list : goal.invariant-loop-list
invariant-loop-list l = All (λ (list : RawList). IsAtom l.atoms list.atom) (take l.list-index l.lists)
