use Rattle.std.proofs.Common.{◌≡◌, map, take}
use Rattle.mk_demands.specs.Numbers.{natural}
use Rattle.mk_query.proofs.element_kinds.numbered_elements.Given as goal

abbrev pub invariant-loop-i : goal.invariant-loop-i
invariant-loop-i l = l.elements ≡ map natural (take l.i l.numbers)
