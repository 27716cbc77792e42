use Rattle.std.proofs.Common.{take}
use Rattle.mk_query.specs.Compiled.{NameElements}
use Rattle.mk_query.proofs.element_kinds.named_elements.Given as goal

abbrev pub invariant-loop-symbol : goal.invariant-loop-symbol
invariant-loop-symbol l = NameElements (take l.symbol-index l.symbols) l.elements
