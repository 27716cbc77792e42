use Rattle.std.proofs.Common.{take, All}
use Rattle.mk_query.specs.Checks.{IsElementName}
use Rattle.mk_query.proofs.lists.are_symbols.Given as goal

abbrev pub invariant-loop-symbol : goal.invariant-loop-symbol
invariant-loop-symbol l = All IsElementName (take l.symbol-index l.symbols)
