use Rattle.std.proofs.Common.{◌≡◌, ◌++◌, take}
use Rattle.std.specs.List.{flat_map}
use Rattle.mk_spelling.specs.TableSpelling.{at_left}
use Rattle.mk_spelling.proofs.writing_properties.put_symbols.Given as goal

abbrev pub invariant-loop-symbol : goal.invariant-loop-symbol
invariant-loop-symbol l = l.out.items ≡ l.initial.out.items ++ flat_map (at_left 4) (take l.symbol-index l.symbols)
