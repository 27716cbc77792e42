use Rattle.std.proofs.Common.{◌≡◌, map, take}
use Rattle.mk_enum.specs.StructureTables.{element_symbol}
use Rattle.mk_enum.proofs.entries.symbols_of.Given as goal

abbrev pub invariant-loop-z : goal.invariant-loop-z
invariant-loop-z l = l.symbols ≡ map element_symbol (take l.z-index l.elements)
