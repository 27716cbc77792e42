use Rattle.std.proofs.Common.{◌≡◌, ◌++◌, take}
use Rattle.mk_effects.specs.Structures.{behind_commas}
use Rattle.mk_effects.proofs.structures.put_behind_commas.Given as goal

abbrev pub invariant-loop-number : goal.invariant-loop-number
invariant-loop-number l = l.text.items ≡ l.fn.text.items ++ behind_commas (take l.number-index l.numbers)
