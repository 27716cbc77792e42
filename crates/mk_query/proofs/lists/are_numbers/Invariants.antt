use Rattle.std.proofs.Common.{take, All}
use Rattle.std.specs.Prelude.{pos}
use Rattle.mk_demands.specs.Numbers.{IsWithin}
use Rattle.mk_query.proofs.lists.are_numbers.Given as goal

abbrev pub invariant-loop-number : goal.invariant-loop-number
invariant-loop-number l = All (IsWithin (pos 1) (pos 118)) (take l.number-index l.numbers)
