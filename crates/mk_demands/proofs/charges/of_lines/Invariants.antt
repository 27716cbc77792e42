use Rattle.std.proofs.Common.{take}
use Rattle.std.specs.Prelude.{All}
use Rattle.mk_demands.specs.ChargePutting.{AreOfLines}
use Rattle.mk_demands.specs.Charges.{HasRadical}
use Rattle.mk_demands.proofs.charges.of_lines.Given as goal

abbrev pub invariant-loop-line : goal.invariant-loop-line
invariant-loop-line l = AreOfLines l.aside (take l.line-index l.lines) l.list.items × All HasRadical l.list.items
