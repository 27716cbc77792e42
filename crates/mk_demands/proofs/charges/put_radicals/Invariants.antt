use Rattle.std.proofs.Common.{[], take}
use Rattle.std.specs.Prelude.{All}
use Rattle.mk_demands.specs.ChargePutting.{ArePut}
use Rattle.mk_demands.specs.Charges.{HasRadical}
use Rattle.mk_demands.proofs.charges.put_radicals.Given as goal

abbrev pub invariant-loop-pair : goal.invariant-loop-pair
invariant-loop-pair l = ArePut [] (take l.pair-index l.pairs) l.fn.list l.list × All HasRadical l.list
