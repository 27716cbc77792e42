use Rattle.std.proofs.Common.{take}
use Rattle.std.specs.Prelude.{All}
use Rattle.mk_demands.specs.ChargePutting.{ArePut}
use Rattle.mk_demands.specs.Charges.{charge_pairs, radical_pairs, HasRadical}
use Rattle.mk_demands.proofs.charges.put_values.Given as goal

abbrev pub invariant-loop-property : goal.invariant-loop-property
invariant-loop-property l =
    ArePut (charge_pairs (take l.property-index l.props)) (radical_pairs (take l.property-index l.props)) l.fn.list l.list × All HasRadical l.list
