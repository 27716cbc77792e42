use Rattle.std.proofs.Common.{take, All}
use Rattle.mk_query.specs.Checks.{IsRingBondCount}
use Rattle.mk_props.specs.declared.property.Pair.{Pair}
use Rattle.mk_query.proofs.property_checks.are_ring_bond_counts.Given as goal

abbrev pub invariant-loop-pair : goal.invariant-loop-pair
invariant-loop-pair l = All (λ (pair : Pair). IsRingBondCount pair.value) (take l.pair-index l.pairs)
