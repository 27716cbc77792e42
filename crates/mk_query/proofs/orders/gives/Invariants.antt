use Rattle.std.proofs.Common.{◌≡◌, All, take}
use Rattle.std.specs.Prelude.{pos}
use Rattle.mk_props.specs.declared.property.Pair.{Pair}
use Rattle.mk_query.proofs.orders.gives.Given as goal

abbrev pub invariant-loop-pair : goal.invariant-loop-pair
invariant-loop-pair l = All (λ (pair : Pair). pair.value ≡ pos l.k → ⊥) (take l.pair-index l.entries)
