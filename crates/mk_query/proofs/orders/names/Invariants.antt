use Rattle.std.proofs.Common.{◌≡◌, All, take}
use Rattle.std.specs.Prelude.{pos}
use Rattle.mk_props.specs.declared.property.Pair.{Pair}
use Rattle.mk_query.proofs.orders.names.Given as goal

abbrev pub invariant-loop-pair : goal.invariant-loop-pair
invariant-loop-pair l = All (λ (pair : Pair). pair.atom ≡ pos l.y → ⊥) (take l.pair-index l.entries)
