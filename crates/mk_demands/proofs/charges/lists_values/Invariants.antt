use Rattle.std.proofs.Common.{◌≡◌, drop}
use Rattle.mk_demands.specs.Charges.{lists_values}
use Rattle.mk_demands.proofs.charges.lists_values.Given as goal

abbrev pub invariant-loop-property : goal.invariant-loop-property
invariant-loop-property l = lists_values (drop l.property-index l.props) ≡ lists_values l.props
