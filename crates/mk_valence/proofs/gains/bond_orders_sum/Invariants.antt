use Rattle.std.proofs.Common.{◌≡◌, ◌≤◌, ◌+◌, ◌*◌, take, count_by}
use Rattle.std.specs.Prelude.{◌==◌}
use Rattle.std.specs.List.{sum_by}
use Rattle.mk_valence.specs.Hydrogens.{order}
use Rattle.mk_valence.proofs.gains.bond_orders_sum.Given as goal

abbrev pub invariant-loop-kind : goal.invariant-loop-kind
invariant-loop-kind l = record {
  orders : l.orders ≡ sum_by order (take l.kind-index l.kinds);
  aromatic : l.aromatic ≡ count_by (λ kind. kind == 4) (take l.kind-index l.kinds);
  small : l.orders + 4 * l.aromatic ≤ 4 * l.kind-index;
  few : l.orders + 3 * l.aromatic ≤ 3 * l.kind-index;
}
