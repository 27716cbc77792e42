use Rattle.std.proofs.Common.{◌∙◌, ap}
use Rattle.mk_query.specs.SlotMarks.{ends_placed}
use Rattle.mk_query.proofs.SlotMarkLemmas.{ordered_one}
use Rattle.mk_query.proofs.site_orders.put_property.Goals as goal

pub returns-in-Order : goal.returns-in-Order
returns-in-Order c = rw c.in-Order.is (ordered_one _ c.site_atom.result c.ends_placed-pair.result _ _
    c.site_atom.ensures (c.ends_placed-pair.ensures ∙ ap ends_placed c.as_slice.ensures) c.put_at.ensures)
