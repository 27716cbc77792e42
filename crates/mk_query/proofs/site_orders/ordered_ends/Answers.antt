use Rattle.std.proofs.Common.{◌∙◌, ap, map}
use Rattle.mk_query.specs.SlotMarks.{ends_near}
use Rattle.mk_query.proofs.SlotMarkLemmas.{ordered_are, ordered_size}
use Rattle.mk_query.proofs.site_orders.ordered_ends.Goals as goal

pub returns-clause-ordered : goal.returns-clause-ordered
returns-clause-ordered c =
    ordered_are c.args.notes.now.table.now c.args.notes.now.standing.near.items c.in_ok-ends.ends.items c.put_orders.new.ends.items
    (c.in_ok-ends.ensures ∙ ap (map ends_near) c.deref.ensures.value) c.args.notes.now.are.near_are (rw c.as_slice.ensures at c.put_orders.ensures)

pub returns-clause-size : goal.returns-clause-size
returns-clause-size c =
    ordered_size c.args.notes.now.standing.near.items c.in_ok-ends.ends.items c.put_orders.new.ends.items (c.in_ok-ends.ensures ∙ ap (map ends_near) c.deref.ensures.value) c.put_orders.ensures.size
    ∙ c.args.notes.now.are.near_size
