use Rattle.std.proofs.Common.{◌∙◌, ap, length, false}
use Rattle.std.proofs.lemmas.List.{length-replicate}
use Rattle.mk_query.proofs.OrderLemmas.{AreKnown, order_step, orders-all, orders-none, seen-none, seen_step}
use Rattle.mk_query.proofs.orders.first_disordered_site.Goals as goal

pub loop-i-init : goal.loop-i-init
loop-i-init c = record {
  size = ap length (c.in_ok-seen.ensures.items_if_clones_equal (λ y e. e)) ∙ length-replicate _ false ∙ ap length c.as_slice-atoms.ensures;
  seen = rw c.as_slice-props.ensures (seen-none c.args.notes.now.table.now.props _ c.in_ok-seen.seen.items (c.in_ok-seen.ensures.items_if_clones_equal (λ y e. e)));
  found = rw c.as_slice-props.ensures (orders-none c.args.notes.now.table.now);
}

pub loop-i-preserved : goal.loop-i-preserved
loop-i-preserved c =
    let known : AreKnown c.args.notes.now.table.now c.loop-i.i c.args.notes.now.standing.sites.items c.args.notes.now.standing.near.items c.loop-i.seen.items = record {
      sites = c.args.notes.now.are.sites_are;
      near_size = c.args.notes.now.are.near_size;
      near = c.args.notes.now.are.near_are;
      seen_size = c.loop-i.invariant.size;
      seen = c.loop-i.invariant.seen;
      placed = c.requires.placed;
    } in
    record {
      size = c.mark_property.ensures.size ∙ c.loop-i.invariant.size;
      seen = seen_step c.args.notes.now.table.now.props c.loop-i.i c.index-props-i-in-loop-i.result c.loop-i.seen.items
          c.mark_property.new.seen.items c.loop-i-test.true (rw c.as_slice-props.ensures at c.loop-i.auto.i)
          (rw c.as_slice-props.ensures at c.index-props-i-in-loop-i.is) c.mark_property.ensures c.loop-i.invariant.seen;
      found = order_step c.args.notes.now.table.now c.loop-i.i c.index-props-i.result c.args.notes.now.standing.sites.items
          c.args.notes.now.standing.near.items c.loop-i.seen.items c.is_ordered-right.result c.loop-i.found c.found_or-found.result
          c.loop-i-test.true (rw c.as_slice-props.ensures at c.loop-i.auto.i)
          (rw c.as_slice-props.ensures at c.index-props-i.is) known
          (rw (c.deref.ensures.value, c.deref-in-loop-i.ensures.value, c.deref-in-loop-i-2.ensures.value)
          at c.is_ordered-right.ensures) c.found_or-found.ensures c.loop-i.invariant.found;
    }

pub returns : goal.returns
returns c = orders-all c.args.notes.now.table.now c.loop-i.i c.loop-i.found c.loop-i-test.false c.loop-i.invariant.found
