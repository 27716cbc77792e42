use Rattle.std.proofs.Common.{◌∙◌, ap, length, map}
use Rattle.mk_query.specs.Drawn.{by_numbers}
use Rattle.mk_query.proofs.ListMarkLemmas.{force_none, force_none_size, lines_more, property_all, property_more, property_none}
use Rattle.mk_query.proofs.list_places.list_places.Goals as goal

pub loop-i-init : goal.loop-i-init
loop-i-init c =
    let none = c.in_ok-places.ensures.items_if_clones_equal (λ y e. e) in
    record {
      size = force_none_size _ c.in_ok-places.places.items none ∙ ap length c.as_slice.ensures;
      force = force_none c.args.table.now.lists c.args.table.now.props _ c.in_ok-places.places.items none;
    }

pub loop-i-preserved : goal.loop-i-preserved
loop-i-preserved c =
    let is = rw c.as_slice-lists.ensures at c.index-lists-i.is in
    record {
      size = c.put_at.ensures.size ∙ c.loop-i.invariant.size;
      force = lines_more c.args.table.now.lists c.args.table.now.props c.loop-i.i c.line_atom.result c.index-lists-i.result c.loop-i.places.items c.put_at.new.places.items
          (rw c.as_slice-lists.ensures at c.loop-i-test.true) is c.line_atom.ensures c.put_at.ensures c.loop-i.invariant.force;
    }

pub loop-j-init : goal.loop-j-init
loop-j-init c = record {
  size = c.loop-i.invariant.size;
  force = property_none c.args.table.now.lists c.args.table.now.props c.loop-i.i c.loop-i.places.items (rw c.as_slice-lists.ensures at c.loop-i-test.false) c.loop-i.invariant.force;
}

pub loop-j-preserved : goal.loop-j-preserved
loop-j-preserved c =
    let is = rw c.as_slice-props.ensures at c.index-props-j.is in
    record {
      size = c.put_property.ensures.size ∙ c.loop-j.invariant.size;
      force = property_more c.args.table.now.lists c.args.table.now.props (map by_numbers c.args.table.now.lists)
          c.loop-j.j c.index-props-j.result c.loop-j.places.items c.put_property.new.places.items
          (rw c.as_slice-props.ensures at c.loop-j-test.true) is c.put_property.ensures.noted c.loop-j.invariant.force;
    }

pub returns-clause-in_force : goal.returns-clause-in_force
returns-clause-in_force c = property_all c.args.table.now c.loop-j.j c.loop-j.places.items (rw c.as_slice-props.ensures at c.loop-j-test.false) c.loop-j.invariant.force
