use Rattle.std.proofs.Common.{◌∙◌, ap, arith, length, map}
use Rattle.mk_query.specs.Drawn.{is_site}
use Rattle.mk_query.proofs.atom_marks.standing_of.Goals as goal

pub returns : goal.returns
returns c =
    let lines = ap length c.as_slice-atoms.ensures in
    record {
      sites_are = c.in_ok-sites.ensures ∙ ap (map is_site) c.as_slice-atoms.ensures;
      near_size = omega (arith, c.in_ok-near.ensures.size, lines);
      near_are = rw c.as_slice.ensures at c.in_ok-near.ensures.near;
      labels_size = omega (arith, c.in_ok-labels.ensures.size, lines);
      labels_are = rw c.as_slice-props.ensures at c.in_ok-labels.ensures.labels;
      points_size = omega (arith, c.in_ok-points.ensures.size, lines);
      points_are = rw c.as_slice-props.ensures at c.in_ok-points.ensures.last;
      links_size = omega (arith, c.in_ok-links.ensures.size, lines);
      links_are = rw c.as_slice-props.ensures at c.in_ok-links.ensures.linked;
    }
