use Rattle.std.proofs.Common.{◌∙◌, ap}
use Rattle.mk_query.specs.Drawn.{query_bonds}
use Rattle.mk_query.proofs.templates.template_of.Goals as goal

pub returns : goal.returns
returns c =
    rw c.of.ensures
    (record {
      atoms = c.in_ok-atoms.ensures;
      bonds = c.in_ok-bonds.ensures ∙ ap query_bonds c.as_slice.ensures;
      slots = c.in_ok-slots.ensures;
      points = c.in_ok-points.ensures;
    })
