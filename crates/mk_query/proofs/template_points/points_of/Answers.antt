use Rattle.mk_query.proofs.TemplatePointLemmas.{points_put}
use Rattle.mk_query.proofs.template_points.points_of.Goals as goal

pub returns : goal.returns
returns c =
    points_put c.args.notes.now.table.now c.args.notes.now.standing.points.items _ _ _ _ _ _ c.in_ok-points.ensures.items c.deref.ensures.value c.deref-2.ensures.value c.in_ok-put_bearers.ensures
    c.in_ok-put_bearers-2.ensures c.of.ensures c.args.notes.now.are.points_size c.args.notes.now.are.points_are
