use Rattle.std.proofs.Common.{length, sym, ap, ◌∙◌}
use Rattle.mk_query.proofs.PointFitsLemmas.{points_more}
use Rattle.mk_query.proofs.point_fits.all_have_points.Goals as goal

pub loop-i-preserved : goal.loop-i-preserved
loop-i-preserved c =
    points_more c.args.draft.now.templates c.args.n c.args.members.now c.loop-i.i c.template.result.now c.loop-i-test.true c.template.ensures.at
    (ap length (sym c.points.ensures) ∙ c.if-points-n.false) c.loop-i.invariant
