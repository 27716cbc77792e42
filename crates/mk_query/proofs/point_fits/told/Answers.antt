use Rattle.std.proofs.Common.{rules}
use Rattle.mk_query.proofs.PointFitsLemmas.{told_more}
use Rattle.mk_query.proofs.point_fits.told.Goals as goal

pub loop-g-preserved : goal.loop-g-preserved
loop-g-preserved c =
    let told = rw c.members.ensures.list at c.all_have_points.ensures in
    let each = told_more c.args.draft.now c.args.n c.loop-g.g c.loop-g.list.items c.all_have_points.result c.loop-g.invariant.size told c.loop-g.invariant.each in
    search (rules, each)
