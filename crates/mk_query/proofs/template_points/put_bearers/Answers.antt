use Rattle.std.proofs.Common.{◌∙◌, sym}
use Rattle.mk_query.proofs.TemplatePointLemmas.{bearer_no, bearer_yes}
use Rattle.mk_query.proofs.template_points.put_bearers.Goals as goal

pub loop-i-preserved-then-not-bears_by : goal.loop-i-preserved-then-not-bears_by
loop-i-preserved-then-not-bears_by c =
    bearer_no c.args.points.now.items c.loop-i.points.items c.args.values.now c.args.p c.loop-i.i (sym c.bears_by.ensures ∙ c.if-not-bears_by.true) c.loop-i.invariant

pub loop-i-preserved : goal.loop-i-preserved
loop-i-preserved c =
    rw c.in_ok-push.ensures.items
    (bearer_yes c.args.points.now.items c.loop-i.points.items c.args.values.now c.args.p c.loop-i.i (sym c.bears_by.ensures ∙ c.if-not-bears_by.false) c.loop-i.invariant)
