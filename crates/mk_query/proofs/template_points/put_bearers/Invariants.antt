use Rattle.std.proofs.Common.{◌≡◌, ◌++◌}
use Rattle.mk_query.specs.TemplateMarks.{bearers}
use Rattle.mk_query.proofs.template_points.put_bearers.Given as goal

abbrev pub invariant-loop-i : goal.invariant-loop-i
invariant-loop-i l = l.points.items ≡ l.fn.points.items ++ bearers l.values l.p l.i
