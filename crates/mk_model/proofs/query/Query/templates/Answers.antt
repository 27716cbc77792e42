use Rattle.std.proofs.Common.{◌∙◌, ap, subst}
use Rattle.mk_model.specs.Queries.{QueryView}
use Rattle.mk_model.specs.QueryFits.{QueryFits}
use Rattle.mk_model.proofs.query.Query.templates.Goals as goal

pub returns : goal.returns
returns c = record { list = c.as_slice.ensures.value ∙ ap (λ (q : QueryView). q.templates) c.self.view_is; kept = subst QueryFits c.self.view_is c.self.invariant }
