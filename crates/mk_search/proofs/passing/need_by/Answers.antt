use Rattle.std.proofs.Common.{subst}
use Rattle.mk_model.specs.Queries.{QueryView}
use Rattle.mk_open_codes.specs.Fronts.{IsNeedOfAll}
use Rattle.mk_search.proofs.passing.need_by.Goals as goal

pub returns : goal.returns
returns c =
    let of = rw c.in-Some-fronts.is at c.requires.of in
    subst (λ (query : QueryView). IsNeedOfAll query c.need.result.now) of c.need.ensures
