use Rattle.std.proofs.Common.{subst}
use Rattle.mk_open_codes.specs.Fronts.{IsNeedOfAll}
use Rattle.mk_fronts.specs.Fronts.{FrontsView}
use Rattle.mk_fronts.proofs.fronts.Fronts.need.Goals as goal

pub returns : goal.returns
returns c = subst (λ (v : FrontsView). IsNeedOfAll v.query c.self.inside.need) c.self.view_is c.self.invariant.of_all
