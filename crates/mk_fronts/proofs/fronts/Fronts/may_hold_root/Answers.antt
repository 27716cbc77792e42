use Rattle.std.proofs.Common.{[], subst}
use Rattle.mk_open_codes.specs.Fronts.{HoldsNone}
use Rattle.mk_fronts.specs.Fronts.{FrontsView}
use Rattle.mk_fronts.proofs.fronts.Fronts.may_hold_root.Goals as goal

pub returns-clause-none : goal.returns-clause-none
returns-clause-none c = λ no. subst (λ (v : FrontsView). HoldsNone v.query c.args.mol.now []) c.self.view_is (c.in_ok-may.ensures.none no)
