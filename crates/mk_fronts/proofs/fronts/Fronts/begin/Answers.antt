use Rattle.std.proofs.Common.{[], ◌≡◌, false, ap, ◌∙◌, subst}
use Rattle.mk_model.specs.Queries.{QueryView}
use Rattle.mk_open_codes.specs.Fronts.{HoldsNone}
use Rattle.mk_fronts.specs.Fronts.{FrontsView}
use Rattle.mk_fronts.proofs.fronts.Fronts.begin.Goals as goal

pub returns-then-not-branch-clause-none : goal.returns-then-not-branch-clause-none
returns-then-not-branch-clause-none c = λ _.
    let no : c.in_ok-may_hold_root.field-0 ≡ false = cc in
    c.in_ok-may_hold_root.ensures.none no

pub returns-then-not-branch-2-clause-none : goal.returns-then-not-branch-2-clause-none
returns-then-not-branch-2-clause-none c = λ _.
    let no : c.in_ok-may_hold_slots.field-0 ≡ false = cc in
    let same = ap (λ (v : FrontsView). v.query) c.self-2.view_is ∙ c.may_hold_root.ensures.query in
    subst (λ (q : QueryView). HoldsNone q c.args.mol.now []) same (c.in_ok-may_hold_slots.ensures.none no)
