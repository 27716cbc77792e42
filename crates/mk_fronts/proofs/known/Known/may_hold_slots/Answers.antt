use Rattle.std.proofs.Common.{[], ◌≡◌, false, subst}
use Rattle.mk_model.specs.Queries.{QueryView}
use Rattle.mk_open_codes.specs.Fronts.{HoldsNone}
use Rattle.mk_fronts.proofs.known.Known.may_hold_slots.Goals as goal

pub returns-then-not-branch-clause-none : goal.returns-then-not-branch-clause-none
returns-then-not-branch-clause-none c = λ _.
    let no : c.in_ok-may_hold_slot.field-0 ≡ false = cc in
    subst (λ (q : QueryView). HoldsNone q c.args.mol.now []) c.loop-turn.invariant.0.same (c.in_ok-may_hold_slot.ensures.none no)
