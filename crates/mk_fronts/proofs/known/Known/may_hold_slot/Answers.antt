use Rattle.std.proofs.Common.{arith, subst}
use Rattle.mk_model.specs.QueryFits.{QueryFits}
use Rattle.mk_fronts.proofs.known.Known.may_hold_slot.Goals as goal

pub returns-clause-none : goal.returns-clause-none
returns-clause-none c = λ _.
    let fits = subst QueryFits c.query.ensures c.templates-fits.ensures.kept in
    c.slots_hold_none.ensures c.args.self.now.query c.args.mol.now c.args.slot fits c.in-Some.ensures.within
    (λ n least most. c.loop-i.invariant.1 n least (omega (arith, most, c.in-Some.ensures.most)))
