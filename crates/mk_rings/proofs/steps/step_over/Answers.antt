use Rattle.std.proofs.Common.{◌<◌, ◌-◌, arith, get_or, length}
use Rattle.mk_rings.proofs.GrowLemmas.{joined_by, number_at}
use Rattle.mk_rings.proofs.steps.step_over.Goals as goal

pub overflow_sub-bond : goal.overflow_sub-bond
overflow_sub-bond c = (number_at c.args.bonds.now c.args.x c.args.numbers.now c.args.i c.requires.numbers c.requires.within).least

pub bounds-bonds-bond : goal.bounds-bonds-bond
bounds-bonds-bond c =
    let number = number_at c.args.bonds.now c.args.x c.args.numbers.now c.args.i c.requires.numbers c.requires.within in
    omega (arith, number.least, number.most)

pub returns-clause-bond : goal.returns-clause-bond
returns-clause-bond c =
    let number = number_at c.args.bonds.now c.args.x c.args.numbers.now c.args.i c.requires.numbers c.requires.within in
    omega (arith, number.least, number.most)

pub returns-clause-joined : goal.returns-clause-joined
returns-clause-joined c =
    let number = number_at c.args.bonds.now c.args.x c.args.numbers.now c.args.i c.requires.numbers c.requires.within in
    let within : get_or c.args.numbers.now c.args.i 0 - 1 < length c.args.bonds.now = omega (arith, number.least, number.most) in
    joined_by c.args.bonds.now (get_or c.args.numbers.now c.args.i 0 - 1) c.args.x c.other_end.result _ within (c.other_end.ensures.ends (number.ends _))
