use Rattle.std.proofs.Common.{length, get_or, refl, arith}
use Rattle.mk_walk.proofs.OutlookLemmas.{never_first, never_taken, never_unfit}
use Rattle.mk_walk.proofs.outlook.is_barred.Goals as goal

pub returns-then-not-fits_at : goal.returns-then-not-fits_at
returns-then-not-fits_at c = λ _.
    let range = c.requires.later (length c.args.chosen.now) 0 c.requires.room in
    never_unfit c.args.graph.now c.args.mol.now c.args.first.now c.args.order.now c.args.chosen.now
    c.if-not-fits_at.ensures.drawing c.if-not-fits_at.ensures.molecule
    (get_or c.args.order.now (length c.args.chosen.now) 0) c.args.a
    (omega (arith, range.0)) range.1 (λ may. (let never = c.if-not-fits_at.ensures.fits.1 may in absurd cc))

pub returns-then-stands_in : goal.returns-then-stands_in
returns-then-stands_in c = λ _.
    let range = c.requires.later (length c.args.chosen.now) 0 c.requires.room in
    never_first c.args.graph.now c.args.mol.now c.args.first.now c.args.order.now c.args.chosen.now
    (get_or c.args.order.now (length c.args.chosen.now) 0) c.args.a range.0 range.1 (c.if-stands_in.ensures refl)

pub returns-then-is_taken : goal.returns-then-is_taken
returns-then-is_taken c = λ _.
    let range = c.requires.later (length c.args.chosen.now) 0 c.requires.room in
    never_taken c.args.graph.now c.args.mol.now c.args.first.now c.args.order.now c.args.chosen.now
    (get_or c.args.order.now (length c.args.chosen.now) 0) c.args.a c.requires.later
    (omega (arith, c.requires.room)) range.0 range.1 (c.if-is_taken.ensures refl)
