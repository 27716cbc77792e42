use Rattle.std.proofs.Common.{refl}
use Rattle.mk_screen.proofs.LossFreeLemmas.{covers_of_hit}
use Rattle.mk_expansions.proofs.expansions.may_hold.Goals as goal

pub returns-then-not-is_covered-clause-none : goal.returns-then-not-is_covered-clause-none
returns-then-not-is_covered-clause-none c = λ _ hit is.
    let graph = c.args.expansion.now.graph in
    let covered = c.is_covered.ensures.1 (covers_of_hit graph c.args.mol.now hit c.args.screen.now c.args.expansion.now.need is c.requires.screen c.requires.need) in
    cc

pub returns-then-cannot_hold-clause-none : goal.returns-then-cannot_hold-clause-none
returns-then-cannot_hold-clause-none c = λ _.
    c.if-cannot_hold.ensures refl c.args.expansion.now.graph c.args.mol.now c.requires.asked c.counts_there.ensures
