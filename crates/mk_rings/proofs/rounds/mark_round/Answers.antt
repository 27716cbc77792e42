use Rattle.std.proofs.Common.{Bool, arith, length, subst}
use Rattle.mk_rings.proofs.RoundLemmas.{AreDone, AreDone-all}
use Rattle.mk_rings.proofs.rounds.mark_round.Goals as goal

pub returns-clause-done : goal.returns-clause-done
returns-clause-done c = λ none.
    let P : Bool → Type 0 = λ f. AreDone c.args.bonds.now c.loop-before.marks c.loop-before.before f in
    AreDone-all (length c.args.near.now) c.args.bonds.now c.loop-before.marks c.loop-before.before c.requires.ends
    (omega (arith, c.loop-before-test.false, c.requires.atoms)) (subst P none c.loop-before.invariant.done)
