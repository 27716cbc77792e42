use Rattle.mk_rings.proofs.RoundLemmas.{AreDoneFrom-all}
use Rattle.mk_rings.proofs.rounds.is_open.Goals as goal

pub returns : goal.returns
returns c = λ none.
    AreDoneFrom-all c.args.bonds.now c.args.marks.now c.args.start c.args.kind c.numbers_of-numbers.result.now c.loop-i.i
    c.numbers_of-numbers.ensures c.loop-i-test.false c.loop-i.invariant
