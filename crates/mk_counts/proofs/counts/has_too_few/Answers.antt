use Rattle.std.proofs.Common.{arith}
use Rattle.mk_counts.proofs.CountLemmas.{enough}
use Rattle.mk_counts.proofs.counts.has_too_few.Goals as goal

pub returns-then-count_there-count_asked : goal.returns-then-count_there-count_asked
returns-then-count_there-count_asked c = λ _ hit is.
    let there = rw c.atoms.ensures.list at c.count_there.ensures in
    let asked = rw c.atoms-in-loop-atom.ensures.list at c.count_asked.ensures in
    omega (arith, enough c.args.graph.now c.args.mol.now c.element_asked-z.result hit is, there, asked, c.if-count_there-count_asked.true)
