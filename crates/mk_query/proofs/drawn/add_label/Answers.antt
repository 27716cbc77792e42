use Rattle.std.proofs.Common.{arith}
use Rattle.mk_query.specs.Marks.{IsLabels}
use Rattle.mk_query.proofs.MarkLemmas.{more-at}
use Rattle.mk_query.proofs.drawn.add_label.Goals as goal

pub returns-then-place-len : goal.returns-then-place-len
returns-then-place-len c =
    rw (← c.atom_of-place.ensures)
    (more-at IsLabels c.args.labels.now.items c.atom_of-place.result c.args.pair.now.value c.index.result.now
    c.and_label.result c.if-place-ge1.true (omega (arith, c.if-place-len.true, c.len.ensures)) c.index.ensures
    c.and_label.ensures)
