use Rattle.std.proofs.Common.{arith}
use Rattle.mk_query.specs.Marks.{IsNear}
use Rattle.mk_query.proofs.MarkLemmas.{more-at}
use Rattle.mk_query.proofs.drawn.add_neighbour.Goals as goal

pub returns-then-place-len : goal.returns-then-place-len
returns-then-place-len c =
    more-at IsNear c.args.near.now.items c.args.n c.args.y c.index.result.now c.and_one.result c.if-place-ge1.true (omega (arith, c.if-place-len.true, c.len.ensures)) c.index.ensures c.and_one.ensures
