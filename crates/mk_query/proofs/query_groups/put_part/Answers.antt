use Rattle.std.proofs.Common.{◌+◌, ap, arith, length}
use Rattle.mk_query.proofs.GroupLemmas.{member_more, part_all}
use Rattle.mk_query.proofs.query_groups.put_part.Goals as goal

pub loop-k-preserved : goal.loop-k-preserved
loop-k-preserved c =
    rw c.in_ok-push.ensures.items (member_more c.args.members.now.items c.loop-k.members.items (c.args.before + 1) c.loop-k.k _ (omega arith) c.loop-k.invariant)

pub returns : goal.returns
returns c =
    part_all c.args.members.now.items c.loop-k.members.items (c.args.before + 1) c.args.g c.loop-k.k c.args.part.now
    c.if-part-g.false (omega (arith, ap length c.as_slice-k-end.ensures)) c.loop-k.invariant
