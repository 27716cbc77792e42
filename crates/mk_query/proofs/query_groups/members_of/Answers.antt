use Rattle.mk_query.proofs.GroupLemmas.{count_more, part_more}
use Rattle.mk_query.proofs.query_groups.members_of.Goals as goal

pub loop-i-preserved : goal.loop-i-preserved
loop-i-preserved c =
    let parts = c.args.parts.now in
    let part = c.index-parts-i.result in
    rw c.as_slice.ensures
    (record {
      members = part_more parts c.args.g c.loop-i.i c.loop-i.before part c.loop-i.members.items
          c.put_part.new.members.items c.loop-i-test.true c.index-parts-i.is c.in_ok-put_part.ensures
          c.loop-i.invariant.members;
      sum = count_more parts c.loop-i.i c.loop-i.before part c.loop-i-test.true c.index-parts-i.is c.loop-i.invariant.sum;
    })
