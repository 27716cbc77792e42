use Rattle.std.proofs.Common.{◌≡◌, ◌+◌, ◌-◌, ◌&&◌, ◌||◌, arith}
use Rattle.mk_query.specs.Recursion.{entry}
use Rattle.mk_query.proofs.RecursionLemmas.{hold_more}
use Rattle.mk_query.proofs.recursion.by_way_of.Goals as goal

pub loop-b-preserved : goal.loop-b-preserved
loop-b-preserved c =
    let row : c.loop-a.a + 1 - 1 ≡ c.loop-a.a = omega arith in
    let column : c.loop-b.b + 1 - 1 ≡ c.loop-b.b = omega arith in
    let between : c.args.k + 1 - 1 ≡ c.args.k = omega arith in
    hold_more (λ g h. entry c.args.list.now g h || (entry c.args.list.now g (c.args.k + 1) && entry c.args.list.now (c.args.k + 1) h)) c.loop-b.new.items c.loop-a.a c.loop-b.b
    c.leads_by.result c.push.new.self.items c.in_ok-push.ensures.items c.loop-b-test.true (rw (row, column, between) c.leads_by.ensures) c.loop-b.invariant
