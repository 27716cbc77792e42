use Rattle.std.proofs.Common.{◌≡◌, ℕ, subst, arith}
use Rattle.mk_query.specs.Recursion.{Holds, leads}
use Rattle.mk_query.proofs.RecursionLemmas.{by_way_more}
use Rattle.mk_query.proofs.recursion.all_leads.Goals as goal

pub loop-k-preserved : goal.loop-k-preserved
loop-k-preserved c = record {
  most = omega (arith, c.loop-k-test.true);
  holds = by_way_more c.args.draft.now c.loop-k.k c.loop-k.list.items c.in_ok-list-2.list.items c.loop-k-test.true c.loop-k.invariant.holds (rw c.deref.ensures.value at c.in_ok-list-2.ensures);
}

pub returns : goal.returns
returns c =
    let whole : c.loop-k.k ≡ 32 = omega (arith, c.loop-k.invariant.most, c.loop-k-test.false) in
    subst (λ (k : ℕ). Holds (leads c.args.draft.now k) c.loop-k.list.items) whole c.loop-k.invariant.holds
