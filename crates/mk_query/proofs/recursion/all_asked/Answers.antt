use Rattle.std.proofs.Common.{◌≡◌, ◌+◌, ◌∙◌, refl, arith}
use Rattle.mk_query.specs.Recursion.{asks_for}
use Rattle.mk_query.proofs.LabelMarkLemmas.{no_bit}
use Rattle.mk_query.proofs.RecursionLemmas.{hold_more}
use Rattle.mk_query.proofs.recursion.all_asked.Goals as goal

pub loop-b-preserved : goal.loop-b-preserved
loop-b-preserved c =
    let f = asks_for c.args.draft.now in
    let value : c.has_group.result ≡ f (c.loop-a.a + 1) (c.loop-b.b + 1) =
    c.has_group.ensures ∙ c.asked_by-asked.ensures (c.loop-b.b + 1) (omega arith) (omega (arith, c.loop-b-test.true)) ∙ rw (no_bit (c.loop-b.b + 1)) refl in
    hold_more f c.loop-b.list.items c.loop-a.a c.loop-b.b c.has_group.result c.push.new.self.items c.in_ok-push.ensures.items c.loop-b-test.true value c.loop-b.invariant
