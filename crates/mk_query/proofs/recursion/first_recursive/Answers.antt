use Rattle.std.proofs.Common.{arith, length}
use Rattle.mk_query.proofs.RecursionLemmas.{all_within, back_recurs, found_more, has_groups, low_more, recurs_back}
use Rattle.mk_query.proofs.recursion.first_recursive.Goals as goal

pub loop-g-preserved : goal.loop-g-preserved
loop-g-preserved c =
    let query = c.args.draft.now in
    let list = c.in_ok-leads.leads.items in
    let group = c.least_in_group-least in
    record {
      most = omega (arith, group.ensures.most, c.loop-g.invariant.most);
      found = found_more query 32 list c.loop-g.g (length query.templates) c.loop-g.least group.result c.loop-g-test.true group.ensures.most
          (rw c.deref.ensures.value at group.ensures.found) c.loop-g.invariant.found;
      lowest = low_more query 32 list c.loop-g.g c.loop-g.least group.result group.ensures.most (rw c.deref.ensures.value at group.ensures.least) c.loop-g.invariant.lowest;
    }

pub returns-then-least-none : goal.returns-then-least-none
returns-then-least-none c =
    let query = c.args.draft.now in
    let list = c.in_ok-leads.leads.items in
    let has = has_groups query c.count-none.ensures.kept.templates in
    record {
      lower = λ t below via chain.
          let back = recurs_back query 32 list (omega arith) c.in_ok-leads.ensures has t via chain in
          absurd (omega (arith, below, c.loop-g.invariant.lowest back.0 t back.1 (omega (arith, back.2, c.loop-g-test.false)) back.3));
      fails = back_recurs query 32 list c.in_ok-leads.ensures has (all_within query c.count-none.ensures.kept.members) c.loop-g.least
          (c.loop-g.invariant.found (omega (arith, c.if-least-none.true, c.count-none.ensures.count)));
    }

pub returns : goal.returns
returns c = λ t via chain.
    let query = c.args.draft.now in
    let kept = c.count-none.ensures.kept in
    let back = recurs_back query 32 c.in_ok-leads.leads.items (omega arith) c.in_ok-leads.ensures (has_groups query kept.templates) t via chain in
    let within = all_within query kept.members back.0 t back.3.member in
    absurd (omega (arith, within, c.if-least-none.false, c.count-none.ensures.count, c.loop-g.invariant.lowest back.0 t back.1 (omega (arith, back.2, c.loop-g-test.false)) back.3))
