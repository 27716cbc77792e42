use Rattle.std.proofs.Common.{◌∙◌, ◌+◌, sym, subst, List, ℕ, arith}
use Rattle.std.proofs.lemmas.List.{take_all}
use Rattle.std.proofs.lemmas.List.Elements.{Contains-get_or}
use Rattle.mk_query.specs.Recursion.{ComesBack}
use Rattle.mk_query.proofs.RecursionLemmas.{low_here}
use Rattle.mk_query.proofs.recursion.least_in_group.Goals as goal

pub loop-i-preserved : goal.loop-i-preserved
loop-i-preserved c =
    let members = c.members-members.result.now in
    record {
      most = omega (arith, c.if-u-least.false, c.loop-i.invariant.most);
      found = λ _. record { member = Contains-get_or members c.loop-i.i 0 c.loop-i-test.true; back = rw c.slots.ensures.list at (sym c.comes_back.ensures ∙ c.if-not-comes_back.false) };
      lowest = low_here c.args.draft.now c.args.leads.now members (c.args.g + 1) c.loop-i.i c.loop-i-test.true c.loop-i.least c.if-u-least.false c.loop-i.invariant.lowest;
    }

pub returns-clause-found : goal.returns-clause-found
returns-clause-found c = rw c.members-members.ensures.list at c.loop-i.invariant.found

pub returns-clause-least : goal.returns-clause-least
returns-clause-least c = λ u back.
    let members = c.members-members.result.now in
    c.loop-i.invariant.lowest u
    (subst (λ (l : List ℕ). ComesBack c.args.draft.now c.args.leads.now l (c.args.g + 1) u) (sym (take_all c.loop-i.i members c.loop-i-test.false)) (rw (sym c.members-members.ensures.list) at back))
