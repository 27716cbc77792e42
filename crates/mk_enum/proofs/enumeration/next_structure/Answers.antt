use Rattle.std.proofs.Common.{◌<◌, ◌∙◌, List, ℕ, sym, subst}
use Rattle.mk_text.specs.Rising.{IsLeast}
use Rattle.mk_model.specs.Logic.{IsValid}
use Rattle.mk_model.specs.Queries.{QueryView}
use Rattle.mk_model.specs.QueryFits.{QueryFits}
use Rattle.mk_choice.proofs.ForCallers.{codes_left, fewer_left}
use Rattle.mk_enum.proofs.NextLemmas.{HasPassed, passed_more}
use Rattle.mk_enum.proofs.enumeration.next_structure.Goals as goal

pub loop-code-preserved : goal.loop-code-preserved
loop-code-preserved c =
    let query = c.args.query.now in
    let middle = c.loop-code.left in
    let code = c.in-Some.code.now in
    let invariant = c.loop-code.invariant in
    let next = rw c.in-Some.is at c.next.follows.holds-at-none in
    let least : IsLeast middle.place (IsValid query) code = subst (λ (q : QueryView). IsLeast middle.place (IsValid q) code) invariant.query next.least in
    let none = rw c.if-branch.false at c.in_ok-put_structure.ensures in
    record {
      passed = subst (λ (to : List ℕ). HasPassed query c.args.left.now.place to) (sym next.place) (passed_more query c.args.left.now.place middle.place invariant.passed code least none.0);
      query = next.query ∙ invariant.query;
      same = none.1 ∙ invariant.same;
    }

pub loop-code-smaller : goal.loop-code-smaller
loop-code-smaller c =
    let middle = c.loop-code.left in
    let query = c.loop-code.invariant.query in
    let next = rw c.in-Some.is at c.next.follows.holds-at-none in
    let fits : QueryFits middle.query = subst QueryFits (sym query) c.templates-kept.ensures.kept in
    subst (λ (q : QueryView). codes_left q c.next.follows.lender-at-none.place < codes_left q middle.place) query
    (fewer_left middle c.next.follows.lender-at-none c.in-Some.code.now fits next)
