use Rattle.std.proofs.Common.{◌<◌, None, Some, sym, subst, ◌∙◌, arith}
use Rattle.mk_text.specs.Rising.{IsLeast, IsLeastFrom}
use Rattle.mk_model.specs.Hits.{IsHit}
use Rattle.mk_model.specs.Logic.{IsValid}
use Rattle.mk_model.specs.Queries.{QueryView}
use Rattle.mk_model.specs.QueryFits.{QueryFits}
use Rattle.mk_choice.proofs.ForCallers.{codes_left, fewer_left}
use Rattle.mk_expansions.proofs.PlainLemmas.{none_left, none_more, none_yet, one_found}
use Rattle.mk_expansions.proofs.plain.least_key_from.Goals as goal

pub loop-code-init : goal.loop-code-init
loop-code-init g c = record {
  none = none_yet c.args.query.now c.args.mol.now c.args.place.now c.args.codes.now.place c.requires.starts;
  query = c.requires.query;
  steps = omega arith;
}

pub loop-code-preserved : goal.loop-code-preserved
loop-code-preserved g c =
    let invariant = c.loop-code.invariant in
    let place = c.loop-code.codes.place in
    let query = c.args.query.now in
    let code = c.in-Some.code.now in
    let next = rw c.in-Some.is at c.next.follows.holds-at-none in
    let least : IsLeast place (IsValid query) code = subst (λ (q : QueryView). IsLeast place (IsValid q) code) invariant.query next.least in
    let hit = c.in_ok-hit.ensures.least in
    let none : IsLeastFrom c.behind-back.result.now (IsHit hit.0 c.args.mol.now) None = rw c.in_default-2.is at hit.2 in
    record {
      none = rw next.place
          (none_more query c.args.mol.now c.args.place.now c.args.codes.now.place c.requires.starts place code c.behind-back.result.now hit.0 invariant.none least
          c.behind-back.ensures hit.1 none);
      query = next.query ∙ invariant.query;
      steps = omega (arith, invariant.steps, c.least_hit_by.ensures.steps);
    }

pub loop-code-smaller : goal.loop-code-smaller
loop-code-smaller g c =
    let codes = c.loop-code.codes in
    let query = c.loop-code.invariant.query in
    let next = rw c.in-Some.is at c.next.follows.holds-at-none in
    let fits : QueryFits codes.query = subst QueryFits (sym query) c.requires.fits in
    subst (λ (q : QueryView). codes_left q c.next.follows.lender-at-none.place < codes_left q codes.place) query
    (fewer_left codes c.next.follows.lender-at-none c.in-Some.code.now fits next)

pub returns-in-Some-2-clause-least : goal.returns-in-Some-2-clause-least
returns-in-Some-2-clause-least g c =
    let place = c.loop-code.codes.place in
    let query = c.args.query.now in
    let code = c.in-Some.code.now in
    let next = rw c.in-Some.is at c.next.follows.holds-at-none in
    let least : IsLeast place (IsValid query) code = subst (λ (q : QueryView). IsLeast place (IsValid q) code) c.loop-code.invariant.query next.least in
    let hit = c.in_ok-hit.ensures.least in
    let found : IsLeastFrom c.behind-back.result.now (IsHit hit.0 c.args.mol.now) (Some c.in-Some-2.hit) = rw c.in-Some-2.is at hit.2 in
    rw (c.in_ok-joined.ensures, c.as_slice.ensures)
    (one_found query c.args.mol.now c.args.place.now c.args.codes.now.place c.requires.starts place code c.behind-back.result.now hit.0 c.loop-code.invariant.none least
    c.behind-back.ensures hit.1 c.in-Some-2.hit found)

pub returns-clause-least : goal.returns-clause-least
returns-clause-least g c =
    let query = c.args.query.now in
    let is = rw c.in_default.is at c.next.follows.holds-at-none in
    let none : IsLeastFrom c.loop-code.codes.place (IsValid query) None = subst (λ (q : QueryView). IsLeastFrom c.loop-code.codes.place (IsValid q) None) c.loop-code.invariant.query is.0 in
    none_left query c.args.mol.now c.args.place.now c.args.codes.now.place c.loop-code.codes.place c.loop-code.invariant.none none
