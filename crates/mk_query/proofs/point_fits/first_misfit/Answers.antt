use Rattle.std.proofs.Common.{⊎_elim, subst, arith}
use Rattle.std.proofs.lemmas.Bool.{cases_lt}
use Rattle.std.proofs.lemmas.Option.{slice_get_within}
use Rattle.mk_query.specs.CompileFaults.{FitsTable}
use Rattle.mk_query.proofs.PointFitsLemmas.{all_fit, misfit_found}
use Rattle.mk_query.proofs.point_fits.first_misfit.Goals as goal

pub returns-in-Some : goal.returns-in-Some
returns-in-Some c =
    let template = c.template.ensures in
    let unfit = rw (c.deref.ensures.value, c.deref-in-loop-t.ensures.value, c.slots.ensures) at c.in-Some.ensures in
    let misfit = misfit_found c.args.draft.now _ _ c.in_ok-one.ensures c.in_ok-two.ensures c.loop-t.t c.template.result.now template.at template.kept.labels template.kept.rising
    c.in-Some.atom unfit in
    (record { lower = c.loop-t.invariant; fails = λ fits. misfit.fails (fits c.in-Some.atom) }, misfit)

pub loop-t-preserved : goal.loop-t-preserved
loop-t-preserved c = λ t below.
    let template = c.template.ensures in
    let fit = rw (c.deref.ensures.value, c.deref-in-loop-t.ensures.value, c.slots.ensures) at c.in_default.ensures in
    let here = all_fit c.args.draft.now _ _ c.in_ok-one.ensures c.in_ok-two.ensures c.loop-t.t c.template.result.now template.at template.kept.labels fit in
    ⊎_elim (λ earlier. c.loop-t.invariant t earlier) (λ last. subst (FitsTable c.args.draft.now) (omega (arith, below, last)) here) (cases_lt t c.loop-t.t)

pub returns : goal.returns
returns c = λ t x template slot at.
    c.loop-t.invariant t (omega (arith, c.loop-t-test.false, c.count-t-end.ensures.count, slice_get_within c.args.draft.now.templates t template at)) x template slot at
