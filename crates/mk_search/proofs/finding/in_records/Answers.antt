use Rattle.std.proofs.Common.{◌∙◌, ◌∷◌, [], true, false, refl, arith}
use Rattle.mk_search.specs.declared.stages.Row.{Row}
use Rattle.mk_search.specs.Pages.{IsHeldIn}
use Rattle.mk_search.proofs.SearchedLemmas.{finds_in, ready_first, searched_all, searched_found, searched_more, searched_none}
use Rattle.mk_search.proofs.StagesLemmas.{no_record_held}
use Rattle.mk_search.proofs.finding.in_records.Goals as goal

pub records-init : goal.records-init
records-init g c = record {
  searched = searched_none c.args.shelf.now.rows c.args.all.now.query.now c.args.place.now (c.args.from ∷ []) c.args.steps.now c.args.from c.requires.at refl;
  belongs = c.requires.belongs;
  steps = omega arith;
}

pub returns-in_default-clause-found : goal.returns-in_default-clause-found
returns-in_default-clause-found g c =
    let none = rw c.records.invariant.belongs.query_is at c.in_default.ensures.none in
    searched_all c.args.shelf.now.rows c.args.all.now.query.now c.args.place.now (c.args.from ∷ []) c.args.steps.now c.records.next c.records.steps c.records.invariant.searched none

pub next-requires-clause-left : goal.next-requires-clause-left
next-requires-clause-left g c = rw c.restart.ensures.belongs.query_is (c.in_ok-restart.ensures.left c.in-Some-get.mol.now)

pub returns-then-branch-clause-found : goal.returns-then-branch-clause-found
returns-then-branch-clause-found g c =
    let rows = c.args.shelf.now.rows in
    let query = c.args.all.now.query.now in
    let place = c.args.place.now in
    let own = c.records.invariant.belongs.query_is in
    let row : Row = record { number = c.in-Some.number; mol = c.in-Some-get.mol; screen = c.screen-screen.result } in
    let next = rw own at c.in-Some.ensures.some in
    let held : IsHeldIn rows row.number row.mol.now = c.in-Some-get.ensures.some in
    let all = c.restart.new.self in
    let left = c.in_ok-restart.ensures.left row.mol.now in
    let ready = ready_first rows query place c.records.next c.records.invariant.searched.at row held (rw held at c.screen-screen.ensures) next all (rw (own, c.rest_in-rest.ensures) at left)
    (c.in_ok-restart.ensures.know row.mol.now) in
    let t = rw (c.restart.ensures.belongs.query_is ∙ own, c.rest_in-rest.ensures, c.if-branch.true) at c.in_ok-next.ensures.next in
    let found = finds_in rows query place row all c.next.new.self c.records.steps c.next.new.steps ready c.in_ok-next.ensures.know true t in
    searched_found rows query place (c.args.from ∷ []) c.args.steps.now c.records.next c.records.steps c.records.invariant.searched row.number all.codes.place c.next.new.steps c.next.new.self row
    next.not_below (rw c.in_ok-restart.ensures.shut at found)

pub returns-in_default-following-clause-found : goal.returns-in_default-following-clause-found
returns-in_default-following-clause-found g c =
    let rows = c.args.shelf.now.rows in
    let query = c.args.all.now.query.now in
    let place = c.args.place.now in
    let own = c.records.invariant.belongs.query_is in
    let row : Row = record { number = c.in-Some.number; mol = c.in-Some-get.mol; screen = c.screen-screen.result } in
    let next = rw own at c.in-Some.ensures.some in
    let held : IsHeldIn rows row.number row.mol.now = c.in-Some-get.ensures.some in
    let all = c.restart.new.self in
    let left = c.in_ok-restart.ensures.left row.mol.now in
    let ready = ready_first rows query place c.records.next c.records.invariant.searched.at row held (rw held at c.screen-screen.ensures) next all (rw (own, c.rest_in-rest.ensures) at left)
    (c.in_ok-restart.ensures.know row.mol.now) in
    let t = rw (c.restart.ensures.belongs.query_is ∙ own, c.rest_in-rest.ensures, c.if-branch.false) at c.in_ok-next.ensures.next in
    let f = finds_in rows query place row all c.next.new.self c.records.steps c.next.new.steps ready c.in_ok-next.ensures.know false t in
    let more = searched_more rows query place (c.args.from ∷ []) c.args.steps.now c.records.next c.records.steps c.records.invariant.searched
    row.number all.codes.place c.next.new.steps next.not_below f in
    searched_all rows query place (c.args.from ∷ []) c.args.steps.now _ c.next.new.steps more (no_record_held rows query _ c.in_default-following.ensures.none)

pub records-preserved : goal.records-preserved
records-preserved g c =
    let rows = c.args.shelf.now.rows in
    let query = c.args.all.now.query.now in
    let place = c.args.place.now in
    let own = c.records.invariant.belongs.query_is in
    let row : Row = record { number = c.in-Some.number; mol = c.in-Some-get.mol; screen = c.screen-screen.result } in
    let next = rw own at c.in-Some.ensures.some in
    let held : IsHeldIn rows row.number row.mol.now = c.in-Some-get.ensures.some in
    let all = c.restart.new.self in
    let left = c.in_ok-restart.ensures.left row.mol.now in
    let ready = ready_first rows query place c.records.next c.records.invariant.searched.at row held (rw held at c.screen-screen.ensures) next all (rw (own, c.rest_in-rest.ensures) at left)
    (c.in_ok-restart.ensures.know row.mol.now) in
    let t = rw (c.restart.ensures.belongs.query_is ∙ own, c.rest_in-rest.ensures, c.if-branch.false) at c.in_ok-next.ensures.next in
    let f = finds_in rows query place row all c.next.new.self c.records.steps c.next.new.steps ready c.in_ok-next.ensures.know false t in
    let more = searched_more rows query place (c.args.from ∷ []) c.args.steps.now c.records.next c.records.steps c.records.invariant.searched
    row.number all.codes.place c.next.new.steps next.not_below f in
    record {
      searched = rw c.in-Some-following.ensures.some more;
      belongs = rw (c.restart.ensures.belongs.query_is ∙ own) at c.next.ensures.belongs;
      steps = omega (arith, c.records.invariant.steps, c.next.ensures.steps);
    }
