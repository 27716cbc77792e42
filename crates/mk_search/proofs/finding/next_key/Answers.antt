use Rattle.std.proofs.Common.{◌∷◌, [], ◌+◌, true, false, refl}
use Rattle.mk_search.specs.Begun.{IsPairLeft}
use Rattle.mk_search.specs.Stages.{Finds}
use Rattle.mk_search.proofs.BegunLemmas.{begun_none}
use Rattle.mk_search.proofs.SearchedLemmas.{behind_open, finds_in, none_last, ok_same}
use Rattle.mk_search.proofs.StagesLemmas.{at_next}
use Rattle.mk_search.proofs.finding.next_key.Goals as goal

pub next-requires-clause-left : goal.next-requires-clause-left
next-requires-clause-left g c =
    let here = rw c.in-In.is at c.requires.ready in
    let ready = here.ready in
    rw c.rest_in.ensures ready.left

pub returns-then-branch-clause-found : goal.returns-then-branch-clause-found
returns-then-branch-clause-found g c =
    let here = rw c.in-In.is at c.requires.ready in
    let ready = here.ready in
    let t = rw (c.rest_in.ensures, c.if-branch.true) at c.in_ok-next-in-In.ensures.next in
    rw c.in-In.is (finds_in c.args.shelf.now.rows c.args.all.now.query.now c.args.place.now c.in-In.row c.args.all.now c.next.new.self c.args.steps.now c.next.new.steps ready
    c.in_ok-next-in-In.ensures.know true t)

pub returns-in_default-clause-found : goal.returns-in_default-clause-found
returns-in_default-clause-found g c =
    let rows = c.args.shelf.now.rows in
    let query = c.args.all.now.query.now in
    let place = c.args.place.now in
    let row = c.in-In.row in
    let here = rw c.in-In.is at c.requires.ready in
    let ready = here.ready in
    let t = rw (c.rest_in.ensures, c.if-branch.false) at c.in_ok-next-in-In.ensures.next in
    let f = finds_in rows query place row c.args.all.now c.next.new.self c.args.steps.now c.next.new.steps ready c.in_ok-next-in-In.ensures.know false t in
    rw c.in-In.is
    (none_last rows query place row.number (row.number ∷ c.args.all.now.codes.place) c.args.steps.now c.next.new.steps f c.in_default.ensures.none)

pub in_records-requires-in-In-clause-at : goal.in_records-requires-in-In-clause-at
in_records-requires-in-In-clause-at g c =
    let rows = c.args.shelf.now.rows in
    let query = c.args.all.now.query.now in
    let place = c.args.place.now in
    let row = c.in-In.row in
    let here = rw c.in-In.is at c.requires.ready in
    let ready = here.ready in
    let t = rw (c.rest_in.ensures, c.if-branch.false) at c.in_ok-next-in-In.ensures.next in
    let f = finds_in rows query place row c.args.all.now c.next.new.self c.args.steps.now c.next.new.steps ready c.in_ok-next-in-In.ensures.know false t in
    rw (c.next.ensures.belongs.query_is, c.in-Some.ensures.some) (at_next rows query place row.number f.at)

pub returns-in-Some-clause-found : goal.returns-in-Some-clause-found
returns-in-Some-clause-found g c =
    let rows = c.args.shelf.now.rows in
    let query = c.args.all.now.query.now in
    let place = c.args.place.now in
    let row = c.in-In.row in
    let n = row.number in
    let from = n ∷ c.args.all.now.codes.place in
    let here = rw c.in-In.is at c.requires.ready in
    let ready = here.ready in
    let t = rw (c.rest_in.ensures, c.if-branch.false) at c.in_ok-next-in-In.ensures.next in
    let f = finds_in rows query place row c.args.all.now c.next.new.self c.args.steps.now c.next.new.steps ready c.in_ok-next-in-In.ensures.know false t in
    let k = rw (c.next.ensures.belongs.query_is, c.in-Some.ensures.some) at c.in_records-in-In.ensures.found in
    rw c.in-In.is
    (ok_same c.in_records-in-In.result
    (Finds rows query place ((n + 1) ∷ []) false c.next.new.steps c.in_records-in-In.new.steps c.in_records-in-In.new.all)
    (Finds rows query place from _ c.args.steps.now c.in_records-in-In.new.steps c.in_records-in-In.new.all)
    (λ found is. behind_open rows query place n from _ c.args.steps.now c.next.new.steps c.in_records-in-In.new.steps c.in_records-in-In.new.all found f is) k)

pub returns-in-Ended-clause-found : goal.returns-in-Ended-clause-found
returns-in-Ended-clause-found g c =
    let none = rw c.in-Ended.is at c.requires.ready in
    rw c.in-Ended.is
    (record {
      none = none;
      to = [];
      begun = begun_none (IsPairLeft c.args.shelf.now.rows c.args.all.now.query.now c.args.place.now) [] c.args.steps.now c.args.steps.now refl;
    })
