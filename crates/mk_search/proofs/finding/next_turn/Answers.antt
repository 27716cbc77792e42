use Rattle.std.proofs.Common.{◌∷◌, [], ◌+◌, ℕ, false, length, refl}
use Rattle.mk_search.specs.Begun.{IsPairLeft}
use Rattle.mk_search.specs.Occurrences.{is_open}
use Rattle.mk_search.specs.Stages.{ComesTo, OwesFrom}
use Rattle.mk_search.specs.Turns.{debt_in}
use Rattle.mk_search.proofs.BegunLemmas.{begun_none}
use Rattle.mk_search.proofs.RecordTurnsLemmas.{behind_comes, comes_on, comes_out, enters_none, leaves_none, owes_all, owes_behind}
use Rattle.mk_search.proofs.SearchedLemmas.{none_last, ok_same}
use Rattle.mk_search.proofs.StagesLemmas.{at_next}
use Rattle.mk_search.proofs.finding.next_turn.Goals as goal

pub returns-in-Ended-clause-comes : goal.returns-in-Ended-clause-comes
returns-in-Ended-clause-comes g c =
    let none = rw c.in-Ended.is at c.requires.ready in
    rw c.in-Ended.is
    (record {
      none = none;
      to = [];
      begun = begun_none (IsPairLeft c.args.shelf.now.rows c.args.all.now.query.now c.args.place.now) [] c.args.steps.now c.args.steps.now refl;
    })

pub returns-in-From-clause-comes : goal.returns-in-From-clause-comes
returns-in-From-clause-comes g c =
    let rows = c.args.shelf.now.rows in
    let query = c.args.all.now.query.now in
    let place = c.args.place.now in
    let from = c.in-From.from in
    let new = c.turn_in_records.new.all in
    rw c.in-From.is
    (ok_same c.turn_in_records.result
    (λ came. (owed : ℕ) → OwesFrom place from owed → ComesTo rows query place owed (from ∷ []) false c.args.steps.now c.turn_in_records.new.steps new came)
    (ComesTo rows query place (length place) (from ∷ []) false c.args.steps.now c.turn_in_records.new.steps new)
    (λ came is. is (length place) (owes_all place from)) c.turn_in_records.ensures.comes)

pub advance-requires-clause-stands : goal.advance-requires-clause-stands
advance-requires-clause-stands g c =
    let here = rw c.in-In.is at c.requires.ready in
    rw c.rest_in.ensures (record { left = here.ready.left; by = here.by })

pub returns-in-Item-clause-comes : goal.returns-in-Item-clause-comes
returns-in-Item-clause-comes g c =
    let rows = c.args.shelf.now.rows in
    let query = c.args.all.now.query.now in
    let place = c.args.place.now in
    let all = c.args.all.now in
    let row = c.in-In.row in
    let here = rw c.in-In.is at c.requires.ready in
    let owed = debt_in all.codes all.owed all.open in
    let t = rw (c.rest_in.ensures, c.in-Item.is) at c.in_ok-advance-in-In.ensures.turn in
    rw c.in-In.is
    (comes_out rows query place row all here.ready c.advance.new.self c.in_ok-advance-in-In.ensures.know owed c.args.steps.now c.advance.new.steps
    (enters_none rows query place _ owed here.begins) t)

pub returns-in-Moved-clause-comes : goal.returns-in-Moved-clause-comes
returns-in-Moved-clause-comes g c =
    let rows = c.args.shelf.now.rows in
    let query = c.args.all.now.query.now in
    let place = c.args.place.now in
    let all = c.args.all.now in
    let row = c.in-In.row in
    let here = rw c.in-In.is at c.requires.ready in
    let owed = debt_in all.codes all.owed all.open in
    let t = rw (c.rest_in.ensures, c.in-Moved.is) at c.in_ok-advance-in-In.ensures.turn in
    rw c.in-In.is
    (comes_on rows query place row all here.ready c.advance.new.self c.in_ok-advance-in-In.ensures.know owed c.args.steps.now c.advance.new.steps
    (enters_none rows query place _ owed here.begins) t)

pub returns-in_default-clause-comes : goal.returns-in_default-clause-comes
returns-in_default-clause-comes g c =
    let rows = c.args.shelf.now.rows in
    let query = c.args.all.now.query.now in
    let place = c.args.place.now in
    let row = c.in-In.row in
    let here = rw c.in-In.is at c.requires.ready in
    let t = rw (c.rest_in.ensures, c.in-End.is) at c.in_ok-advance-in-In.ensures.turn in
    let f = leaves_none rows query place row c.args.all.now here.ready c.advance.new.self c.args.steps.now c.advance.new.steps t in
    rw c.in-In.is
    (none_last rows query place row.number (row.number ∷ c.args.all.now.codes.place) c.args.steps.now c.advance.new.steps f c.in_default.ensures.none)

pub turn_in_records-requires-in-End-clause-at : goal.turn_in_records-requires-in-End-clause-at
turn_in_records-requires-in-End-clause-at g c =
    let rows = c.args.shelf.now.rows in
    let query = c.args.all.now.query.now in
    let place = c.args.place.now in
    let row = c.in-In.row in
    let here = rw c.in-In.is at c.requires.ready in
    let t = rw (c.rest_in.ensures, c.in-End.is) at c.in_ok-advance-in-In.ensures.turn in
    let f = leaves_none rows query place row c.args.all.now here.ready c.advance.new.self c.args.steps.now c.advance.new.steps t in
    rw (c.advance.ensures.belongs.query_is, c.in-Some.ensures.some) (at_next rows query place row.number f.at)

pub returns-in-Some-clause-comes : goal.returns-in-Some-clause-comes
returns-in-Some-clause-comes g c =
    let rows = c.args.shelf.now.rows in
    let query = c.args.all.now.query.now in
    let place = c.args.place.now in
    let all = c.args.all.now in
    let row = c.in-In.row in
    let n = row.number in
    let from = n ∷ all.codes.place in
    let new = c.turn_in_records-in-End.new.all in
    let here = rw c.in-In.is at c.requires.ready in
    let owed' = debt_in all.codes all.owed all.open in
    let t = rw (c.rest_in.ensures, c.in-End.is) at c.in_ok-advance-in-In.ensures.turn in
    let f = leaves_none rows query place row all here.ready c.advance.new.self c.args.steps.now c.advance.new.steps t in
    let k = rw (c.advance.ensures.belongs.query_is, c.in-Some.ensures.some) at c.turn_in_records-in-End.ensures.comes in
    rw c.in-In.is
    (ok_same c.turn_in_records-in-End.result
    (λ came. (owed : ℕ) → OwesFrom place (n + 1) owed → ComesTo rows query place owed ((n + 1) ∷ []) false c.advance.new.steps c.turn_in_records-in-End.new.steps new came)
    (ComesTo rows query place owed' from (is_open all.open) c.args.steps.now c.turn_in_records-in-End.new.steps new)
    (λ came is. behind_comes rows query place n from owed' (is_open all.open) c.args.steps.now c.advance.new.steps c.turn_in_records-in-End.new.steps new came f
    (is owed' (owes_behind place n _ owed' here.begins))) k)
