use Rattle.std.proofs.Common.{◌∙◌, ◌∷◌, [], refl, sym, arith}
use Rattle.mk_search.specs.declared.stages.Row.{Row}
use Rattle.mk_search.specs.declared.stages.Came.TheVariants.{Out, On}
use Rattle.mk_search.specs.Pages.{IsHeldIn}
use Rattle.mk_search.proofs.RecordTurnsLemmas.{comes_on, comes_out, comes_up, enters_bare, leaves_none, searched_comes}
use Rattle.mk_search.proofs.SearchedLemmas.{ready_first, searched_all, searched_more, searched_none}
use Rattle.mk_search.proofs.StagesLemmas.{no_record_held}
use Rattle.mk_search.proofs.finding.turn_in_records.Goals as goal

pub records-init : goal.records-init
records-init g c = record {
  searched = searched_none c.args.shelf.now.rows c.args.all.now.query.now c.args.place.now (c.args.from ∷ []) c.args.steps.now c.args.from c.requires.at refl;
  belongs = c.requires.belongs;
  later = omega arith;
  steps = omega arith;
}

pub returns-in_default-clause-comes : goal.returns-in_default-clause-comes
returns-in_default-clause-comes g c = λ owed owes.
    let none = rw c.records.invariant.belongs.query_is at c.in_default.ensures.none in
    searched_all c.args.shelf.now.rows c.args.all.now.query.now c.args.place.now (c.args.from ∷ []) c.args.steps.now c.records.next c.records.steps c.records.invariant.searched none

pub returns-then-has_slots-clause-comes : goal.returns-then-has_slots-clause-comes
returns-then-has_slots-clause-comes g c = λ owed owes.
    let rows = c.args.shelf.now.rows in
    let query = c.args.all.now.query.now in
    let place = c.args.place.now in
    let start = c.args.from ∷ [] in
    let inv = c.records.invariant in
    let own = inv.belongs.query_is in
    let row : Row = record { number = c.in-Some.number; mol = c.in-Some-get.mol; screen = c.screen-screen.result } in
    let next = rw own at c.in-Some.ensures.some in
    let held : IsHeldIn rows row.number row.mol.now = c.in-Some-get.ensures.some in
    let all = c.restart.new.self in
    let left = c.in_ok-restart.ensures.left row.mol.now in
    let ready = ready_first rows query place c.records.next inv.searched.at row held (rw held at c.screen-screen.ensures) next all (rw (own, c.rest_in-rest.ensures) at left)
    (c.in_ok-restart.ensures.know row.mol.now) in
    let few = rw (own, c.rest_in-rest.ensures) at c.in_ok-restart.ensures.few in
    let slots = rw (c.restart.ensures.belongs.query_is ∙ own) at c.if-has_slots.ensures in
    let comes = comes_up rows query place row all ready owed c.records.steps (rw (own, c.rest_in-rest.ensures) at c.in_ok-restart.ensures.stands) c.in_ok-restart.ensures.shut
    (rw c.rest_in-rest.ensures at c.in_ok-restart.ensures.within) (λ rest whole. owes row.number rest whole (omega (arith, next.not_below, inv.later))) few (sym slots) in
    searched_comes rows query place start owed c.args.steps.now c.records.steps c.records.steps c.records.next row.number all.codes.place all (On row) inv.searched next.not_below comes

pub advance-requires-clause-stands : goal.advance-requires-clause-stands
advance-requires-clause-stands g c =
    rw c.restart.ensures.belongs.query_is (record { left = c.in_ok-restart.ensures.left c.in-Some-get.mol.now; by = c.in_ok-restart.ensures.stands })

pub returns-in-Item-clause-comes : goal.returns-in-Item-clause-comes
returns-in-Item-clause-comes g c = λ owed owes.
    let rows = c.args.shelf.now.rows in
    let query = c.args.all.now.query.now in
    let place = c.args.place.now in
    let start = c.args.from ∷ [] in
    let inv = c.records.invariant in
    let own = inv.belongs.query_is in
    let row : Row = record { number = c.in-Some.number; mol = c.in-Some-get.mol; screen = c.screen-screen.result } in
    let next = rw own at c.in-Some.ensures.some in
    let held : IsHeldIn rows row.number row.mol.now = c.in-Some-get.ensures.some in
    let all = c.restart.new.self in
    let left = c.in_ok-restart.ensures.left row.mol.now in
    let ready = ready_first rows query place c.records.next inv.searched.at row held (rw held at c.screen-screen.ensures) next all (rw (own, c.rest_in-rest.ensures) at left)
    (c.in_ok-restart.ensures.know row.mol.now) in
    let few = rw (own, c.rest_in-rest.ensures) at c.in_ok-restart.ensures.few in
    let t = rw (c.restart.ensures.belongs.query_is ∙ own, c.rest_in-rest.ensures, c.in-Item.is) at c.in_ok-advance.ensures.turn in
    let enters = enters_bare rows query place row all ready c.in_ok-restart.ensures.shut owed (λ rest whole. owes row.number rest whole (omega (arith, next.not_below, inv.later))) few in
    let comes = comes_out rows query place row all ready c.advance.new.self c.in_ok-advance.ensures.know owed c.records.steps c.advance.new.steps enters t in
    searched_comes rows query place start owed c.args.steps.now c.records.steps c.advance.new.steps c.records.next row.number all.codes.place c.advance.new.self (Out row) inv.searched
    next.not_below (rw c.in_ok-restart.ensures.shut at comes)

pub returns-in-Moved-clause-comes : goal.returns-in-Moved-clause-comes
returns-in-Moved-clause-comes g c = λ owed owes.
    let rows = c.args.shelf.now.rows in
    let query = c.args.all.now.query.now in
    let place = c.args.place.now in
    let start = c.args.from ∷ [] in
    let inv = c.records.invariant in
    let own = inv.belongs.query_is in
    let row : Row = record { number = c.in-Some.number; mol = c.in-Some-get.mol; screen = c.screen-screen.result } in
    let next = rw own at c.in-Some.ensures.some in
    let held : IsHeldIn rows row.number row.mol.now = c.in-Some-get.ensures.some in
    let all = c.restart.new.self in
    let left = c.in_ok-restart.ensures.left row.mol.now in
    let ready = ready_first rows query place c.records.next inv.searched.at row held (rw held at c.screen-screen.ensures) next all (rw (own, c.rest_in-rest.ensures) at left)
    (c.in_ok-restart.ensures.know row.mol.now) in
    let few = rw (own, c.rest_in-rest.ensures) at c.in_ok-restart.ensures.few in
    let t = rw (c.restart.ensures.belongs.query_is ∙ own, c.rest_in-rest.ensures, c.in-Moved.is) at c.in_ok-advance.ensures.turn in
    let enters = enters_bare rows query place row all ready c.in_ok-restart.ensures.shut owed (λ rest whole. owes row.number rest whole (omega (arith, next.not_below, inv.later))) few in
    let comes = comes_on rows query place row all ready c.advance.new.self c.in_ok-advance.ensures.know owed c.records.steps c.advance.new.steps enters t in
    searched_comes rows query place start owed c.args.steps.now c.records.steps c.advance.new.steps c.records.next row.number all.codes.place c.advance.new.self (On row) inv.searched
    next.not_below (rw c.in_ok-restart.ensures.shut at comes)

pub returns-in_default-following-clause-comes : goal.returns-in_default-following-clause-comes
returns-in_default-following-clause-comes g c = λ owed owes.
    let rows = c.args.shelf.now.rows in
    let query = c.args.all.now.query.now in
    let place = c.args.place.now in
    let start = c.args.from ∷ [] in
    let inv = c.records.invariant in
    let own = inv.belongs.query_is in
    let row : Row = record { number = c.in-Some.number; mol = c.in-Some-get.mol; screen = c.screen-screen.result } in
    let next = rw own at c.in-Some.ensures.some in
    let held : IsHeldIn rows row.number row.mol.now = c.in-Some-get.ensures.some in
    let all = c.restart.new.self in
    let left = c.in_ok-restart.ensures.left row.mol.now in
    let ready = ready_first rows query place c.records.next inv.searched.at row held (rw held at c.screen-screen.ensures) next all (rw (own, c.rest_in-rest.ensures) at left)
    (c.in_ok-restart.ensures.know row.mol.now) in
    let t = rw (c.restart.ensures.belongs.query_is ∙ own, c.rest_in-rest.ensures, c.in-End.is) at c.in_ok-advance.ensures.turn in
    let f = leaves_none rows query place row all ready c.advance.new.self c.records.steps c.advance.new.steps t in
    let more = searched_more rows query place start c.args.steps.now c.records.next c.records.steps inv.searched row.number all.codes.place c.advance.new.steps next.not_below f in
    searched_all rows query place start c.args.steps.now _ c.advance.new.steps more (no_record_held rows query _ c.in_default-following.ensures.none)

pub records-preserved : goal.records-preserved
records-preserved g c =
    let rows = c.args.shelf.now.rows in
    let query = c.args.all.now.query.now in
    let place = c.args.place.now in
    let start = c.args.from ∷ [] in
    let inv = c.records.invariant in
    let own = inv.belongs.query_is in
    let row : Row = record { number = c.in-Some.number; mol = c.in-Some-get.mol; screen = c.screen-screen.result } in
    let next = rw own at c.in-Some.ensures.some in
    let held : IsHeldIn rows row.number row.mol.now = c.in-Some-get.ensures.some in
    let all = c.restart.new.self in
    let left = c.in_ok-restart.ensures.left row.mol.now in
    let ready = ready_first rows query place c.records.next inv.searched.at row held (rw held at c.screen-screen.ensures) next all (rw (own, c.rest_in-rest.ensures) at left)
    (c.in_ok-restart.ensures.know row.mol.now) in
    let t = rw (c.restart.ensures.belongs.query_is ∙ own, c.rest_in-rest.ensures, c.in-End.is) at c.in_ok-advance.ensures.turn in
    let f = leaves_none rows query place row all ready c.advance.new.self c.records.steps c.advance.new.steps t in
    let more = searched_more rows query place start c.args.steps.now c.records.next c.records.steps inv.searched row.number all.codes.place c.advance.new.steps next.not_below f in
    record {
      searched = rw c.in-Some-following.ensures.some more;
      belongs = rw (c.restart.ensures.belongs.query_is ∙ own) at c.advance.ensures.belongs;
      later = omega (arith, inv.later, next.not_below, c.in-Some-following.ensures.some);
      steps = omega (arith, inv.steps, c.advance.ensures.steps);
    }
