use Rattle.mk_search.specs.Turns.{IsTurnIn}
use Rattle.mk_search.proofs.SearchedLemmas.{ok_same}
use Rattle.mk_search.proofs.TurnsLemmas.{behind_here, closed_here, item_here, moved_here, shut_here}
use Rattle.mk_search.proofs.occurrences.Occurrences.advance.Goals as goal

pub turn_codes-requires-clause-stands : goal.turn_codes-requires-clause-stands
turn_codes-requires-clause-stands g c =
    let self = c.args.self.now in
    let turn = rw c.in-End.is at c.in_ok-turn_here.ensures.turn in
    rw (c.turn_here.ensures.belongs.query_is, c.in_ok-turn_here.ensures.codes, c.in_ok-turn_here.ensures.owed)
    (closed_here self.query.now c.args.row.mol.now c.args.place.now self.codes self.owed self.open c.turn_here.new.self.open c.requires.stands turn)

pub turn_codes-requires-clause-shut : goal.turn_codes-requires-clause-shut
turn_codes-requires-clause-shut g c = shut_here c.args.self.now.query.now c.args.row.mol.now c.args.self.now.open c.turn_here.new.self.open (rw c.in-End.is at c.in_ok-turn_here.ensures.turn)

pub returns-in-Item-clause-turn : goal.returns-in-Item-clause-turn
returns-in-Item-clause-turn g c =
    let self = c.args.self.now in
    let turn = rw c.in-Item.is at c.in_ok-turn_here.ensures.turn in
    rw (c.in_ok-turn_here.ensures.codes, c.in_ok-turn_here.ensures.owed)
    (item_here self.query.now c.args.row.mol.now c.args.place.now self.codes self.owed self.open c.turn_here.new.self.open c.args.steps.now c.requires.stands turn)

pub returns-in-Moved-clause-turn : goal.returns-in-Moved-clause-turn
returns-in-Moved-clause-turn g c =
    let self = c.args.self.now in
    let turn = rw c.in-Moved.is at c.in_ok-turn_here.ensures.turn in
    rw (c.in_ok-turn_here.ensures.codes, c.in_ok-turn_here.ensures.owed)
    (moved_here self.query.now c.args.row.mol.now c.templates-fits.ensures.kept c.args.place.now self.codes self.owed self.open c.turn_here.new.self.open c.args.steps.now c.requires.stands turn)

pub returns-in-End-clause-turn : goal.returns-in-End-clause-turn
returns-in-End-clause-turn g c =
    let self = c.args.self.now in
    let query = self.query.now in
    let mol = c.args.row.mol.now in
    let place = c.args.place.now in
    let new = c.turn_codes.new.self in
    let shut = c.turn_here.new.self.open in
    let turn = rw c.in-End.is at c.in_ok-turn_here.ensures.turn in
    let its = rw (c.turn_here.ensures.belongs.query_is, c.in_ok-turn_here.ensures.codes, c.in_ok-turn_here.ensures.owed) at c.turn_codes.ensures.turn in
    ok_same c.turn_codes.result
    (IsTurnIn query mol place self.codes self.owed shut new.codes new.owed new.open c.args.steps.now c.turn_codes.new.steps)
    (IsTurnIn query mol place self.codes self.owed self.open new.codes new.owed new.open c.args.steps.now c.turn_codes.new.steps)
    (λ t is. behind_here query mol place self.codes self.owed self.open shut new.codes new.owed new.open c.args.steps.now c.turn_codes.new.steps t turn is) its
