use Rattle.mk_search.proofs.NeedsLemmas.{nothing_by_number, nothing_by_screen, some_by_number, some_by_screen}
use Rattle.mk_search.proofs.records.next_record.Goals as goal

pub returns-in-Some-clause-some : goal.returns-in-Some-clause-some
returns-in-Some-clause-some c = some_by_screen c.args.shelf.now.rows c.args.query.now c.args.from c.in-Some.need
    c.candidate_from.result (rw c.in-Some.is at c.requires) c.candidate_from.ensures.screens
    c.candidate_from.ensures.some

pub returns-in-Some-clause-none : goal.returns-in-Some-clause-none
returns-in-Some-clause-none c = nothing_by_screen c.args.shelf.now.rows c.args.query.now c.args.from c.in-Some.need
    c.candidate_from.result (rw c.in-Some.is at c.requires) c.candidate_from.ensures.screens
    c.candidate_from.ensures.none

pub returns-in-None-clause-some : goal.returns-in-None-clause-some
returns-in-None-clause-some c = some_by_number c.args.shelf.now.rows c.args.query.now c.args.from c.next_row.result c.next_row.ensures.some

pub returns-in-None-clause-none : goal.returns-in-None-clause-none
returns-in-None-clause-none c = nothing_by_number c.args.shelf.now.rows c.args.query.now c.args.from c.next_row.result c.next_row.ensures.none
