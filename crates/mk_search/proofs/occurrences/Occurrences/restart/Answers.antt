use Rattle.std.proofs.Common.{◌∙◌, subst}
use Rattle.mk_model.specs.Queries.{QueryView}
use Rattle.mk_choice.specs.Codes.{IsMadeFrom}
use Rattle.mk_search.proofs.OpenLemmas.{leaves_start}
use Rattle.mk_search.proofs.TurnsLemmas.{few_start, higher_start, shut_start, start_within}
use Rattle.mk_search.proofs.occurrences.Occurrences.restart.Goals as goal

pub returns-clause-left : goal.returns-clause-left
returns-clause-left c = λ mol.
    let made = c.in_ok-rewind.ensures.left in
    let query = c.args.self.now.query.now in
    rw c.replace.ensures.after
    (leaves_start query mol c.args.place.now c.start-start.result.now c.rewind.new.self c.start-start.ensures (made.query_is ∙ c.requires.codes_of) made.place_is)

pub returns-clause-stands : goal.returns-clause-stands
returns-clause-stands c =
    rw c.replace.ensures.after (shut_start c.args.self.now.query.now c.args.place.now c.start-start.result.now c.rewind.new.self c.start-start.ensures c.in_ok-rewind.ensures.left.place_is)

pub returns-clause-within : goal.returns-clause-within
returns-clause-within c =
    higher_start c.args.self.now.query.now c.args.place.now c.start-start.result.now c.rewind.new.self.place c.start-start.ensures c.in_ok-rewind.ensures.left.place_is

pub returns-clause-few : goal.returns-clause-few
returns-clause-few c =
    let made = subst (λ (q : QueryView). IsMadeFrom q c.start-start.result.now c.rewind.new.self) c.requires.codes_of c.in_ok-rewind.ensures.left in
    few_start c.args.self.now.query.now c.args.place.now c.start-start.result.now c.rewind.new.self c.start-start.ensures made

pub overflow_sub-self : goal.overflow_sub-self
overflow_sub-self c = start_within c.args.self.now.query.now c.args.place.now c.start-start.result.now c.start-start.ensures
