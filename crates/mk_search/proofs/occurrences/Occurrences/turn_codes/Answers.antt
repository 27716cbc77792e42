use Rattle.std.proofs.Common.{◌∙◌, subst}
use Rattle.mk_model.specs.Logic.{IsValid}
use Rattle.mk_model.specs.Queries.{QueryView}
use Rattle.mk_search.proofs.TurnsLemmas.{bare_item, bare_moved, bare_none, codes_moved, none_to_open, shown_on}
use Rattle.mk_search.proofs.occurrences.Occurrences.turn_codes.Goals as goal

pub returns-in-End-clause-turn : goal.returns-in-End-clause-turn
returns-in-End-clause-turn g c =
    let self = c.args.self.now in
    let stands = rw c.requires.shut at c.requires.stands in
    none_to_open self.query.now c.args.row.mol.now c.args.place.now self.codes c.advance.new.self c.args.steps.now stands.left c.in-End.ensures.0 c.in-End.ensures.1

pub returns-in-Moved-clause-turn : goal.returns-in-Moved-clause-turn
returns-in-Moved-clause-turn g c =
    let self = c.args.self.now in
    let stands = rw c.requires.shut at c.requires.stands in
    rw c.requires.shut
    (codes_moved self.query.now c.args.row.mol.now c.args.place.now self.codes self.owed stands c.advance.new.self c.args.steps.now c.in-Moved.ensures.0 c.in-Moved.ensures.1)

pub open_code-requires-clause-code : goal.open_code-requires-clause-code
open_code-requires-clause-code g c =
    let code = c.in-Item.ensures.0.0 in
    let next = c.in-Item.ensures.0.1 in
    record { code = code; valid = subst (λ (q : QueryView). IsValid q code) c.requires.stands.left.query_is next.least.has; placed = next.place }

pub returns-then-not-branch-clause-turn : goal.returns-then-not-branch-clause-turn
returns-then-not-branch-clause-turn g c =
    let self = c.args.self.now in
    let stands = rw c.requires.shut at c.requires.stands in
    let shown = rw c.if-not-branch.true at c.in_ok-open_code-in-Item.ensures.shown in
    rw (c.requires.shut, c.in_ok-open_code-in-Item.ensures.owed)
    (shown_on self.query.now c.args.row.mol.now c.args.place.now self.codes self.owed stands c.advance.new.self c.in-Item.ensures.0.0 c.in-Item.ensures.0.1 c.in-Item.ensures.1
    c.templates-fits.ensures.kept c.open_code.new.self.codes c.open_code.new.self.open c.args.steps.now c.open_code.new.steps shown)

pub returns-in-Item-2-clause-turn : goal.returns-in-Item-2-clause-turn
returns-in-Item-2-clause-turn g c =
    let self = c.args.self.now in
    let stands = rw c.requires.shut at c.requires.stands in
    let shown = rw c.if-not-branch.false at c.in_ok-open_code-in-Item.ensures.shown in
    let turn = rw c.in-Item-2.is at c.in_ok-turn_here-in-Item.ensures.turn in
    rw (c.requires.shut, c.in_ok-turn_here-in-Item.ensures.codes, c.in_ok-turn_here-in-Item.ensures.owed ∙ c.in_ok-open_code-in-Item.ensures.owed)
    (bare_item self.query.now c.args.row.mol.now c.args.place.now self.codes self.owed stands c.advance.new.self c.in-Item.ensures.0.0 c.in-Item.ensures.0.1 c.in-Item.ensures.1
    c.open_code.new.self.codes c.open_code.new.self.open c.turn_here.new.self.open c.args.steps.now c.open_code.new.steps shown turn)

pub returns-in-Moved-2-clause-turn : goal.returns-in-Moved-2-clause-turn
returns-in-Moved-2-clause-turn g c =
    let self = c.args.self.now in
    let stands = rw c.requires.shut at c.requires.stands in
    let shown = rw c.if-not-branch.false at c.in_ok-open_code-in-Item.ensures.shown in
    let turn = rw c.in-Moved-2.is at c.in_ok-turn_here-in-Item.ensures.turn in
    rw (c.requires.shut, c.in_ok-turn_here-in-Item.ensures.codes, c.in_ok-turn_here-in-Item.ensures.owed ∙ c.in_ok-open_code-in-Item.ensures.owed)
    (bare_moved self.query.now c.args.row.mol.now c.args.place.now self.codes self.owed stands c.advance.new.self c.in-Item.ensures.0.0 c.in-Item.ensures.0.1 c.in-Item.ensures.1
    c.templates-fits.ensures.kept c.open_code.new.self.codes c.open_code.new.self.open c.turn_here.new.self.open c.args.steps.now c.open_code.new.steps shown turn)

pub returns-in-End-2-clause-turn : goal.returns-in-End-2-clause-turn
returns-in-End-2-clause-turn g c =
    let self = c.args.self.now in
    let stands = rw c.requires.shut at c.requires.stands in
    let shown = rw c.if-not-branch.false at c.in_ok-open_code-in-Item.ensures.shown in
    let turn = rw c.in-End-2.is at c.in_ok-turn_here-in-Item.ensures.turn in
    rw (c.requires.shut, c.in_ok-turn_here-in-Item.ensures.codes, c.in_ok-turn_here-in-Item.ensures.owed ∙ c.in_ok-open_code-in-Item.ensures.owed)
    (bare_none self.query.now c.args.row.mol.now c.args.place.now self.codes self.owed stands c.advance.new.self c.in-Item.ensures.0.0 c.in-Item.ensures.0.1 c.in-Item.ensures.1
    c.templates-fits.ensures.kept c.open_code.new.self.codes c.open_code.new.self.open c.turn_here.new.self.open c.args.steps.now c.open_code.new.steps shown turn)
