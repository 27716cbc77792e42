use Rattle.std.proofs.Common.{◌∙◌, ◌∷◌, ap, sym}
use Rattle.mk_expansions.specs.Starts.{first_number}
use Rattle.mk_search.proofs.RecordTurnsLemmas.{moves_on, on_ready, out_ready, takes_out}
use Rattle.mk_search.proofs.SearchedLemmas.{standing_from, standing_in}
use Rattle.mk_search.proofs.hits.Hits.advance.Goals as goal

-- ---- after `Memory` records from the place on are to come

pub invariant_of-self : goal.invariant_of-self
invariant_of-self g c =
    let self = c.self.inside in
    rw c.replace-stage.ensures.after
    (standing_from self.shelf.now.rows self.place.items self.need self.all.query.now c.next_turn.new.all c.next_turn.ensures.belongs c.self.invariant.need_is
    c.first_number-first.result (c.first_number-first.ensures ∙ ap first_number c.deref.ensures.value))

pub invariant_of-self-in_err-put_higher-in-Out : goal.invariant_of-self-in_err-put_higher-in-Out
invariant_of-self-in_err-put_higher-in-Out g c =
    let self = c.self.inside in
    rw (c.in_err-put_higher-in-Out.ensures.same, c.replace-stage.ensures.after)
    (standing_from self.shelf.now.rows self.place.items self.need self.all.query.now c.next_turn.new.all c.next_turn.ensures.belongs c.self.invariant.need_is
    c.first_number-first.result (c.first_number-first.ensures ∙ ap first_number c.deref.ensures.value))

pub invariant_of-self-in_err-put_higher-in-On : goal.invariant_of-self-in_err-put_higher-in-On
invariant_of-self-in_err-put_higher-in-On g c =
    let self = c.self.inside in
    rw (c.in_err-put_higher-in-On.ensures.same, c.replace-stage.ensures.after)
    (standing_from self.shelf.now.rows self.place.items self.need self.all.query.now c.next_turn.new.all c.next_turn.ensures.belongs c.self.invariant.need_is
    c.first_number-first.result (c.first_number-first.ensures ∙ ap first_number c.deref.ensures.value))

-- ---- a turn

pub invariant_of-self-in-Out : goal.invariant_of-self-in-Out
invariant_of-self-in-Out g c =
    let self = c.self.inside in
    let rows = self.shelf.now.rows in
    let query = self.all.query.now in
    let k = rw (c.in-Out.is, c.deref-2.ensures.value, c.replace-stage.ensures.value) at c.in_ok-came.ensures.comes in
    standing_in rows c.put_higher.new.place.items self.need query c.next_turn.new.all c.next_turn.ensures.belongs c.self.invariant.need_is c.in-Out.row
    (out_ready rows query self.place.items _ _ _ c.args.steps.now c.next_turn.new.steps c.next_turn.new.all c.in-Out.row c.put_higher.new.place.items c.in_ok-put_higher-in-Out.ensures.higher k)

pub invariant_of-self-in-On : goal.invariant_of-self-in-On
invariant_of-self-in-On g c =
    let self = c.self.inside in
    let rows = self.shelf.now.rows in
    let query = self.all.query.now in
    let k = rw (c.in-On.is, c.deref-2.ensures.value, c.replace-stage.ensures.value) at c.in_ok-came.ensures.comes in
    standing_in rows c.put_higher-in-On.new.place.items self.need query c.next_turn.new.all c.next_turn.ensures.belongs c.self.invariant.need_is c.in-On.row
    (on_ready rows query self.place.items _ _ _ c.args.steps.now c.next_turn.new.steps c.next_turn.new.all c.in-On.row c.put_higher-in-On.new.place.items c.in_ok-put_higher-in-On.ensures.higher k)

pub returns-in_ok-put_higher-in-Out-clause-turn : goal.returns-in_ok-put_higher-in-Out-clause-turn
returns-in_ok-put_higher-in-Out-clause-turn g c =
    let self = c.self.inside in
    let k = rw (c.in-Out.is, c.deref-2.ensures.value, c.replace-stage.ensures.value) at c.in_ok-came.ensures.comes in
    rw (sym c.self.view_is) (
      c.in-Out.row.number ∷ k.numbers,
      takes_out self.shelf.now.rows self.all.query.now self.place.items _ _ _ c.args.steps.now c.next_turn.new.steps c.next_turn.new.all c.in-Out.row c.put_higher.new.place.items
          c.in_ok-put_higher-in-Out.ensures.higher c.next_turn.ensures.belongs.query_is k,
    )

pub returns-in_ok-put_higher-in-On-clause-turn : goal.returns-in_ok-put_higher-in-On-clause-turn
returns-in_ok-put_higher-in-On-clause-turn g c =
    let self = c.self.inside in
    let k = rw (c.in-On.is, c.deref-2.ensures.value, c.replace-stage.ensures.value) at c.in_ok-came.ensures.comes in
    rw (sym c.self.view_is)
    (moves_on self.shelf.now.rows self.all.query.now self.place.items _ _ _ c.args.steps.now c.next_turn.new.steps c.next_turn.new.all c.in-On.row c.put_higher-in-On.new.place.items
    c.in_ok-put_higher-in-On.ensures.higher c.next_turn.ensures.belongs.query_is k)
