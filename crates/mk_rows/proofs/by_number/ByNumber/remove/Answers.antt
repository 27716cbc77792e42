use Rattle.std.proofs.Common.{◌≡◌, ◌∙◌, length, sym, ap, arith}
use Rattle.mk_rows.proofs.RowsLemmas.{row_item, row_without, without_rising, without_none, no_item, held_within}
use Rattle.mk_rows.proofs.by_number.ByNumber.remove.Goals as goal

pub returns-then-not-holds-clause-item : goal.returns-then-not-holds-clause-item
returns-then-not-holds-clause-item g c = no_item c.args.number c.args.self.now.rows (sym c.holds.ensures ∙ c.if-not-holds.true)

pub returns-then-not-holds-clause-rows : goal.returns-then-not-holds-clause-rows
returns-then-not-holds-clause-rows g c = sym (without_none c.args.number c.args.self.now.rows (sym c.holds.ensures ∙ c.if-not-holds.true))

pub remove-requires : goal.remove-requires
remove-requires g c =
    let shown : c.self.inside.rows.items ≡ c.args.self.now.rows = ap (λ m. m.rows) c.self.view_is in
    let less = held_within c.args.number c.args.self.now.rows (sym c.holds.ensures ∙ c.if-not-holds.false) in
    omega (arith, ap length shown, c.place-at.ensures.place, less)

pub returns-clause-rows : goal.returns-clause-rows
returns-clause-rows g c =
    let shown : c.self.inside.rows.items ≡ c.args.self.now.rows = ap (λ m. m.rows) c.self.view_is in
    row_without c.args.number c.place-at.result c.self.inside.rows.items c.args.self.now.rows c.remove.new.self.items shown c.place-at.ensures.place c.place-at.ensures.rising
    (sym c.holds.ensures ∙ c.if-not-holds.false) c.remove.ensures.items

pub invariant_of-self : goal.invariant_of-self
invariant_of-self g c = rw (returns-clause-rows g c) (without_rising c.args.number c.args.self.now.rows c.place-at.ensures.rising)

pub returns-clause-item : goal.returns-clause-item
returns-clause-item g c =
    let shown : c.self.inside.rows.items ≡ c.args.self.now.rows = ap (λ m. m.rows) c.self.view_is in
    row_item c.args.number c.place-at.result c.remove.result c.self.inside.rows.items c.args.self.now.rows shown c.place-at.ensures.place c.place-at.ensures.rising
    (sym c.holds.ensures ∙ c.if-not-holds.false) c.remove.ensures.value
