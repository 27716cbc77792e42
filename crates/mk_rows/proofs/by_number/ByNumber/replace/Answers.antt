use Rattle.std.proofs.Common.{◌≡◌, ◌∙◌, length, sym, ap, arith, Some}
use Rattle.mk_rows.proofs.RowsLemmas.{row_item, row_number, row_replaced, replaced_rising, held_within}
use Rattle.mk_rows.proofs.by_number.ByNumber.replace.Goals as goal

pub index_mut-requires : goal.index_mut-requires
index_mut-requires g c =
    let shown : c.self.inside.rows.items ≡ c.args.self.now.rows = ap (λ m. m.rows) c.self.view_is in
    let less = held_within c.args.number c.args.self.now.rows c.requires.held in
    omega (arith, ap length shown, c.place-at.ensures.place, less)

pub returns-clause-rows : goal.returns-clause-rows
returns-clause-rows g c =
    let shown : c.self.inside.rows.items ≡ c.args.self.now.rows = ap (λ m. m.rows) c.self.view_is in
    let same = row_number c.args.number c.place-at.result c.index_mut.result.now c.self.inside.rows.items c.args.self.now.rows shown c.place-at.ensures.place
    c.place-at.ensures.rising c.requires.held c.index_mut.ensures.value in
    rw (same, c.replace.ensures.after)
    (row_replaced c.place-at.result (record { number = c.args.number; item = c.args.item }) c.self.inside.rows.items c.args.self.now.rows shown
    c.place-at.ensures.place c.place-at.ensures.rising c.requires.held)

pub invariant_of-self : goal.invariant_of-self
invariant_of-self g c =
    rw (returns-clause-rows g c)
    (replaced_rising (record { number = c.args.number; item = c.args.item }) c.args.self.now.rows c.place-at.ensures.rising)

pub returns-clause-former : goal.returns-clause-former
returns-clause-former g c =
    let shown : c.self.inside.rows.items ≡ c.args.self.now.rows = ap (λ m. m.rows) c.self.view_is in
    row_item c.args.number c.place-at.result c.index_mut.result.now c.self.inside.rows.items c.args.self.now.rows shown c.place-at.ensures.place c.place-at.ensures.rising
    c.requires.held c.index_mut.ensures.value ∙ ap (λ x. Some x) (sym c.replace.ensures.value)
