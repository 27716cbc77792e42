use Rattle.std.proofs.Common.{◌≡◌, ◌∙◌, length, sym, ap, arith}
use Rattle.mk_rows.proofs.RowsLemmas.{row_item, held_within}
use Rattle.mk_rows.proofs.by_number.ByNumber.get.Goals as goal

pub index-requires : goal.index-requires
index-requires g c =
    let shown : c.self.inside.rows.items ≡ c.args.self.now.rows = ap (λ m. m.rows) c.self.view_is in
    let less = held_within c.args.number c.args.self.now.rows (sym c.holds.ensures ∙ c.if-not-holds.false) in
    omega (arith, ap length shown, c.place.ensures.place, less)

pub returns-clause-some : goal.returns-clause-some
returns-clause-some g c =
    let shown : c.self.inside.rows.items ≡ c.args.self.now.rows = ap (λ m. m.rows) c.self.view_is in
    row_item c.args.number c.place.result c.index.result.now c.self.inside.rows.items c.args.self.now.rows shown c.place.ensures.place c.place.ensures.rising
    (sym c.holds.ensures ∙ c.if-not-holds.false) c.index.ensures
