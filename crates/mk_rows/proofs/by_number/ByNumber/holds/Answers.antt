use Rattle.std.proofs.Common.{◌≡◌, length, sym, ap, arith}
use Rattle.mk_rows.proofs.RowsLemmas.{row_held, not_held_past}
use Rattle.mk_rows.proofs.by_number.ByNumber.holds.Goals as goal

pub returns-then-at-len : goal.returns-then-at-len
returns-then-at-len g c =
    let shown : c.self.inside.rows.items ≡ c.args.self.now.rows = ap (λ m. m.rows) c.self.view_is in
    sym (not_held_past c.args.number c.args.self.now.rows (rw (sym c.place-at.ensures.place) (omega (arith, ap length shown, c.len.ensures))))

pub returns : goal.returns
returns g c =
    let shown : c.self.inside.rows.items ≡ c.args.self.now.rows = ap (λ m. m.rows) c.self.view_is in
    row_held c.args.number c.place-at.result c.index.result.now c.self.inside.rows.items c.args.self.now.rows shown c.place-at.ensures.place
    (omega (arith, ap length shown, c.len.ensures)) c.place-at.ensures.rising c.index.ensures
