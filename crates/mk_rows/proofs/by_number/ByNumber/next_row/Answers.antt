use Rattle.std.proofs.Common.{◌≡◌, length, sym, ap, arith}
use Rattle.mk_rows.proofs.RowsLemmas.{row_least, none_from}
use Rattle.mk_rows.proofs.by_number.ByNumber.next_row.Goals as goal

pub returns-then-at-len-clause-none : goal.returns-then-at-len-clause-none
returns-then-at-len-clause-none g c =
    let shown : c.self.inside.rows.items ≡ c.args.self.now.rows = ap (λ m. m.rows) c.self.view_is in
    none_from c.args.from c.args.self.now.rows (rw (sym c.place-at.ensures.place) (omega (arith, ap length shown, c.len.ensures)))

pub returns-clause-some : goal.returns-clause-some
returns-clause-some g c =
    let shown : c.self.inside.rows.items ≡ c.args.self.now.rows = ap (λ m. m.rows) c.self.view_is in
    row_least c.args.from c.place-at.result c.index.result.now c.self.inside.rows.items c.args.self.now.rows shown c.place-at.ensures.place
    (omega (arith, ap length shown, c.len.ensures)) c.place-at.ensures.rising c.index.ensures
