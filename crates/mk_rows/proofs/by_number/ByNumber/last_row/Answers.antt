use Rattle.std.proofs.Common.{◌≡◌, ap, sym}
use Rattle.mk_rows.proofs.RowsLemmas.{last_read}
use Rattle.mk_rows.proofs.by_number.ByNumber.last_row.Goals as goal

pub returns-clause-some : goal.returns-clause-some
returns-clause-some g c =
    let shown : c.self.inside.rows.items ≡ c.args.self.now.rows = ap (λ m. m.rows) c.self.view_is in
    let is = rw c.deref.ensures.value at c.in-Some.ensures.value in
    last_read c.in-Some.row.now c.self.inside.rows.items c.args.self.now.rows shown c.self.invariant (sym is)
