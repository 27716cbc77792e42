use Rattle.std.proofs.Common.{◌≡◌, ap}
use Rattle.mk_rows.proofs.RowsLemmas.{number_read}
use Rattle.mk_rows.proofs.by_number.ByNumber.number_at.Goals as goal

pub returns-clause-number : goal.returns-clause-number
returns-clause-number g c =
    let shown : c.self.inside.rows.items ≡ c.args.self.now.rows = ap (λ m. m.rows) c.self.view_is in
    number_read c.args.place c.index.result.now c.self.inside.rows.items c.args.self.now.rows shown c.requires c.index.ensures
