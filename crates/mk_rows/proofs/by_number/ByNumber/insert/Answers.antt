use Rattle.std.proofs.Common.{◌≡◌, length, ap, arith}
use Rattle.mk_rows.proofs.RowsLemmas.{took}
use Rattle.mk_rows.proofs.RowsLemmas.{put_rising, row_put}
use Rattle.mk_rows.proofs.by_number.ByNumber.insert.Goals as goal

pub insert-requires : goal.insert-requires
insert-requires g c =
    let shown : c.self.inside.rows.items ≡ c.args.self.now.rows = ap (λ m. m.rows) c.self.view_is in
    omega (arith, ap length shown, c.place-at.ensures.within)

pub returns-clause-rows : goal.returns-clause-rows
returns-clause-rows g c =
    let shown : c.self.inside.rows.items ≡ c.args.self.now.rows = ap (λ m. m.rows) c.self.view_is in
    row_put c.place-at.result (record { number = c.args.number; item = c.args.item }) c.self.inside.rows.items c.args.self.now.rows c.insert.new.self.items shown
    c.place-at.ensures.place c.place-at.ensures.rising c.requires.new
    (took c.insert.result _ _ _ (c.insert.ensures.succeeds (omega (arith, ap (λ m. m.spare) c.self.view_is, c.requires.spare))) c.insert.ensures.items)

pub invariant_of-self : goal.invariant_of-self
invariant_of-self g c =
    rw (returns-clause-rows g c)
    (put_rising (record { number = c.args.number; item = c.args.item }) c.args.self.now.rows c.place-at.ensures.rising c.requires.new)
