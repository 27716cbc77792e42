use Rattle.std.proofs.Common.{◌≡◌, ◌∙◌, get_or, Option, true, ap, arith, subst}
use Rattle.std.specs.Prelude.{IfSome}
use Rattle.mk_model.specs.Molecules.{Molecule}
use Rattle.mk_model.specs.Screens.{IsScreenOf}
use Rattle.mk_rows.specs.Rows.{holds, item_at}
use Rattle.mk_index.proofs.BesideLemmas.{beside_item, beside_size}
use Rattle.mk_rows.proofs.ForCallers.{held_within}
use Rattle.mk_index.proofs.shelf.Shelf.screen.Goals as goal

pub index-requires : goal.index-requires
index-requires c =
    let held : holds c.args.number c.self.inside.rows.rows ≡ true = ap (λ m. holds c.args.number m.rows) c.self.view_is ∙ c.requires in
    omega (
      arith,
      c.place.ensures.place,
      held_within c.args.number c.self.inside.rows.rows held,
      beside_size c.self.inside.rows.rows c.self.inside.screens.items c.self.invariant.beside,
      c.self.inside.screens.ok.0,
    )

pub returns : goal.returns
returns c =
    let held : holds c.args.number c.self.inside.rows.rows ≡ true = ap (λ m. holds c.args.number m.rows) c.self.view_is ∙ c.requires in
    let P : Option Molecule → Type 0 = λ found. IfSome found (λ mol. IsScreenOf mol c.index.result.now) in
    subst P (ap (λ m. item_at c.args.number m.rows) c.self.view_is)
    (beside_item c.args.number c.self.inside.rows.rows c.self.inside.screens.items c.self.invariant.beside c.place.ensures.rising held c.index.result.now
    (c.index.ensures ∙ ap (λ i. get_or c.self.inside.screens.items i c.index.result.now) c.place.ensures.place))
