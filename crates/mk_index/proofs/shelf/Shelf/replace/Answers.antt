use Rattle.std.proofs.Common.{◌≡◌, ◌∙◌, length, vec_capacity, true, ap, arith}
use Rattle.std.proofs.lemmas.List.{length-set}
use Rattle.mk_model.specs.Molecules.{Molecule}
use Rattle.mk_rows.specs.declared.by_number.Numbered.{Numbered}
use Rattle.mk_rows.specs.Rows.{holds}
use Rattle.mk_index.specs.Shelf.{IsKept}
use Rattle.mk_index.proofs.BesideLemmas.{beside_replaced, beside_size}
use Rattle.mk_rows.proofs.ForCallers.{held_within}
use Rattle.mk_index.proofs.SpareLemmas.{spare_same}
use Rattle.mk_index.proofs.shelf.Shelf.replace.Goals as goal

pub change_screen-requires-clause-within : goal.change_screen-requires-clause-within
change_screen-requires-clause-within c =
    let held : holds c.args.number c.self.inside.rows.rows ≡ true = ap (λ m. holds c.args.number m.rows) c.self.view_is ∙ c.requires.held in
    omega (arith, c.place-at.ensures.place, held_within c.args.number c.self.inside.rows.rows held, beside_size c.self.inside.rows.rows c.self.inside.screens.items c.self.invariant.beside)

pub invariant_of-self : goal.invariant_of-self
invariant_of-self c =
    let row : Numbered Molecule = record { number = c.args.number; item = c.args.mol } in
    let held : holds c.args.number c.self.inside.rows.rows ≡ true = ap (λ m. holds c.args.number m.rows) c.self.view_is ∙ c.requires.held in
    record {
      beside = rw (c.replace-former.ensures.rows, c.change_screen.ensures.screens, c.place-at.ensures.place)
          (beside_replaced row c.screen_of-screen.result c.screen_of-screen.ensures c.self.inside.rows.rows c.self.inside.screens.items c.self.invariant.beside c.place-at.ensures.rising held);
      bits = c.change_screen.ensures.columns;
    }

pub returns-clause-kept : goal.returns-clause-kept
returns-clause-kept c =
    let rows = c.self.inside.rows.rows in
    let screens = c.self.inside.screens.items in
    let is : IsKept c.replace-former.new.self.rows c.change_screen.new.screens.items c.change_screen.new.columns.items = invariant_of-self c in
    let same : length c.replace-former.new.self.rows ≡ length rows =
    omega (
      arith,
      beside_size c.replace-former.new.self.rows c.change_screen.new.screens.items is.beside,
      beside_size rows screens c.self.invariant.beside,
      ap length c.change_screen.ensures.screens,
      length-set screens c.place-at.result c.screen_of-screen.result,
    ) in
    spare_same c.self.inside.rows.spare c.replace-former.new.self.spare (vec_capacity c.self.inside.screens)
    (vec_capacity c.change_screen.new.screens) (vec_capacity c.self.inside.columns)
    (vec_capacity c.change_screen.new.columns) (length rows) (length c.replace-former.new.self.rows)
    c.replace-former.ensures.kept c.change_screen.ensures.kept c.change_screen.ensures.columns_kept same ∙ ap (λ m. m.spare) c.self.view_is
