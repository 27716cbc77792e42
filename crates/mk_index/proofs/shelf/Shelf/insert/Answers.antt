use Rattle.std.proofs.Common.{◌≡◌, ◌∙◌, ◌+◌, ◌≤◌, ℕ, length, vec_capacity, false, ap, arith, subst}
use Rattle.std.proofs.lemmas.List.Edits.{length-insert}
use Rattle.mk_model.specs.Molecules.{Molecule}
use Rattle.mk_rows.specs.declared.by_number.Numbered.{Numbered}
use Rattle.mk_rows.specs.Rows.{holds}
use Rattle.mk_index.specs.Shelf.{IsKept}
use Rattle.mk_index.proofs.BesideLemmas.{beside_put, beside_size}
use Rattle.mk_index.proofs.SpareLemmas.{spare_of, spare_put}
use Rattle.mk_index.proofs.shelf.Shelf.insert.Goals as goal

pub put_screen-requires-clause-within : goal.put_screen-requires-clause-within
put_screen-requires-clause-within c = omega (arith, c.place-at.ensures.within, beside_size c.self.inside.rows.rows c.self.inside.screens.items c.self.invariant.beside)

pub put_screen-requires-clause-room : goal.put_screen-requires-clause-room
put_screen-requires-clause-room c = omega (arith, ap (λ m. m.spare) c.self.view_is, c.requires.spare, beside_size c.self.inside.rows.rows c.self.inside.screens.items c.self.invariant.beside)

pub put_screen-requires-clause-columns_room : goal.put_screen-requires-clause-columns_room
put_screen-requires-clause-columns_room c = omega (arith, ap (λ m. m.spare) c.self.view_is, c.requires.spare, beside_size c.self.inside.rows.rows c.self.inside.screens.items c.self.invariant.beside)

pub invariant_of-self : goal.invariant_of-self
invariant_of-self c =
    let rows = c.self.inside.rows.rows in
    let row : Numbered Molecule = record { number = c.args.number; item = c.args.mol } in
    let new : holds c.args.number rows ≡ false = ap (λ m. holds c.args.number m.rows) c.self.view_is ∙ c.requires.new in
    record {
      beside = rw (c.insert.ensures.rows, c.put_screen.ensures.screens, c.place-at.ensures.place)
          (beside_put row c.screen_of-screen.result c.screen_of-screen.ensures rows c.self.inside.screens.items
          c.self.invariant.beside new);
      bits = c.put_screen.ensures.columns;
    }

pub returns-clause-kept : goal.returns-clause-kept
returns-clause-kept c =
    let rows = c.self.inside.rows.rows in
    let screens = c.self.inside.screens.items in
    let size = beside_size rows screens c.self.invariant.beside in
    let within : c.place-at.result ≤ length screens = omega (arith, c.place-at.ensures.within, size) in
    let is : IsKept c.insert.new.self.rows c.put_screen.new.screens.items c.put_screen.new.columns.items = invariant_of-self c in
    let more : length c.insert.new.self.rows ≡ length rows + 1 =
    omega (
      arith,
      beside_size c.insert.new.self.rows c.put_screen.new.screens.items is.beside,
      size,
      ap length c.put_screen.ensures.screens,
      length-insert screens c.place-at.result c.screen_of-screen.result
          within,
    ) in
    subst (λ (n : ℕ). n ≤ spare_of c.insert.new.self.spare (vec_capacity c.put_screen.new.screens)
    (vec_capacity c.put_screen.new.columns) (length c.insert.new.self.rows) + 1) (ap (λ m. m.spare) c.self.view_is)
    (spare_put c.self.inside.rows.spare c.insert.new.self.spare (vec_capacity c.self.inside.screens)
    (vec_capacity c.put_screen.new.screens) (vec_capacity c.self.inside.columns)
    (vec_capacity c.put_screen.new.columns) (length rows) (length c.insert.new.self.rows)
    c.insert.ensures.kept c.put_screen.ensures.kept c.put_screen.ensures.columns_kept more)
