use Rattle.std.proofs.Common.{◌≡◌, ◌∙◌, ◌+◌, ◌*◌, ◌/◌, ◌≤◌, ◌<◌, ℕ, length, vec_capacity, false, ap, arith, subst, sym}
use Rattle.std.proofs.lemmas.List.Edits.{length-remove}
use Rattle.std.proofs.lemmas.Option.{IfSome_then}
use Rattle.mk_rows.specs.Rows.{holds}
use Rattle.mk_index.specs.Shelf.{IsKept}
use Rattle.mk_index.proofs.BesideLemmas.{beside_size, beside_without}
use Rattle.mk_index.proofs.PostingsLemmas.{held_has}
use Rattle.mk_rows.proofs.ForCallers.{held_within, no_item, without_none}
use Rattle.mk_index.proofs.SpareLemmas.{none_absurd, room_within, spare_of, spare_taken}
use Rattle.mk_index.proofs.shelf.Shelf.remove.Goals as goal

pub returns-then-not-holds-clause-item : goal.returns-then-not-holds-clause-item
returns-then-not-holds-clause-item c =
    let none : holds c.args.number c.args.self.now.rows ≡ false = ap (λ m. holds c.args.number m.rows) (sym c.self.view_is) ∙ sym c.holds.ensures ∙ c.if-not-holds.true in
    no_item c.args.number c.args.self.now.rows none

pub returns-then-not-holds-clause-rows : goal.returns-then-not-holds-clause-rows
returns-then-not-holds-clause-rows c =
    let none : holds c.args.number c.args.self.now.rows ≡ false = ap (λ m. holds c.args.number m.rows) (sym c.self.view_is) ∙ sym c.holds.ensures ∙ c.if-not-holds.true in
    sym (without_none c.args.number c.args.self.now.rows none)

pub take_screen-requires-clause-within : goal.take_screen-requires-clause-within
take_screen-requires-clause-within c =
    omega (
      arith,
      c.place-at.ensures.place,
      held_within c.args.number c.self.inside.rows.rows
          (sym c.holds.ensures ∙ c.if-not-holds.false),
      beside_size c.self.inside.rows.rows c.self.inside.screens.items
          c.self.invariant.beside,
    )

pub invariant_of-self : goal.invariant_of-self
invariant_of-self c = record {
  beside = rw (c.remove.ensures.rows, c.take_screen.ensures.screens, c.place-at.ensures.place)
      (beside_without c.args.number c.self.inside.rows.rows c.self.inside.screens.items c.self.invariant.beside c.place-at.ensures.rising (sym c.holds.ensures ∙ c.if-not-holds.false));
  bits = c.take_screen.ensures.columns;
}

pub returns-clause-freed : goal.returns-clause-freed
returns-clause-freed c =
    let rows = c.self.inside.rows.rows in
    let screens = c.self.inside.screens.items in
    let size = beside_size rows screens c.self.invariant.beside in
    let within : c.place-at.result < length screens = omega (arith, c.place-at.ensures.place, held_within c.args.number rows (sym c.holds.ensures ∙ c.if-not-holds.false), size) in
    let is : IsKept c.remove.new.self.rows c.take_screen.new.screens.items c.take_screen.new.columns.items = invariant_of-self c in
    let less : length c.remove.new.self.rows + 1 ≡ length rows =
    omega (
      arith,
      beside_size c.remove.new.self.rows c.take_screen.new.screens.items is.beside,
      size,
      ap length c.take_screen.ensures.screens,
      length-remove screens c.place-at.result within,
    ) in
    let in_screens : length rows ≤ vec_capacity c.self.inside.screens = omega (arith, size, c.self.inside.screens.ok.0, c.self.inside.screens.ok.1) in
    let in_columns : length rows ≤ 64 * (vec_capacity c.self.inside.columns / 512) =
    omega (
      arith,
      size,
      room_within screens c.self.inside.columns.items (vec_capacity c.self.inside.columns)
          c.self.invariant.bits (omega (arith, c.self.inside.columns.ok.0, c.self.inside.columns.ok.1)),
    ) in
    IfSome_then c.remove.result c.remove.ensures.freed
    (λ mol freed.
    subst (λ (n : ℕ). n + 1 ≤ spare_of c.remove.new.self.spare (vec_capacity c.take_screen.new.screens)
    (vec_capacity c.take_screen.new.columns) (length c.remove.new.self.rows)) (ap (λ m. m.spare) c.self.view_is)
    (spare_taken c.self.inside.rows.spare c.remove.new.self.spare (vec_capacity c.self.inside.screens)
    (vec_capacity c.take_screen.new.screens) (vec_capacity c.self.inside.columns)
    (vec_capacity c.take_screen.new.columns) (length rows) (length c.remove.new.self.rows)
    freed c.take_screen.ensures.kept c.take_screen.ensures.columns_kept less in_screens in_columns))

pub returns-clause-kept : goal.returns-clause-kept
returns-clause-kept c =
    none_absurd c.remove.result _ (λ none. held_has c.self.inside.rows.rows c.args.number (sym c.holds.ensures ∙ c.if-not-holds.false) (c.remove.ensures.item ∙ none))
