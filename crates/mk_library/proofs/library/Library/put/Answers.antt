use Rattle.std.proofs.Common.{◌∙◌, ◌-◌, ◌≤◌, length, arith, sym, ap, subst}
use Rattle.mk_outside.specs.declared.tables.Change.TheVariants.{PutRecord}
use Rattle.mk_library.specs.Library.{HasRoom, LibraryView, tables_of}
use Rattle.mk_library.specs.Pending.{IsNumbered, KeepsLimits}
use Rattle.mk_library.proofs.ChangeLemmas.{former_within, held_kept, held_tables, new_kept, new_known, new_tables}
use Rattle.mk_library.proofs.RecordsLemmas.{holds_beside}
use Rattle.mk_library.proofs.library.Library.put.Goals as goal

-- ---- a number that is held

pub replace-requires : goal.replace-requires
replace-requires c = record { held = holds_beside c.args.number c.self.inside.texts.rows c.self.inside.shelf.rows c.self.invariant.0.held ∙ sym c.holds.ensures ∙ c.if-holds.true }

pub overflow_sub-self : goal.overflow_sub-self
overflow_sub-self c =
    let within = former_within c.args.number c.replace-former.result c.self.inside.texts.rows c.replace-former.ensures.former in
    omega (arith, within, c.self.invariant.0.counted, ap length c.as_slice.ensures)

pub invariant_of-self : goal.invariant_of-self
invariant_of-self c =
    let numbered = subst (λ (v : LibraryView). IsNumbered (PutRecord c.args.number c.args.text) (tables_of v)) (sym c.self.view_is) c.requires.numbered in
    let limits = subst (λ (v : LibraryView). KeepsLimits (PutRecord c.args.number c.args.text) (tables_of v)) (sym c.self.view_is) c.requires.limits in
    let room : HasRoom c.replace-former.new.self.spare c.replace.new.self.spare c.self.inside.room = record {
      in_texts = omega (arith, c.replace-former.ensures.kept, c.self.invariant.1.in_texts);
      on_shelf = omega (arith, c.replace.ensures.kept, c.self.invariant.1.on_shelf);
    } in (
      rw (c.replace-former.ensures.rows, c.replace.ensures.rows, c.as_slice.ensures, c.as_slice-size.ensures)
          (held_kept c.self.inside.texts.rows c.self.inside.shelf.rows c.self.inside.bytes c.self.inside.next c.args.number c.args.text c.replace-former.result c.args.mol
          c.self.invariant.0 (sym c.holds.ensures ∙ c.if-holds.true) c.replace-former.ensures.former c.requires.molecule limits),
      room,
    )

pub returns-then-holds-clause-tables : goal.returns-then-holds-clause-tables
returns-then-holds-clause-tables c =
    rw (sym c.self.view_is, c.replace-former.ensures.rows)
    (held_tables c.self.inside.texts.rows c.self.inside.shelf.rows c.self.inside.bytes c.self.inside.next c.args.number c.args.text c.self.invariant.0 (sym c.holds.ensures ∙ c.if-holds.true))

-- ---- the next number

pub insert-requires-2-clause-new : goal.insert-requires-2-clause-new
insert-requires-2-clause-new c = holds_beside c.args.number c.self.inside.texts.rows c.self.inside.shelf.rows c.self.invariant.0.held ∙ sym c.holds.ensures ∙ c.if-holds.false

pub overflow_add-self-3 : goal.overflow_add-self-3
overflow_add-self-3 c =
    let numbered = subst (λ (v : LibraryView). IsNumbered (PutRecord c.args.number c.args.text) (tables_of v)) (sym c.self.view_is) c.requires.numbered in
    let limits = subst (λ (v : LibraryView). KeepsLimits (PutRecord c.args.number c.args.text) (tables_of v)) (sym c.self.view_is) c.requires.limits in
    let known = new_known c.self.inside.texts.rows c.self.inside.next c.args.number c.args.text (sym c.holds.ensures ∙ c.if-holds.false) limits in
    omega (arith, known)

pub invariant_of-self-2 : goal.invariant_of-self-2
invariant_of-self-2 c =
    let numbered = subst (λ (v : LibraryView). IsNumbered (PutRecord c.args.number c.args.text) (tables_of v)) (sym c.self.view_is) c.requires.numbered in
    let limits = subst (λ (v : LibraryView). KeepsLimits (PutRecord c.args.number c.args.text) (tables_of v)) (sym c.self.view_is) c.requires.limits in
    let some : 1 ≤ c.self.inside.room = omega (arith, ap (λ v. v.spare) c.self.view_is, c.requires.room) in
    let room : HasRoom c.insert.new.self.spare c.insert-2.new.self.spare (c.self.inside.room - 1) = record {
      in_texts = omega (arith, c.insert.ensures.kept, c.self.invariant.1.in_texts);
      on_shelf = omega (arith, c.insert-2.ensures.kept, c.self.invariant.1.on_shelf);
    } in (
      rw (c.insert.ensures.rows, c.insert-2.ensures.rows, c.as_slice-size.ensures)
          (new_kept c.self.inside.texts.rows c.self.inside.shelf.rows c.self.inside.bytes c.self.inside.next c.args.number c.args.text c.args.mol
          c.self.invariant.0 (sym c.holds.ensures ∙ c.if-holds.false) numbered c.requires.molecule limits),
      room,
    )

pub returns-clause-tables : goal.returns-clause-tables
returns-clause-tables c =
    let numbered = subst (λ (v : LibraryView). IsNumbered (PutRecord c.args.number c.args.text) (tables_of v)) (sym c.self.view_is) c.requires.numbered in
    let limits = subst (λ (v : LibraryView). KeepsLimits (PutRecord c.args.number c.args.text) (tables_of v)) (sym c.self.view_is) c.requires.limits in
    rw (sym c.self.view_is, c.insert.ensures.rows)
    (new_tables c.self.inside.texts.rows c.self.inside.next c.args.number c.args.text (sym c.holds.ensures ∙ c.if-holds.false) numbered)
