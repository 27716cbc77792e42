use Rattle.std.proofs.Common.{◌≡◌, ◌∙◌, ◌+◌, ◌≤◌, length, true, arith, sym, ap}
use Rattle.mk_rows.specs.Rows.{holds}
use Rattle.mk_library.specs.Library.{HasRoom}
use Rattle.mk_library.specs.Records.{is_held}
use Rattle.mk_library.proofs.ChangeLemmas.{former_within, out_kept, out_tables}
use Rattle.mk_library.proofs.RecordsLemmas.{freed_there, held_has, held_of, holds_beside}
use Rattle.mk_library.proofs.library.Library.take_out.Goals as goal

-- ---- the number is held

pub invariant_of-self : goal.invariant_of-self
invariant_of-self c =
    let held : holds c.args.number c.self.inside.texts.rows ≡ true = held_of c.args.number c.self.inside.texts.rows ∙ ap (λ v. is_held c.args.number v.records) c.self.view_is ∙ c.requires in
    absurd (held_has c.args.number c.self.inside.texts.rows held c.in_default.ensures.item)

pub returns-in_default-clause-tables : goal.returns-in_default-clause-tables
returns-in_default-clause-tables c =
    let held : holds c.args.number c.self.inside.texts.rows ≡ true = held_of c.args.number c.self.inside.texts.rows ∙ ap (λ v. is_held c.args.number v.records) c.self.view_is ∙ c.requires in
    absurd (held_has c.args.number c.self.inside.texts.rows held c.in_default.ensures.item)

-- ---- and is taken out

pub overflow_sub-self : goal.overflow_sub-self
overflow_sub-self c =
    let within = former_within c.args.number c.in-Some.text c.self.inside.texts.rows c.in-Some.ensures.item in
    omega (arith, within, c.self.invariant.0.counted, ap length c.as_slice.ensures)

pub invariant_of-self-2 : goal.invariant_of-self-2
invariant_of-self-2 c =
    let held : holds c.args.number c.self.inside.texts.rows ≡ true = held_of c.args.number c.self.inside.texts.rows ∙ ap (λ v. is_held c.args.number v.records) c.self.view_is ∙ c.requires in
    let beside : holds c.args.number c.self.inside.shelf.rows ≡ true = holds_beside c.args.number c.self.inside.texts.rows c.self.inside.shelf.rows c.self.invariant.0.held ∙ held in
    let freed : c.self.inside.shelf.spare + 1 ≤ c.remove-2.new.self.spare =
    freed_there c.remove-2.result _ _ (λ none. held_has c.args.number c.self.inside.shelf.rows beside
    (c.remove-2.ensures.item ∙ none)) c.remove-2.ensures.freed in
    let room : HasRoom c.remove.new.self.spare c.remove-2.new.self.spare c.saturating_add-self-inside.result = record {
      in_texts = omega (arith, c.in-Some.ensures.freed, c.self.invariant.1.in_texts, c.saturating_add-self-inside.ensures);
      on_shelf = omega (arith, freed, c.self.invariant.1.on_shelf, c.saturating_add-self-inside.ensures);
    } in (
      rw (c.in-Some.ensures.rows, c.remove-2.ensures.rows, c.as_slice.ensures)
          (out_kept c.self.inside.texts.rows c.self.inside.shelf.rows c.self.inside.bytes c.self.inside.next c.args.number c.in-Some.text c.self.invariant.0 c.in-Some.ensures.item),
      room,
    )

pub returns-clause-tables : goal.returns-clause-tables
returns-clause-tables c = rw (sym c.self.view_is, c.in-Some.ensures.rows) (out_tables c.self.inside.texts.rows c.self.inside.next c.args.number)
