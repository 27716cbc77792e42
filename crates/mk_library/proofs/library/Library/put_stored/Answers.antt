use Rattle.std.proofs.Common.{◌∙◌, ◌-◌, ◌≤◌, ap, arith, sym, subst}
use Rattle.mk_library.specs.Library.{HasRoom, LibraryView}
use Rattle.mk_library.specs.Steps.{GoesBehind}
use Rattle.mk_library.proofs.RecordsLemmas.{holds_beside}
use Rattle.mk_library.proofs.StoredLemmas.{stored_kept, stored_new, stored_records}
use Rattle.mk_library.proofs.library.Library.put_stored.Goals as goal

pub insert-requires-clause-new : goal.insert-requires-clause-new
insert-requires-clause-new c =
    let place = subst (λ (v : LibraryView). GoesBehind v.next_record v.records (record { number = c.args.number; text = c.args.text })) (sym c.self.view_is) c.requires.place in
    stored_new c.args.number c.self.inside.next c.args.text c.self.inside.texts.rows place

pub insert-requires-2-clause-new : goal.insert-requires-2-clause-new
insert-requires-2-clause-new c =
    let place = subst (λ (v : LibraryView). GoesBehind v.next_record v.records (record { number = c.args.number; text = c.args.text })) (sym c.self.view_is) c.requires.place in
    holds_beside c.args.number c.self.inside.texts.rows c.self.inside.shelf.rows c.self.invariant.0.held
    ∙ stored_new c.args.number c.self.inside.next c.args.text c.self.inside.texts.rows place

pub invariant_of-self : goal.invariant_of-self
invariant_of-self c =
    let place = subst (λ (v : LibraryView). GoesBehind v.next_record v.records (record { number = c.args.number; text = c.args.text })) (sym c.self.view_is) c.requires.place in
    let some : 1 ≤ c.self.inside.room = omega (arith, ap (λ v. v.spare) c.self.view_is, c.requires.room) in
    let room : HasRoom c.insert.new.self.spare c.insert-2.new.self.spare (c.self.inside.room - 1) = record {
      in_texts = omega (arith, c.insert.ensures.kept, c.self.invariant.1.in_texts);
      on_shelf = omega (arith, c.insert-2.ensures.kept, c.self.invariant.1.on_shelf);
    } in (
      rw (c.insert.ensures.rows, c.insert-2.ensures.rows, c.as_slice-size.ensures)
          (stored_kept c.self.inside.texts.rows c.self.inside.shelf.rows c.self.inside.bytes c.self.inside.next c.args.number c.args.text c.args.mol c.self.invariant.0 place c.requires.molecule),
      room,
    )

pub returns-clause-records : goal.returns-clause-records
returns-clause-records c =
    let place = subst (λ (v : LibraryView). GoesBehind v.next_record v.records (record { number = c.args.number; text = c.args.text })) (sym c.self.view_is) c.requires.place in
    rw (sym c.self.view_is, c.insert.ensures.rows) (stored_records c.args.number c.self.inside.next c.args.text c.self.inside.texts.rows place)
