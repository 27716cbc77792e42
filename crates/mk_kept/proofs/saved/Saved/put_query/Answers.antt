use Rattle.std.proofs.Common.{◌∙◌, ◌≤◌, sym, subst}
use Rattle.mk_outside.specs.declared.tables.Change.TheVariants.{PutQuery}
use Rattle.mk_kept.specs.declared.saved.Kept.{Kept}
use Rattle.mk_kept.specs.Saved.{SavedView, saved_tables}
use Rattle.mk_kept.specs.SavedPending.{IsInPlace}
use Rattle.mk_kept.proofs.SavedLemmas.{entries_push, on_ok, put_kept, put_tables, rows_push}
use Rattle.mk_kept.proofs.saved.Saved.put_query.Goals as goal

pub invariant_of-self : goal.invariant_of-self
invariant_of-self c =
    let es = c.self.inside.queries.entries in
    let kept : Kept = record { number = c.args.number; text = c.args.text; query = c.args.query } in
    let place = subst (λ (v : SavedView). IsInPlace (PutQuery c.args.number c.args.name.items c.args.text) (saved_tables v)) (sym c.self.view_is) c.requires.place in
    let room = subst (λ (v : SavedView). 1 ≤ v.query_room) (sym c.self.view_is) c.requires.room in
    let entries = on_ok c.insert.result (c.insert.ensures.succeeds room) c.insert.ensures.entries ∙ entries_push es c.args.name kept place.1 in
    rw (entries, c.as_slice.ensures)
    (put_kept es (c.args.name, kept) c.self.inside.bytes c.self.inside.next_cursor c.self.inside.cursors.rows c.self.invariant
    (record { name = c.requires.name; number = c.requires.least; meant = c.requires.meant }) place)

pub returns-clause-tables : goal.returns-clause-tables
returns-clause-tables c =
    let es = c.self.inside.queries.entries in
    let kept : Kept = record { number = c.args.number; text = c.args.text; query = c.args.query } in
    let place = subst (λ (v : SavedView). IsInPlace (PutQuery c.args.number c.args.name.items c.args.text) (saved_tables v)) (sym c.self.view_is) c.requires.place in
    let room = subst (λ (v : SavedView). 1 ≤ v.query_room) (sym c.self.view_is) c.requires.room in
    let entries = on_ok c.insert.result (c.insert.ensures.succeeds room) c.insert.ensures.entries ∙ entries_push es c.args.name kept place.1 in
    rw (← c.self.view_is, entries) (put_tables es (c.args.name, kept) c.self.inside.next_cursor _ place)

pub returns-clause-queries : goal.returns-clause-queries
returns-clause-queries c =
    let es = c.self.inside.queries.entries in
    let kept : Kept = record { number = c.args.number; text = c.args.text; query = c.args.query } in
    let place = subst (λ (v : SavedView). IsInPlace (PutQuery c.args.number c.args.name.items c.args.text) (saved_tables v)) (sym c.self.view_is) c.requires.place in
    let room = subst (λ (v : SavedView). 1 ≤ v.query_room) (sym c.self.view_is) c.requires.room in
    let entries = on_ok c.insert.result (c.insert.ensures.succeeds room) c.insert.ensures.entries ∙ entries_push es c.args.name kept place.1 in
    rw (← c.self.view_is, entries) (rows_push es (c.args.name, kept))
