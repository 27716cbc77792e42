use Rattle.std.proofs.Common.{◌≡◌, ◌∙◌, true, arith, sym, subst}
use Rattle.mk_kept.specs.Saved.{SavedView, is_named}
use Rattle.mk_kept.proofs.SavedSearchLemmas.{held_kept, held_tables, new_kept, new_tables}
use Rattle.mk_kept.proofs.saved.Saved.put_cursor.Goals as goal

pub invariant_of-self : goal.invariant_of-self
invariant_of-self c =
    let named = subst (λ (v : SavedView). is_named c.args.name v.queries ≡ true) (sym c.self.view_is) c.requires.place in
    rw (c.replace.ensures.rows, c.max-self-inside.ensures)
    (held_kept c.self.inside.queries.entries c.self.inside.bytes c.self.inside.next_cursor c.self.inside.cursors.rows
    (record { number = c.args.number; item = record { name = c.args.name; place = c.args.place } }) c.self.invariant
    (record { known = c.requires.known; below = omega arith; named = named; short = c.requires.short }))

pub returns-then-holds-clause-tables : goal.returns-then-holds-clause-tables
returns-then-holds-clause-tables c =
    rw (← c.self.view_is, c.replace.ensures.rows, c.max-self-inside.ensures)
    (held_tables c.self.inside.queries.entries c.self.inside.bytes c.self.inside.next_cursor c.self.inside.cursors.rows
    (record { number = c.args.number; item = record { name = c.args.name; place = c.args.place } }) _
    (sym c.holds.ensures ∙ c.if-holds.true))

pub invariant_of-self-2 : goal.invariant_of-self-2
invariant_of-self-2 c =
    let named = subst (λ (v : SavedView). is_named c.args.name v.queries ≡ true) (sym c.self.view_is) c.requires.place in
    rw (c.insert.ensures.rows, c.max-self-inside.ensures)
    (new_kept c.self.inside.queries.entries c.self.inside.bytes c.self.inside.next_cursor c.self.inside.cursors.rows
    (record { number = c.args.number; item = record { name = c.args.name; place = c.args.place } }) c.self.invariant
    (record { known = c.requires.known; below = omega arith; named = named; short = c.requires.short }))

pub returns-clause-tables : goal.returns-clause-tables
returns-clause-tables c =
    rw (← c.self.view_is, c.insert.ensures.rows, c.max-self-inside.ensures)
    (new_tables c.self.inside.queries.entries c.self.inside.bytes c.self.inside.next_cursor c.self.inside.cursors.rows
    (record { number = c.args.number; item = record { name = c.args.name; place = c.args.place } }) _
    (sym c.holds.ensures ∙ c.if-holds.false))
